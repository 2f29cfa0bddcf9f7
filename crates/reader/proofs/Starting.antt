-- A new walk over the map of a reader.
use Rattle.std.proofs.Common.{◌≡◌, ◌∙◌, inl, inr, ℕ, zero, suc, true, Option, Some, IsSome, ◌≤◌, ◌++◌, List, [], ◌∷◌, Contains, map, refl, sym, ap, subst, arith}
use Rattle.std.specs.Cmp.{IsTotalOrder}
use Rattle.std.specs.FinMap.{IsAntisymmetric}
use Rattle.ikey.specs.Orders.{Order}
use Rattle.ikey.specs.Sources.{IsNewerThan, SameEntries, SameViewLaw, joined}
use Rattle.ikey.specs.Views.{Contents, IsView}
use Rattle.ikey.specs.declared.entry.Entry.{Entry}
use Rattle.ikey.proofs.SearchedSources.{among_split, among_front, among_back}
use Rattle.edits.specs.Names.{IsNumbered}
use Rattle.edits.specs.declared.field.PlacedTable.{PlacedTable}
use Rattle.memtables.specs.Memories.{logged_in}
use Rattle.cache.specs.Tables.{table_at}
use Rattle.recover.proofs.Memberships.{one_of_tables}
use Rattle.recover.specs.Directory.{entries_in}
use Rattle.recover.specs.Tables.{HasTable, InTables, TableContent, tabled}
use Rattle.level_cursor.specs.InRows.{ListsNumber}
use Rattle.db_cursor.specs.Scans.{BeginsScan, reads_table, tables_of}
use Rattle.db_cursor.specs.Whole.{Whole}
use Rattle.db_cursor.specs.declared.scan.Scan.{Scan}
use Rattle.version_laws.specs.Laws.{VersionLaw}
use Rattle.version_laws.specs.Places.{table_sources}
use Rattle.reader.specs.Moving.{BeginsWalk}
use Rattle.reader.specs.internal.Shows.{Shows}
use Rattle.reader.proofs.Shown.{entries_are, newer, tables_found}

-- what is newer than entries is newer than the same in another order
pub newer_as : (front old new : List Entry) → SameEntries new old → IsNewerThan front old → IsNewerThan front new
newer_as front old new same newer a b i j key = newer a b i ((same b).0 j) key

-- the entries in memory before the same in another order
pub in_front : (inserts old new : List Entry) → SameEntries new old → SameEntries (old ++ inserts) (inserts ++ new)
in_front inserts old new same e = (
  λ i. elim (among_split old inserts e i) [ inl j ↦ among_back inserts new e ((same e).1 j) | inr j ↦ among_front inserts new e j ],
  λ i. elim (among_split inserts new e i) [ inl j ↦ among_back old inserts e j | inr j ↦ among_front old inserts e ((same e).0 j) ],
)

-- the contents of a table that is listed
content_of : (contents : List TableContent) (p : PlacedTable) → Contains (map (λ (content : TableContent). content.placed) contents) p → (c : TableContent) × InTables contents c × (c.placed ≡ p)
content_of [] p (k, less, is) = absurd (omega (arith, less))
content_of (c ∷ contents) p (zero, less, is) = (c, inl refl, is)
content_of (c ∷ contents) p (suc k, less, is) = let rest = content_of contents p (k, omega (arith, less), is) in (rest.0, inr rest.1, rest.2)

some_of : (o : Option (List ℕ)) (file : List ℕ) → o ≡ Some file → IsSome o
some_of o file is = subst (λ (x : Option (List ℕ)). IsSome x) (sym is) refl

pub starts_walk : {K : Type 0} {g : _} → (order : Order) (whole : Whole) (tables : List PlacedTable) (scan : Scan K g) (contents : Contents) → SameViewLaw → VersionLaw → IsTotalOrder order.cmp → IsAntisymmetric order.cmp
    → scan.walk.sequence ≤ whole.memory.last → BeginsScan order tables whole.memory.last whole scan → tables_of scan ≡ tables → ((number : ℕ) → reads_table scan number → ListsNumber tables number)
    → Shows order whole tables contents → BeginsWalk order.cmp true contents whole scan
starts_walk order whole tables scan contents same version total exact bound begins over reads shown =
    let files = whole.seen.facts.files in
    let inserts = logged_in whole.memory in
    let old = tabled shown.directory.tables in
    let found = tables_found order whole tables contents shown version total exact in
    let new = joined (table_sources found.0) in
    let E : List Entry → Type 0 = λ es. IsView es whole.memory.last contents in
    let U : ℕ → Type 0 = λ used. IsView (entries_in shown.directory) used contents in
    let view : IsView (old ++ inserts) whole.memory.last contents = subst E (sym (entries_are order whole tables contents shown)) (subst U (sym shown.last) shown.view) in
    let sees : IsView (inserts ++ new) whole.memory.last contents = (same (old ++ inserts) (inserts ++ new) whole.memory.last (in_front inserts old new found.2)).0 contents view in
    let start = begins found.0 contents (omega arith) found.1.0 found.1.1 (newer_as inserts old new found.2 (newer order whole tables contents shown)) sees in (
      start.0,
      start.1,
      record {
        bound = bound;
        scan = start.2;
        limits = λ is. absurd (cc);
        tables = λ number read.
            let one = reads number read in
            let content = content_of found.0 one.0 (subst (λ (ps : List PlacedTable). Contains ps one.0) (sym found.1.1.placed) one.1) in
            let has : HasTable order files content.0 = one_of_tables order files found.0 content.0 found.1.1.are content.1 in
            let is : content.0.placed.table.number ≡ number = ap (λ (p : PlacedTable). p.table.number) content.2 ∙ one.2 in (
              subst (λ (ps : List PlacedTable). ListsNumber ps number) (sym over) one,
              subst IsNumbered is has.numbered,
              subst (λ (k : ℕ). IsSome (table_at files k)) is (some_of (table_at files content.0.placed.table.number) has.bytes has.there),
            );
      },
    )
