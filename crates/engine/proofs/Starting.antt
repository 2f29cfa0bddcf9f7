-- A new iterator over the memtables and the tables of a directory.
use Rattle.std.proofs.Common.{ap, ◌∙◌, ◌≡◌, inl, inr, ℕ, zero, suc, Bool, false, Option, Some, None, IsSome, ◌≤◌, ◌++◌, List, [], ◌∷◌, Contains, map, refl, sym, subst, arith}
use Rattle.std.specs.Cmp.{IsTotalOrder}
use Rattle.std.specs.declared.cmp.Ordering.{Ordering}
use Rattle.std.specs.FinMap.{IsAntisymmetric}
use Rattle.ikey.specs.Orders.{Order}
use Rattle.ikey.specs.Sources.{IsNewerThan, SameEntries, SameViewLaw, joined}
use Rattle.ikey.specs.Views.{Contents, IsView}
use Rattle.ikey.specs.declared.entry.Entry.{Entry}
use Rattle.ikey.proofs.SearchedSources.{among_split, among_front, among_back}
use Rattle.edits.specs.Names.{IsNumbered}
use Rattle.edits.specs.declared.field.PlacedTable.{PlacedTable}
use Rattle.memtables.specs.Memories.{logged_in}
use Rattle.version_get.specs.Gets.{IsTooLong}
use Rattle.cache.specs.Tables.{table_at}
use Rattle.recover.proofs.Memberships.{one_of_tables}
use Rattle.recover.specs.Tables.{HasTable, InTables, TableContent, tabled}
use Rattle.level_cursor.specs.InRows.{ListsNumber}
use Rattle.db_cursor.specs.Scans.{BeginsScan, MayBeginScan, reads_table, tables_of}
use Rattle.db_cursor.specs.Whole.{Whole}
use Rattle.db_cursor.specs.declared.scan.Scan.{Scan}
use Rattle.version_laws.specs.Laws.{VersionLaw}
use Rattle.version_laws.specs.Places.{HasVersion, table_sources}
use Rattle.store.specs.Files.{Files}
use Rattle.table_access.specs.Tables.{Seen}
use Rattle.recover.specs.Limits.{IsWithinLimits}
use Rattle.engine.specs.OpenDb.{OpenDb, whole_of}
use Rattle.engine.specs.internal.Standing.{entries_of, HasLog, HasTables}
use Rattle.engine.specs.Origins.{ComesFrom}
use Rattle.engine.specs.internal.Live.{IsLiveWalk}
use Rattle.machine.specs.Views.{AreSortedPairs}
use Rattle.engine.proofs.Origins.{origins_of}
use Rattle.engine.proofs.Reading.{may_found, passes_limit, tables_found}
use Rattle.engine.proofs.Tabled.{appendable_of, logged_newer}

-- what is newer than entries is newer than the same in another order
newer_as : (front old new : List Entry) → SameEntries new old → IsNewerThan front old → IsNewerThan front new
newer_as front old new same newer a b i j key = newer a b i ((same b).0 j) key

-- the entries in memory before the same in another order
in_front : (inserts old new : List Entry) → SameEntries new old → SameEntries (old ++ inserts) (inserts ++ new)
in_front inserts old new same e = (
  λ i. elim (among_split old inserts e i) [ inl j ↦ among_back inserts new e ((same e).1 j) | inr j ↦ among_front inserts new e j ],
  λ i. elim (among_split inserts new e i) [ inl j ↦ among_back old inserts e j | inr j ↦ among_front old inserts e ((same e).0 j) ],
)

-- the contents of a table that is listed
content_of : (contents : List TableContent) (p : PlacedTable) → Contains (map (λ (content : TableContent). content.placed) contents) p → (c : TableContent) × InTables contents c × (c.placed ≡ p)
content_of [] p (k, less, is) = absurd (omega (arith, less))
content_of (c ∷ contents) p (zero, less, is) = (c, inl refl, is)
content_of (c ∷ contents) p (suc k, less, is) = let rest = content_of contents p (k, omega (arith, less), is) in (rest.0, inr rest.1, rest.2)

some_of : (o : Option (List ℕ)) (file : List ℕ) → o ≡ Some file → IsSome o
some_of o file is = subst (λ (x : Option (List ℕ)). IsSome x) (sym is) refl

-- A new iterator goes over the pairs of the map, in the order of their keys, as far as its tables
-- tell.
abbrev pub BeginsLiveWalk : {K : Type 0} {g : _} → (List ℕ → List ℕ → Ordering) → Bool → Bool → Contents → Whole → Scan K g → Type 0
BeginsLiveWalk cmp limited damaged map whole iterator =
    (pairs : List (List ℕ × List ℕ)) × AreSortedPairs cmp map pairs × IsLiveWalk cmp limited damaged whole iterator (record { pairs = pairs; place = None })

pub starts_walk : {K : Type 0} {g : _} → (order : Order) (limited damaged : Bool) (source : Seen) (db : OpenDb K g) (scan : Scan K g) (ideal : Files) (contents : List TableContent) (sequence : ℕ) (view_map : Contents)
    → SameViewLaw → VersionLaw → IsTotalOrder order.cmp → IsAntisymmetric order.cmp → ComesFrom order damaged source.facts.files ideal → HasLog order ideal contents db → HasTables order source contents db
    → scan.walk.sequence ≤ db.memory.last → sequence ≤ db.memory.last → IsView (entries_of contents db) sequence view_map
    → BeginsScan order db.tables sequence (whole_of source db) scan → MayBeginScan order db.tables sequence (whole_of source db) scan → tables_of scan ≡ db.tables
    → ((number : ℕ) → reads_table scan number → ListsNumber db.tables number)
    → (limited ≡ false → IsWithinLimits order ideal) → BeginsLiveWalk order.cmp limited damaged view_map (whole_of source db) scan
starts_walk order limited damaged source db scan ideal contents sequence view_map same version total exact from log tables bound within view begins may over reads limits =
    let files = source.facts.files in
    let inserts = (logged_in db.memory) in
    let found = tables_found order source ideal contents db version total exact log tables in
    let origins = origins_of order source db damaged ideal contents from log tables in
    let newer = logged_newer order ideal contents inserts db.memory.last (appendable_of order ideal db.log.number db.log.end contents inserts db.memory.last log.directory) in
    let newer_found = newer_as inserts (tabled contents) (joined (table_sources found.0)) found.2 newer in
    let sees : IsView (inserts ++ joined (table_sources found.0)) sequence view_map =
    (same (entries_of contents db) (inserts ++ joined (table_sources found.0)) sequence (in_front inserts (tabled contents) (joined (table_sources found.0)) found.2)).0 view_map view in
    let start = may found.0 view_map within tables.sound (may_found order source ideal contents found.0 db total tables found.1 origins).1 newer_found sees in (
      start.0,
      start.1,
      record {
        may = record { bound = bound; scan = start.2 };
        limits = λ is whole past.
            let placed : PlacedTable = past.0 in
            let it = from.undamaged whole in
            let found_whole : HasVersion order files db.tables found.0 = subst (λ (fs : Files). HasVersion order fs db.tables found.0) it found.1 in
            let here : Contains db.tables placed = subst (λ (ps : List PlacedTable). Contains ps placed) over past.1 in
            let content = content_of found.0 placed (subst (λ (ps : List PlacedTable). Contains ps placed) (sym found.1.placed) here) in
            let long : IsTooLong order source content.0.placed = subst (λ (p : PlacedTable). IsTooLong order source p) (sym content.2) (past.2, past.3, past.4) in
            passes_limit order source contents found.0 db content.0 (subst (λ (fs : Files). HasLog order fs contents db) it log) tables found_whole content.1 long
            (subst (λ (fs : Files). IsWithinLimits order fs) it (limits is));
        intact = λ whole cut torn.
            (begins found.0 view_map within tables.sound (subst (λ (fs : Files). HasVersion order fs db.tables found.0) (from.undamaged whole) found.1) newer_found sees).2.intact cut torn;
        tables = λ number read.
            let one = reads number read in
            let content = content_of found.0 one.0 (subst (λ (ps : List PlacedTable). Contains ps one.0) (sym found.1.placed) one.1) in
            let has : HasTable order ideal content.0 = one_of_tables order ideal found.0 content.0 found.1.are content.1 in
            let is : content.0.placed.table.number ≡ number = ap (λ (p : PlacedTable). p.table.number) content.2 ∙ one.2 in
            let origin = origins one.0 one.1 in (
              subst (λ (ps : List PlacedTable). ListsNumber ps number) (sym over) one,
              subst IsNumbered is has.numbered,
              subst (λ (k : ℕ). IsSome (table_at files k)) one.2 (some_of (table_at files one.0.table.number) origin.bytes origin.there),
            );
      },
    )
