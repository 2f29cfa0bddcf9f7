-- What a map that may be shown says of the tables and of the entries in memory.
use Rattle.std.proofs.Common.{◌≡◌, ◌++◌, ◌≤◌, ℕ, IsTrue, Option, Some, None, List, unwrap_or, inl, sym, subst, arith}
use Rattle.std.specs.Cmp.{IsTotalOrder}
use Rattle.std.specs.FinMap.{IsAntisymmetric, get}
use Rattle.std.specs.declared.cmp.Ordering.{Ordering}
use Rattle.edits.specs.declared.field.PlacedTable.{PlacedTable}
use Rattle.ikey.specs.declared.entry.Entry.{Entry}
use Rattle.ikey.specs.Orders.{Order}
use Rattle.ikey.specs.Sources.{BehindLaw, FrontLaw, IsAnswer, IsNewerThan, SameViewLaw, joined}
use Rattle.ikey.specs.Views.{Contents, IsUnseen, IsValueAt, IsView, view-value}
use Rattle.memtables.specs.Memories.{logged_in}
use Rattle.memtables.specs.PlaceLaws.{left_logged}
use Rattle.memtables.specs.Places.{LeavesMemories}
use Rattle.recover.specs.Directory.{entries_in}
use Rattle.recover.specs.Tables.{tabled}
use Rattle.store.specs.Files.{Files}
use Rattle.table_access.specs.Possible.{MayBeTable}
use Rattle.table_access.specs.Tables.{Carries, Seen}
use Rattle.table_access.proofs.Wholes.{may_be}
use Rattle.version_get.specs.Gets.{SaysOfEach}
use Rattle.version_laws.specs.Laws.{VersionLaw}
use Rattle.version_laws.specs.Places.{MayHaveVersion, table_sources}
use Rattle.version_laws.proofs.Fitting.{may_have}
use Rattle.db_cursor.specs.Scans.{KeepsScan, KeepsUpTo, MayBeginScan, reads_memory, reads_table}
use Rattle.db_cursor.specs.internal.Scanning.{MayBeIsKept}
use Rattle.db_cursor.specs.internal.SourceLaws.{keeps_any}
use Rattle.db_cursor.specs.Whole.{Whole}
use Rattle.db_cursor.specs.declared.scan.Scan.{Scan}
use Rattle.reader.specs.internal.Iterators.{walked_of}
use Rattle.reader.specs.internal.Shows.{MayShow, Shows}
use Rattle.reader.specs.Moving.{KeepsMayBe, MayBeginWalk}
use Rattle.reader.proofs.Shown.{answered, entries_are, newer, tables_found}
use Rattle.reader.proofs.Starting.{in_front, newer_as}

module _ (order : Order) (whole : Whole) (tables : List PlacedTable) (map : Contents) (shown : MayShow order whole tables map) where
  abbrev sources : List (List Entry)
  sources = table_sources shown.contents

  value_is : (key : List ℕ) (value : Option (List ℕ)) → IsValueAt (logged_in whole.memory ++ joined sources) whole.memory.last key value → value ≡ get map key
  value_is key value h = view-value (logged_in whole.memory ++ joined sources) whole.memory.last map key value shown.view h

  -- what the logs answer
  pub may_answer : FrontLaw → (key : List ℕ) (value : Option (List ℕ)) → IsAnswer (logged_in whole.memory) whole.memory.last key (Some value) → value ≡ get map key
  may_answer front key value a = value_is key value (inl (a.0, front (logged_in whole.memory) (joined sources) whole.memory.last a.0 shown.newer a.1, a.2, a.3))

  -- and where they have none, the tables
  pub tables_may_answer : BehindLaw → (key : List ℕ) (new : Seen) (answer : Option (Option (List ℕ))) → IsTrue new.facts.faithful → IsUnseen (logged_in whole.memory) whole.memory.last key
      → SaysOfEach order whole.seen new tables key whole.memory.last answer → unwrap_or answer None ≡ get map key
  tables_may_answer behind key new answer f unseen says =
      let in_tables : IsValueAt (joined sources) whole.memory.last key (unwrap_or answer None) = answered (joined sources) whole.memory.last key answer (says f shown.contents (shown.sound, shown.may)) in
      value_is key (unwrap_or answer None) (behind (logged_in whole.memory) (joined sources) whole.memory.last key (unwrap_or answer None) unseen in_tables)

  -- calls that only read leave it
  pub may_read : {numbers : ℕ → Type 0} (new : Whole) → Carries order.cmp numbers whole.seen new.seen → LeavesMemories whole.memory new.memory → IsTrue new.seen.facts.faithful → MayShow order new tables map
  may_read new carries left f =
      let logs : logged_in new.memory ≡ logged_in whole.memory = left_logged whole.memory new.memory left in
      record {
        contents = shown.contents;
        sound = carries.sound f shown.sound;
        may = subst (λ (fs : Files). MayHaveVersion (MayBeTable order.cmp) order fs tables shown.contents) (sym (carries.reads.files f)) shown.may;
        newer = subst (λ (es : List Entry). IsNewerThan es (joined sources)) (sym logs) shown.newer;
        view = subst (λ (es : List Entry). IsView (es ++ joined sources) new.memory.last map) (sym logs) (subst (λ (n : ℕ). IsView (logged_in whole.memory ++ joined sources) n map) (sym left.last) shown.view);
      }

-- a map that is shown may be
pub shown_may : (order : Order) (whole : Whole) (tables : List PlacedTable) (map : Contents) → SameViewLaw → VersionLaw → IsTotalOrder order.cmp → IsAntisymmetric order.cmp → Shows order whole tables map → MayShow order whole tables map
shown_may order whole tables map same version total exact shown =
    let inserts = logged_in whole.memory in
    let old = tabled shown.directory.tables in
    let found = tables_found order whole tables map shown version total exact in
    let new = joined (table_sources found.0) in
    let E : List Entry → Type 0 = λ es. IsView es whole.memory.last map in
    let U : ℕ → Type 0 = λ used. IsView (entries_in shown.directory) used map in
    let view : IsView (old ++ inserts) whole.memory.last map = subst E (sym (entries_are order whole tables map shown)) (subst U (sym shown.last) shown.view) in
    record {
      contents = found.0;
      sound = shown.sound;
      may = may_have (MayBeTable order.cmp) order (λ placed file kept table. may_be order.cmp total placed file kept table) whole.seen.facts.files tables found.0 found.1.1;
      newer = newer_as inserts old new found.2 (newer order whole tables map shown);
      view = (same (old ++ inserts) (inserts ++ new) whole.memory.last (in_front inserts old new found.2)).0 map view;
    }

-- ---- walks

-- a new walk over a map that may be shown
pub may_start : {K : Type 0} {g : _} → (order : Order) (whole : Whole) (tables : List PlacedTable) (scan : Scan K g) (map : Contents) → scan.walk.sequence ≤ whole.memory.last → MayBeginScan order tables whole.memory.last whole scan
    → MayShow order whole tables map → MayBeginWalk order.cmp map whole scan
may_start order whole tables scan map bound begins shown =
    let start = begins shown.contents map (omega arith) shown.sound shown.may shown.newer shown.view in
    (start.0, start.1, record { bound = bound; scan = start.2 })

-- it stays where what any scan reads is the same
pub may_be_kept : {K : Type 0} {g : _} (cmp : List ℕ → List ℕ → Ordering) → ((scan : Scan K g) → MayBeIsKept cmp scan) → (old new : Whole) → ((sequence : ℕ) → KeepsUpTo cmp sequence old new) → old.memory.last ≤ new.memory.last
    → (scan : Scan K g) → KeepsMayBe cmp scan old new
may_be_kept cmp kept old new all last scan walk h =
    let keeps : KeepsScan cmp scan old new = keeps_any cmp (reads_memory scan) (reads_table scan) scan.walk.sequence old new (all scan.walk.sequence) in
    record {
      bound = (let within : scan.walk.sequence ≤ old.memory.last = h.bound in omega (arith, within, last));
      scan = kept scan old new (walked_of walk) keeps h.scan;
    }
