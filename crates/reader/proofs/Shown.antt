-- What a map that is shown says of the tables and of the logs' entries.
use Rattle.std.proofs.Common.{◌≡◌, inl, inr, ℕ, ◌≤◌, suc, IsTrue, IsSome, ◌⊎◌, Option, Some, None, List, [], ◌∷◌, ◌++◌, Contains, map, unwrap_or, refl, sym, ap, subst, ◌∙◌, arith}
use Rattle.std.specs.Cmp.{IsTotalOrder}
use Rattle.std.specs.FinMap.{IsAntisymmetric}
use Rattle.cache.specs.Tables.{table_at}
use Rattle.coding.specs.declared.error.DbError.{DbError}
use Rattle.coding.specs.declared.error.DbError.TheVariants as error
use Rattle.cursor.specs.Moves.{Refuses}
use Rattle.edits.specs.declared.field.PlacedTable.{PlacedTable}
use Rattle.ikey.specs.declared.entry.Entry.{Entry}
use Rattle.ikey.specs.Orders.{Order}
use Rattle.ikey.specs.Sources.{IsNewerThan, joined, SameEntries, IsAnswer}
use Rattle.ikey.specs.Views.{Among, Contents, IsValueAt}
use Rattle.memtables.specs.Memories.{logged_in}
use Rattle.memtables.specs.PlaceLaws.{left_kept, left_logged}
use Rattle.memtables.specs.Places.{LeavesMemories}
use Rattle.recover.specs.Directory.{IsConsistent, entries_in}
use Rattle.recover.specs.Tables.{TableContent, InTables, tabled}
use Rattle.store.specs.Files.{Files}
use Rattle.table_access.specs.Tables.{Carries}
use Rattle.version_get.specs.Gets.{HasTablesOf, HasNoTablesOf, IsOneTooLong, IsTooLong}
use Rattle.version_laws.specs.Laws.{VersionLaw}
use Rattle.version_laws.specs.Places.{table_sources}
use Rattle.db_cursor.specs.Scans.{IsOnePastLimit, KeepsScan, KeepsUpTo, reads_memory, reads_table, tables_of}
use Rattle.db_cursor.specs.internal.Scanning.{ScanIsKept}
use Rattle.db_cursor.specs.internal.SourceLaws.{keeps_any}
use Rattle.db_cursor.specs.Whole.{Whole}
use Rattle.db_cursor.specs.declared.scan.Scan.{Scan}
use Rattle.reader.specs.internal.Iterators.{walked_of}
use Rattle.reader.specs.Moving.{KeepsWalks}
use Rattle.reader.specs.internal.Shows.{Shows, ShowsNone}
use Rattle.reader.specs.Refusals.{RefusesRead}
use Rattle.table.specs.Reading.{IsErrorStill}
use Rattle.std.specs.declared.cmp.Ordering.{Ordering}

-- the value of what a search has found
pub answered : (source : List Entry) (sequence : ℕ) (key : List ℕ) (answer : Option (Option (List ℕ))) → IsAnswer source sequence key answer → IsValueAt source sequence key (unwrap_or answer None)
answered source sequence key (Some value) a = inl a
answered source sequence key None a = inr (a, refl)

-- ---- members

has_placed : (contents : List TableContent) (c : TableContent) → InTables contents c → Contains (map (λ (content : TableContent). content.placed) contents) c.placed
has_placed [] c i = absurd i
has_placed (x ∷ contents) c (inl e) = (0, omega arith, ap (λ (t : TableContent). t.placed) (sym e))
has_placed (x ∷ contents) c (inr i) = let rest = has_placed contents c i in (suc rest.0, omega (arith, rest.1), rest.2)

-- ---- a map that is shown

module _ (order : Order) (whole : Whole) (tables : List PlacedTable) (contents : Contents) (shown : Shows order whole tables contents) where
  -- The files of its tables have the entries of the directory's.
  pub tables_found : VersionLaw → IsTotalOrder order.cmp → IsAntisymmetric order.cmp
      → (found : List TableContent) × HasTablesOf order whole.seen tables found × SameEntries (joined (table_sources found)) (tabled shown.directory.tables)
  tables_found law total exact =
      let v = law order whole.seen.facts.files shown.directory tables total exact shown.consistent shown.version shown.in_order in
      (v.0, (shown.sound, v.1), v.2)

  -- what is in the logs is newer
  pub newer : IsNewerThan (logged_in whole.memory) (tabled shown.directory.tables)
  newer a b i j key = shown.consistent.newer a b (subst (λ (es : List Entry). Among es a) shown.logs i) j key

  -- all entries
  pub entries_are : tabled shown.directory.tables ++ logged_in whole.memory ≡ entries_in shown.directory
  entries_are = ap (λ (es : List Entry). tabled shown.directory.tables ++ es) shown.logs

  -- calls that only read leave it
  pub shown_read : {numbers : ℕ → Type 0} (new : Whole) → Carries order.cmp numbers whole.seen new.seen → LeavesMemories whole.memory new.memory → IsTrue new.seen.facts.faithful → Shows order new tables contents
  shown_read new carries left f = record {
    directory = shown.directory;
    consistent = subst (λ (fs : Files). IsConsistent order fs shown.directory) (sym (carries.reads.files f)) shown.consistent;
    version = shown.version;
    in_order = shown.in_order;
    sound = carries.sound f shown.sound;
    logs = left_logged whole.memory new.memory left ∙ shown.logs;
    last = left.last ∙ shown.last;
    view = shown.view;
  }

-- ---- refusals

-- one of the tables is past a limit
past_limit : (order : Order) (whole : Whole) (tables : List PlacedTable) (found : List TableContent) → HasTablesOf order whole.seen tables found
    → (content : TableContent) × InTables found content × IsTooLong order whole.seen content.placed → IsOnePastLimit order.cmp tables whole
past_limit order whole tables found has long =
    (long.0.placed, subst (λ (ps : List PlacedTable). Contains ps long.0.placed) has.1.placed (has_placed found long.0 long.1), long.2.0, long.2.1, long.2.2)

module _ (order : Order) (law : VersionLaw) (total : IsTotalOrder order.cmp) (exact : IsAntisymmetric order.cmp) (whole : Whole) (tables : List PlacedTable) where
  none_shown : HasNoTablesOf order whole.seen tables → ShowsNone order whole tables
  none_shown none contents shown = let t = tables_found order whole tables contents shown law total exact in none t.0 t.1

  limit_passed : HasNoTablesOf order whole.seen tables ⊎ IsOneTooLong order whole.seen tables → (contents : Contents) → Shows order whole tables contents → IsOnePastLimit order.cmp tables whole
  limit_passed (inl none) contents shown = absurd (none_shown none contents shown)
  limit_passed (inr long) contents shown = let t = tables_found order whole tables contents shown law total exact in past_limit order whole tables t.0 t.1 (long t.0 t.1)

  -- why the tables aren't read
  pub tables_refused : (new : Whole) (e : DbError) → IsErrorStill e whole.seen.facts new.seen.facts → Refuses e whole.seen.facts new.seen.facts (HasNoTablesOf order whole.seen tables) (IsOneTooLong order whole.seen tables)
      → RefusesRead order tables whole new e
  tables_refused new error.OutOfMemory still h = still
  tables_refused new error.Io still h = h
  tables_refused new (error.Corrupt file what) still h = λ f. none_shown (h f)
  tables_refused new (error.Unsupported what) still h = λ f. limit_passed (h f)
  tables_refused new _ still h = absurd h

-- ---- walks

module _ {K : Type 0} {g : _} (cmp : List ℕ → List ℕ → Ordering) (kept : (scan : Scan K g) → ScanIsKept cmp scan) where
  -- the files of its tables are the same
  limits_kept : (scan : Scan K g) (old new : Whole) → KeepsScan cmp scan old new → IsOnePastLimit cmp (tables_of scan) new → IsOnePastLimit cmp (tables_of scan) old
  limits_kept scan old new keeps past = (past.0, past.1, past.2, sym (keeps.files past.0.table.number (inl (past.0, past.1, refl))) ∙ past.3, past.4)

  -- it stays where what any scan reads is the same
  pub walks_kept : (old new : Whole) → ((sequence : ℕ) → KeepsUpTo cmp sequence old new) → old.memory.last ≤ new.memory.last → (scan : Scan K g) → KeepsWalks cmp scan old new
  walks_kept old new all last scan limited walk h =
      let keeps : KeepsScan cmp scan old new = keeps_any cmp (reads_memory scan) (reads_table scan) scan.walk.sequence old new (all scan.walk.sequence) in
      record {
        bound = (let within : scan.walk.sequence ≤ old.memory.last = h.bound in omega (arith, within, last));
        scan = kept scan old new (walked_of walk) keeps h.scan;
        limits = λ is past. h.limits is (limits_kept scan old new keeps past);
        tables = λ number read. let there = h.tables number read in (there.0, there.1, subst (λ (file : Option (List ℕ)). IsSome file) (sym (keeps.files number read)) there.2);
      }

-- what any scan reads is the same after a call that only reads
pub keeps_read : {numbers : ℕ → Type 0} (cmp : List ℕ → List ℕ → Ordering) (old new : Whole) → Carries cmp numbers old.seen new.seen → LeavesMemories old.memory new.memory → IsTrue new.seen.facts.faithful
    → (sequence : ℕ) → KeepsUpTo cmp sequence old new
keeps_read cmp old new carries left f sequence = record {
  memory = λ cursor within. left_kept cmp cursor old.memory new.memory left;
  files = λ number. ap (λ (fs : Files). table_at fs number) (carries.reads.files f);
  sound = carries.sound f;
}
