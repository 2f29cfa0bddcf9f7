-- What a scan over an open database stands for (LevelDB's include/leveldb/iterator.h).
use Rattle.std.specs.Prelude.{◌≡◌, ◌≤◌, ◌++◌, ◌⊎◌, ℕ, List, Some, None, IsSome, Contains, map, slice_get}
use Rattle.cache.specs.Tables.{table_at}
use Rattle.cursor.specs.declared.child.Child.{Child}
use Rattle.cursor.specs.declared.merge.Merge.{Merge}
use Rattle.cursor.specs.Cuts.{Cut}
use Rattle.cursor.specs.Merging.{AnyTorn, IsMerge, KeepsAll}
use Rattle.cursor.specs.Places.{Cmp, Listed}
use Rattle.cursor.specs.Views.{Walked}
use Rattle.cursor.specs.Walks.{IsWalk, walked}
use Rattle.edits.specs.declared.field.PlacedTable.{PlacedTable}
use Rattle.ikey.specs.Orders.{Order}
use Rattle.ikey.specs.Sources.{IsNewerThan, joined}
use Rattle.ikey.specs.Views.{Contents, IsView}
use Rattle.memtables.specs.Memories.{logged_in, table_in}
use Rattle.memtables.specs.Places.{MemoriesPlace, KeepsMemories}
use Rattle.recover.specs.Tables.{TableContent}
use Rattle.db_cursor.specs.declared.scan.Scan.{Scan}
use Rattle.level_cursor.specs.InRows.{IsTornFile, ListsNumber}
use Rattle.db_cursor.specs.declared.source_cursor.SourceCursor.{SourceCursor}
use Rattle.db_cursor.specs.Pairs.{listed_pair}
use Rattle.machine.specs.Views.{AreSortedPairs}
use Rattle.db_cursor.specs.Places.{ListsSource, KeepsSource, LimitedSource, OneGoesOver, TornSource}
use Rattle.db_cursor.specs.Rows.{IsGenerationOf}
use Rattle.db_cursor.specs.Whole.{Whole}
use Rattle.version_laws.specs.Places.{table_sources, HasVersion, MayHaveVersion}
use Rattle.table_access.specs.Possible.{MayBeTable}
use Rattle.table_access.specs.Tables.{IsSound}
use Rattle.table_access.specs.Values.{IsTablePastLimit}

-- merged cursors and source are this list and this place
abbrev pub ListsMerged : {K : Type 0} {g : _} → Cmp → Merge K (SourceCursor K g) → Whole → Listed → Type 0
ListsMerged cmp merge whole at = IsMerge cmp (ListsSource cmp) merge.children.items merge.current merge.target.items whole at

-- ---- what it reads

-- it reads the memtable of this generation
abbrev pub reads_memory : {K : Type 0} {g : _} → Scan K g → ℕ → Type 0
reads_memory scan generation = IsGenerationOf scan.generation scan.sealed generation

-- the tables of its version
abbrev pub tables_of : {K : Type 0} {g : _} → Scan K g → List PlacedTable
tables_of scan = scan.version.value.tables

-- the table of this number is one of its version, or of those that its cursors go over
abbrev pub reads_table : {K : Type 0} {g : _} → Scan K g → ℕ → Type 0
reads_table scan number = ListsNumber (tables_of scan) number ⊎ OneGoesOver scan.walk.cursor.children.items number

-- What a scan at the sequence number, over memtables of these generations and tables of these
-- numbers, reads of the first source is the same in the second.
pub record KeepsWhole (cmp : Cmp) (generations numbers : ℕ → Type 0) (sequence : ℕ) (old new : Whole) : Type 0 where
  pub memory : (cursor : MemoriesPlace) → generations cursor.generation → cursor.place.sequence ≤ sequence → KeepsMemories cmp cursor old.memory new.memory
  pub files : (number : ℕ) → numbers number → table_at new.seen.facts.files number ≡ table_at old.seen.facts.files number
  pub sound : IsSound cmp old.seen → IsSound cmp new.seen

-- What any scan at the sequence number reads of the first source is the same in the second.
pub record KeepsUpTo (cmp : Cmp) (sequence : ℕ) (old new : Whole) : Type 0 where
  pub memory : (cursor : MemoriesPlace) → cursor.place.sequence ≤ sequence → KeepsMemories cmp cursor old.memory new.memory
  pub files : (number : ℕ) → table_at new.seen.facts.files number ≡ table_at old.seen.facts.files number
  pub sound : IsSound cmp old.seen → IsSound cmp new.seen

-- what this scan reads
abbrev pub KeepsScan : {K : Type 0} {g : _} → Cmp → Scan K g → Whole → Whole → Type 0
KeepsScan cmp scan old new = KeepsWhole cmp (reads_memory scan) (reads_table scan) scan.walk.sequence old new

-- ---- what it is

-- the file of one of these tables is torn at this cut
abbrev pub IsOneTornFile : Cmp → List PlacedTable → Whole → Cut → Type 0
IsOneTornFile cmp tables whole cut =
    (placed : PlacedTable) × Contains tables placed × (file : List ℕ) × (table_at whole.seen.facts.files placed.table.number ≡ Some file) × IsTornFile cmp placed file cut

-- the file of one of these tables passes a limit of reading
abbrev pub IsOnePastLimit : Cmp → List PlacedTable → Whole → Type 0
IsOnePastLimit cmp tables whole =
    (placed : PlacedTable) × Contains tables placed × (file : List ℕ) × (table_at whole.seen.facts.files placed.table.number ≡ Some file) × IsTablePastLimit cmp file

-- one of its cursors reads something that passes a limit of reading
abbrev pub IsScanLimited : {K : Type 0} {g : _} → Cmp → Scan K g → Whole → Type 0
IsScanLimited {K} {g} cmp scan whole =
    (i : ℕ) × (child : Child (SourceCursor K g)) × (slice_get scan.walk.cursor.children.items i ≡ Some child) × LimitedSource cmp child.cursor whole

-- a block to which one of its cursors comes at this cut is none
abbrev pub IsScanTorn : {K : Type 0} {g : _} → Cmp → Scan K g → Whole → Cut → Type 0
IsScanTorn cmp scan whole cut = AnyTorn (TornSource cmp) scan.walk.cursor.children.items whole cut

-- The scan, over this source, is this list of pairs at this place, as far as the blocks of its
-- tables tell: it is each that they may have.
pub record MayBeScan {K : Type 0} {g : _} (cmp : Cmp) (scan : Scan K g) (whole : Whole) (at : Walked) : Type 0 where
  -- the memtables that it reads are there
  pub there : (generation : ℕ) → reads_memory scan generation → IsSome (table_in whole.memory generation)
  -- it reads no more than what a scan at its sequence number does
  pub bound : (old new : Whole) → KeepsScan cmp scan old new → KeepsAll (KeepsSource cmp) scan.walk.cursor.children.items old new
  pub limits : IsScanLimited cmp scan whole → IsOnePastLimit cmp (tables_of scan) whole
  pub torn : (cut : Cut) → IsScanTorn cmp scan whole cut → IsOneTornFile cmp (tables_of scan) whole cut
  pub walk : IsWalk cmp (ListsMerged cmp) scan.walk whole at

-- The scan, over this source, is this list of pairs at this place.
pub record IsScan {K : Type 0} {g : _} (cmp : Cmp) (scan : Scan K g) (whole : Whole) (at : Walked) : Type 0 where
  -- the memtables that it reads are there
  pub there : (generation : ℕ) → reads_memory scan generation → IsSome (table_in whole.memory generation)
  -- it reads no more than what a scan at its sequence number does
  pub bound : (old new : Whole) → KeepsScan cmp scan old new → KeepsAll (KeepsSource cmp) scan.walk.cursor.children.items old new
  pub limits : IsScanLimited cmp scan whole → IsOnePastLimit cmp (tables_of scan) whole
  -- the blocks of its tables are intact, so that its list is their own
  pub intact : (cut : Cut) → IsScanTorn cmp scan whole cut → ⊥
  pub walk : IsWalk cmp (ListsMerged cmp) scan.walk whole at

-- A new scan over a version of these tables, up to a sequence number, goes over the pairs of a view
-- in the order of their keys, and has no place. It is the view of whichever contents the tables may
-- have, as far as their blocks tell.
abbrev pub MayBeginScan : {K : Type 0} {g : _} → Order → List PlacedTable → ℕ → Whole → Scan K g → Type 0
MayBeginScan order tables sequence whole scan = (contents : List TableContent) (view : Contents) → sequence ≤ whole.memory.last
    → IsSound order.cmp whole.seen → MayHaveVersion (MayBeTable order.cmp) order whole.seen.facts.files tables contents → IsNewerThan (logged_in whole.memory) (joined (table_sources contents))
    → IsView (logged_in whole.memory ++ joined (table_sources contents)) sequence view
    → (pairs : List (List ℕ × List ℕ)) × AreSortedPairs order.cmp view pairs × MayBeScan order.cmp scan whole (walked (map listed_pair pairs) None)

-- The same over the contents that they have, whose blocks are all intact.
abbrev pub BeginsScan : {K : Type 0} {g : _} → Order → List PlacedTable → ℕ → Whole → Scan K g → Type 0
BeginsScan order tables sequence whole scan = (contents : List TableContent) (view : Contents) → sequence ≤ whole.memory.last
    → IsSound order.cmp whole.seen → HasVersion order whole.seen.facts.files tables contents → IsNewerThan (logged_in whole.memory) (joined (table_sources contents))
    → IsView (logged_in whole.memory ++ joined (table_sources contents)) sequence view
    → (pairs : List (List ℕ × List ℕ)) × AreSortedPairs order.cmp view pairs × IsScan order.cmp scan whole (walked (map listed_pair pairs) None)
