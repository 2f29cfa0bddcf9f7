-- What the moves of a scan do.
use Rattle.std.specs.Prelude.{◌≡◌, ◌<◌, ◌≤◌, ℕ, Bool, true, IsTrue, List, Option, Result, IfErr, OnOk, OnErr}
use Rattle.std.specs.List.{AllByRecursion}
use Rattle.cache.specs.Tables.{table_at}
use Rattle.coding.specs.declared.error.DbError.{DbError}
use Rattle.cursor.specs.Cuts.{Cut}
use Rattle.cursor.specs.Merging.{child_stands}
use Rattle.cursor.specs.Moves.{Refuses}
use Rattle.cursor.specs.Places.{Cmp}
use Rattle.cursor.specs.Views.{Walked}
use Rattle.cursor.specs.Walks.{key_before, value_at_hand, walk_after, walked}
use Rattle.ikey.specs.declared.entry.Entry.{Entry}
use Rattle.ikey.specs.Entries.{Pair}
use Rattle.memtables.specs.Changes.{HasMoreEntries}
use Rattle.memtables.specs.Places.{LeavesMemories}
use Rattle.db_cursor.specs.declared.scan.Scan.{Scan}
use Rattle.db_cursor.specs.Places.{source_stands}
use Rattle.db_cursor.specs.Scans.{IsScan, IsScanLimited, IsScanTorn, IsOnePastLimit, KeepsScan, KeepsUpTo, MayBeScan, reads_table, tables_of}
use Rattle.db_cursor.specs.Whole.{Whole}
use Rattle.table_access.specs.Tables.{Carries, IsSound}
use Rattle.table.specs.Reading.{Reads, IsStill}

-- the pair on which it stands is at hand
abbrev pub has_pair : {K : Type 0} {g : _} → Scan K g → Bool
has_pair scan = value_at_hand (λ merge. child_stands source_stands merge.children.items merge.current) scan.walk

-- two scans read the same memtables, and have the same version
pub record ReadsAs {K : Type 0} {g : _} (old new : Scan K g) : Type 0 where
  pub generation : new.generation ≡ old.generation
  pub sealed : new.sealed ≡ old.sealed
  pub version : new.version ≡ old.version

-- What a move of a scan does, which leads from one place to another; an Err leaves the place.
pub record IsScanned {K : Type 0} {g : _} (cmp : Cmp) (to : Walked → Option ℕ) (before after : Whole) (old new : Scan K g) (result : Result (Unit {0}) DbError) : Type 0 where
  pub moves : IsTrue after.seen.facts.faithful → (at : Walked) → MayBeScan cmp old before at → MayBeScan cmp new after (walk_after result (to at) at)
  -- it comes to no further torn block
  pub tear : IsTrue after.seen.facts.faithful → (cut : Cut) → IsScanTorn cmp new after cut → IsScanTorn cmp old before cut
  pub at_hand : OnOk result (new.walk.stands ≡ true → has_pair new ≡ true)
  pub sequence : new.walk.sequence ≡ old.walk.sequence
  pub reads_as : ReadsAs old new
  -- it reads no other tables, whatever the store returns
  pub tables : (number : ℕ) → reads_table new number → reads_table old number
  -- what it leaves of the source
  pub keeps : IsTrue after.seen.facts.faithful → (sequence : ℕ) → KeepsUpTo cmp sequence before after
  pub memory : LeavesMemories before.memory after.memory
  pub reads : Reads before.seen.facts after.seen.facts
  -- what it keeps anew is of tables that it reads
  pub carries : Carries cmp (λ number. reads_table old number) before.seen after.seen
  pub still : IsStill before.seen.facts after.seen.facts result
  -- whatever it was
  pub stayed : OnErr result ((new.walk.stands ≡ old.walk.stands) × (new.walk.here.key.items ≡ old.walk.here.key.items))
  pub left : OnOk result (key_before new.walk ≡ old.walk.here.key.items)
  -- where that is damage, a torn block lies at a cut to which it came, whichever list it is
  pub refused : IfErr result (λ e. Refuses e before.seen.facts after.seen.facts ((at : Walked) → MayBeScan cmp old before at → (cut : Cut) × IsScanTorn cmp old before cut) (IsScanLimited cmp old before))

-- Where a scan has come to a place by a move, and the one before it stood elsewhere among the same
-- pairs, the move taken back leads to where that one stood.
abbrev pub TakesBack : {K : Type 0} {g : _} → Cmp → Bool → Scan K g → Scan K g → Type 0
TakesBack {K} {g} cmp stood old new = (first : Scan K g) (before after : Whole) (pairs : List Pair) (from to : Option ℕ)
    → MayBeScan cmp first before (walked pairs from) → MayBeScan cmp old after (walked pairs to)
    → first.walk.stands ≡ stood → old.walk.sequence ≡ first.walk.sequence → key_before old.walk ≡ first.walk.here.key.items
    → MayBeScan cmp new after (walked pairs from)

-- ---- laws

-- A scan stays where what it reads is kept.
abbrev pub ScanIsKept : {K : Type 0} {g : _} → Cmp → Scan K g → Type 0
ScanIsKept cmp scan = (old new : Whole) (at : Walked) → KeepsScan cmp scan old new → IsScan cmp scan old at → IsScan cmp scan new at

-- The same for each list that its tables may have.
abbrev pub MayBeIsKept : {K : Type 0} {g : _} → Cmp → Scan K g → Type 0
MayBeIsKept cmp scan = (old new : Whole) (at : Walked) → KeepsScan cmp scan old new → MayBeScan cmp scan old at → MayBeScan cmp scan new at

-- Where no block is torn, it is the one list that its tables have.
abbrev pub IntactScans : {K : Type 0} {g : _} → Cmp → Scan K g → Type 0
IntactScans cmp scan = (whole : Whole) (at : Walked) → MayBeScan cmp scan whole at → ((cut : Cut) → IsScanTorn cmp scan whole cut → ⊥) → IsScan cmp scan whole at

-- What is written above a scan's sequence number leaves what it reads, where files and what is kept
-- of them do.
abbrev pub WritesAreKept : Cmp → Type 0
WritesAreKept cmp = (sequence : ℕ) (old new : Whole) (more : List Entry) → sequence ≤ old.memory.last
    → HasMoreEntries old.memory new.memory more → AllByRecursion (λ (entry : Entry). old.memory.last < entry.sequence) more
    → ((number : ℕ) → table_at new.seen.facts.files number ≡ table_at old.seen.facts.files number) → (IsSound cmp old.seen → IsSound cmp new.seen)
    → KeepsUpTo cmp sequence old new

-- A scan that passes a limit of reading goes over a table whose file does.
abbrev pub ScanPastLimit : {K : Type 0} {g : _} → Cmp → Scan K g → Type 0
ScanPastLimit cmp scan = (whole : Whole) (at : Walked) → IsScan cmp scan whole at → IsScanLimited cmp scan whole → IsOnePastLimit cmp (tables_of scan) whole
