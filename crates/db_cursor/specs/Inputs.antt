-- What a compaction reads: the tables of a version, and no memtable (LevelDB's
-- db/version_set.cc, VersionSet::MakeInputIterator).
use Rattle.cursor.specs.declared.merge.Merge.{Merge}
use Rattle.cursor.specs.Cuts.{Cut}
use Rattle.cursor.specs.Merging.{AnyLimited, AnyTorn, KeepsAll}
use Rattle.cursor.specs.Places.{Cmp}
use Rattle.memtables.specs.Memories.{Memories}
use Rattle.db_cursor.specs.declared.source_cursor.SourceCursor.{SourceCursor}
use Rattle.db_cursor.specs.Places.{KeepsSource, LimitedSource, TornSource}
use Rattle.db_cursor.specs.Whole.{Whole}
use Rattle.table_access.specs.Tables.{Seen}

-- ---- a merge of cursors

abbrev pub KeepsMerge : {K : Type 0} {g : _} → Cmp → Merge K (SourceCursor K g) → Whole → Whole → Type 0
KeepsMerge cmp merge old new = KeepsAll (KeepsSource cmp) merge.children.items old new

-- one of the cursors reads something that passes a limit of reading
abbrev pub IsMergeLimited : {K : Type 0} {g : _} → Cmp → Merge K (SourceCursor K g) → Whole → Type 0
IsMergeLimited cmp merge whole = AnyLimited (LimitedSource cmp) merge.children.items whole

-- a block to which one of them comes at this cut is none
abbrev pub IsMergeTorn : {K : Type 0} {g : _} → Cmp → Merge K (SourceCursor K g) → Whole → Cut → Type 0
IsMergeTorn cmp merge whole cut = AnyTorn (TornSource cmp) merge.children.items whole cut

-- all blocks to which they come are some
abbrev pub IsMergeIntact : {K : Type 0} {g : _} → Cmp → Merge K (SourceCursor K g) → Whole → Type 0
IsMergeIntact cmp merge whole = (cut : Cut) → IsMergeTorn cmp merge whole cut → ⊥

-- whatever the memtables are, it reads the same
abbrev pub ReadsNoMemory : {K : Type 0} {g : _} → Cmp → Merge K (SourceCursor K g) → Type 0
ReadsNoMemory cmp merge = (seen : Seen) (old new : Memories) → KeepsMerge cmp merge (record { seen = seen; memory = old }) (record { seen = seen; memory = new })
