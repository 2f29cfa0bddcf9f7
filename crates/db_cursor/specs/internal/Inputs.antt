-- What a compaction reads: the tables of a version, and no memtable (LevelDB's
-- db/version_set.cc, VersionSet::MakeInputIterator).
use Rattle.std.specs.Prelude.{◌≡◌, ℕ, List, None, map}
use Rattle.cache.specs.Tables.{table_at}
use Rattle.compact.specs.Merging.{HaveOwnSequences}
use Rattle.cursor.specs.declared.merge.Merge.{Merge}
use Rattle.cursor.specs.Cuts.{Cut}
use Rattle.cursor.specs.Merging.{listed}
use Rattle.cursor.specs.Places.{Cmp, Listed}
use Rattle.edits.specs.declared.field.PlacedTable.{PlacedTable}
use Rattle.ikey.specs.Entries.{InternalEntry, entry_of}
use Rattle.ikey.specs.Orders.{Order}
use Rattle.ikey.specs.Sources.{SameEntries, joined}
use Rattle.recover.specs.Tables.{TableContent, tabled}
use Rattle.db_cursor.specs.declared.source_cursor.SourceCursor.{SourceCursor}
use Rattle.db_cursor.specs.Places.{OneGoesOver}
use Rattle.db_cursor.specs.Scans.{IsOnePastLimit, IsOneTornFile, ListsMerged}
use Rattle.db_cursor.specs.Whole.{Whole}
use Rattle.version_laws.specs.Places.{HasVersion, MayHaveVersion, table_sources}
use Rattle.table_access.specs.Possible.{MayBeTable}
use Rattle.table_access.specs.Tables.{Seen, IsSound}
use Rattle.db_cursor.specs.Inputs.{IsMergeIntact, IsMergeLimited, IsMergeTorn, KeepsMerge, ReadsNoMemory}

-- It goes over entries that these tables may have, as far as their blocks tell, and has no place.
-- These are the entries of the places where the tables are searched, in the order of their internal
-- keys. It passes a limit, or comes to a torn block, only where the file of one of the tables does.
pub record MayBeMergeOf {K : Type 0} {g : _} (cmp : Cmp) (tables : List PlacedTable) (contents : List TableContent) (whole : Whole) (merge : Merge K (SourceCursor K g)) : Type 0 where
  pub entries : List InternalEntry
  pub same : SameEntries (map entry_of entries) (tabled contents)
  pub searched : SameEntries (map entry_of entries) (joined (table_sources contents))
  pub own : HaveOwnSequences entries
  pub lists : ListsMerged cmp merge whole (listed entries None)
  pub limits : IsMergeLimited cmp merge whole → IsOnePastLimit cmp tables whole
  pub torn : (cut : Cut) → IsMergeTorn cmp merge whole cut → IsOneTornFile cmp tables whole cut

-- The same holds for a new merge over a version of these tables, whichever source has files that
-- may be theirs, and whichever contents they may have.
abbrev pub MayBeginMerge : {K : Type 0} {g : _} → Order → List PlacedTable → Merge K (SourceCursor K g) → Type 0
MayBeginMerge order tables merge = (whole : Whole) (contents : List TableContent) → IsSound order.cmp whole.seen
    → MayHaveVersion (MayBeTable order.cmp) order whole.seen.facts.files tables contents → MayBeMergeOf order.cmp tables contents whole merge

-- It goes over the entries of these tables, which are those of the places where they are searched,
-- in the order of their internal keys, and has no place. It passes a limit only where the file of
-- one of the tables does, and all their blocks are intact.
pub record IsMergeOf {K : Type 0} {g : _} (cmp : Cmp) (tables : List PlacedTable) (contents : List TableContent) (whole : Whole) (merge : Merge K (SourceCursor K g)) : Type 0 where
  pub entries : List InternalEntry
  pub same : SameEntries (map entry_of entries) (tabled contents)
  pub searched : SameEntries (map entry_of entries) (joined (table_sources contents))
  pub own : HaveOwnSequences entries
  pub lists : ListsMerged cmp merge whole (listed entries None)
  pub limits : IsMergeLimited cmp merge whole → IsOnePastLimit cmp tables whole
  pub intact : IsMergeIntact cmp merge whole

-- The same holds for a new merge over a version of these tables, whichever source has their files.
abbrev pub BeginsMerge : {K : Type 0} {g : _} → Order → List PlacedTable → Merge K (SourceCursor K g) → Type 0
BeginsMerge order tables merge = (whole : Whole) (contents : List TableContent) → IsSound order.cmp whole.seen → HasVersion order whole.seen.facts.files tables contents
    → IsMergeOf order.cmp tables contents whole merge

-- The second source has the same files for tables of such numbers, and what it keeps is right where
-- that of the first is.
pub record KeepsFiles (cmp : Cmp) (numbers : ℕ → Type 0) (old new : Seen) : Type 0 where
  pub files : (number : ℕ) → numbers number → table_at new.facts.files number ≡ table_at old.facts.files number
  pub sound : IsSound cmp old → IsSound cmp new

-- what a merge reads is kept: it lists what it listed, passes no limit that it didn't pass, and
-- comes to no further torn block
pub record IsMergeKept {K : Type 0} {g : _} (cmp : Cmp) (merge : Merge K (SourceCursor K g)) (old new : Whole) : Type 0 where
  pub keeps : KeepsMerge cmp merge old new
  pub lists : (at : Listed) → ListsMerged cmp merge old at → ListsMerged cmp merge new at
  pub limits : IsMergeLimited cmp merge new → IsMergeLimited cmp merge old
  pub torn : (cut : Cut) → IsMergeTorn cmp merge new cut → IsMergeTorn cmp merge old cut

-- What a merge reads that reads no memtable is kept while the files of its tables are.
abbrev pub MergeIsKept : {K : Type 0} {g : _} → Cmp → Merge K (SourceCursor K g) → Type 0
MergeIsKept cmp merge = (old new : Whole) → ReadsNoMemory cmp merge → KeepsFiles cmp (OneGoesOver merge.children.items) old.seen new.seen → IsMergeKept cmp merge old new
