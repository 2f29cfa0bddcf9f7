-- What a flush of a sealed memtable does to the directory (LevelDB's db/db_impl.cc,
-- DBImpl::CompactMemTable).
use Rattle.std.specs.Prelude.{◌≡◌, ◌≢◌, ◌⊎◌, ◌<◌, ◌≤◌, ◌+◌, ◌^◌, ℕ, List, [], ◌∷◌, ◌++◌, map, All, IsTrue, Result, Ok, Err, IfOk, OnOk, string_bytes}
use Rattle.std.specs.FinMap.{get}
use Rattle.std.specs.declared.cmp.Ordering.{Ordering}
use Rattle.coding.specs.declared.error.DbError.{DbError}
use Rattle.coding.specs.declared.error.DbError.TheVariants.{OutOfMemory, Io, Corrupt, Unsupported, NumbersSpent}
use Rattle.ikey.specs.declared.entry.Entry.{Entry}
use Rattle.ikey.specs.Orders.{Order}
use Rattle.ikey.specs.Sources.{SameEntries}
use Rattle.store.specs.Files.{Files, Facts}
use Rattle.store.specs.Losses.{behind_sync}
use Rattle.edits.specs.Edit.{IsProper, IsInOrder, HasPastLimit}
use Rattle.edits.specs.Layout.{fields_of, inserted, after_edit}
use Rattle.edits.specs.Names.{name_of}
use Rattle.edits.specs.declared.field.Field.{Field}
use Rattle.edits.specs.declared.field.PlacedTable.{PlacedTable}
use Rattle.edits.specs.declared.field.TableFile.{TableFile}
use Rattle.edits.specs.declared.layout.Layout.{Layout}
use Rattle.edits.specs.declared.names.FileName.TheVariants.{Manifest, Table}
use Rattle.versions.specs.Applying.{LeadsLayout}
use Rattle.versions.specs.Levels.{HasNumber, Placement, ListsSameTables, AreInOrder}
use Rattle.recover.specs.Tables.{TableContent}
use Rattle.recover.specs.Logs.{LogContent, logged}
use Rattle.recover.specs.Directory.{Directory, IsConsistent, EndsAt, entries_in, used_in}
use Rattle.recover.specs.internal.Changes.{ManifestEndsAt, AgreeBeside, IsFlush, flushed, with_content}
use Rattle.recover.specs.Numbers.{IsFree}
use Rattle.recover.specs.Report.{IsLongTable, AnyHasBytes}
use Rattle.directory_writes.specs.internal.Calls.{LeavesFile}
use Rattle.directory_writes.specs.internal.FlushEdits.{IsAfterFlush, flush_fields}
use Rattle.directory_writes.specs.internal.Level0.{IsLevel0, IsTooLarge}
use Rattle.directory_writes.specs.declared.flush.FlushError.{FlushError}
use Rattle.directory_writes.specs.declared.flush.FlushError.TheVariants.{Before, Edit}
use Rattle.directory_writes.specs.declared.flush.FlushPlan.{FlushPlan}
use Rattle.directory_writes.specs.declared.flush.Flushed.{Flushed}
use Rattle.directory_writes.specs.declared.flush.Prepared.{Prepared}
use Rattle.directory_writes.specs.declared.manifest.CurrentManifest.{CurrentManifest}

-- ---- over any store

-- The number that was next is drawn, or none is, and then nothing else was done.
abbrev pub DrawsTable : Facts → Facts → ℕ → ℕ → Type 0
DrawsTable old new next after = ((after ≡ next) × (new ≡ old)) ⊎ ((after ≡ next + 1) × (0 < next) × (next < 2 ^ 62))

-- Once a store has returned something else than what was written, that is so for good. The failures
-- don't fall, and the lock is left alone. But for the files of these names, all are as before, and
-- what is synced of them.
pub record FlushTouches (old new : Facts) (table manifest : List ℕ) : Type 0 where
  pub faithful : IsTrue new.faithful → IsTrue old.faithful
  pub failures : old.failures ≤ new.failures
  pub denials : new.denials ≡ old.denials
  pub locked : new.locked ≡ old.locked
  pub others : IsTrue new.faithful → (name : List ℕ) → name ≢ table → name ≢ manifest → get new.files name ≡ get old.files name
  pub synced : IsTrue new.faithful → (name : List ℕ) → name ≢ table → name ≢ manifest → new.synced name ≡ old.synced name

-- A refusal before the edit leaves the MANIFEST, whose name is none of these.
abbrev pub SparesManifest : {T : Type 0} → Facts → Facts → List ℕ → (List ℕ → Type 0) → Result T FlushError → Type 0
SparesManifest old new manifest is_table (Ok x) = Unit {0}
SparesManifest old new manifest is_table (Err Edit) = Unit {0}
SparesManifest old new manifest is_table (Err (Before e)) = IsTrue new.faithful → (is_table manifest → ⊥) → LeavesFile old new manifest

-- Why there is no version after an edit: out of memory, or since its tables don't fit in.
abbrev pub RefusesVersion : DbError → Type 0 → Type 0
RefusesVersion OutOfMemory astray = Unit {0}
RefusesVersion (Corrupt file what) astray = astray
RefusesVersion e astray = ⊥

-- Why a table wasn't made ready: Corrupt only if the version has a table of the number that is
-- drawn, and Unsupported only where a block would be too long.
abbrev pub RefusesNewTable : DbError → Facts → Facts → List Entry → List PlacedTable → ℕ → ℕ → Type 0
RefusesNewTable OutOfMemory old new entries tables next after = new.failures ≡ old.failures
RefusesNewTable Io old new entries tables next after = old.failures < new.failures
RefusesNewTable (Unsupported what) old new entries tables next after = IsTooLarge new entries
RefusesNewTable (Corrupt file what) old new entries tables next after = HasNumber next tables
RefusesNewTable NumbersSpent old new entries tables next after = (2 ^ 62 ≤ next) × (after ≡ next) × (new ≡ old)
RefusesNewTable e old new entries tables next after = ⊥

-- Why it wasn't flushed: for one of these reasons, or since the store failed at the edit.
abbrev pub RefusesFlush : FlushError → Facts → Facts → List Entry → List PlacedTable → ℕ → ℕ → Type 0
RefusesFlush (Before e) old new entries tables next after = RefusesNewTable e old new entries tables next after
RefusesFlush Edit old new entries tables next after = old.failures < new.failures

-- how a refusal at the edit is answered
abbrev pub edit_refusal : DbError → FlushError
edit_refusal Io = Edit
edit_refusal e = Before e

-- The new version is in order, and has one table more, which has this number and is at level 0.
pub record HasNewVersion (cmp : List ℕ → List ℕ → Ordering) (number : ℕ) (old new : Placement) : Type 0 where
  pub table : TableFile
  pub number_is : table.number ≡ number
  pub lists : ListsSameTables (inserted (record { level = 0; table = table }) old.tables) new.tables
  pub in_order : AreInOrder cmp new.tables
  pub pointers : new.compact_pointers ≡ old.compact_pointers

-- The answer is the number that was next, and such a version.
abbrev pub AnswersVersion : {K : Type 0} → (List ℕ → List ℕ → Ordering) → Placement → ℕ → ℕ → Result (Flushed K) FlushError → Type 0
AnswersVersion cmp old next after result = IfOk result (λ flushed. (flushed.number ≡ next) × (after ≡ next + 1) × HasNewVersion cmp next old flushed.version.value)

-- After a flush the disk keeps the whole table and the whole MANIFEST.
pub record SyncsFlush {T E : Type 0} (new : Facts) (name manifest_name : List ℕ) (result : Result T E) : Type 0 where
  pub table : OnOk result (IsTrue new.faithful → name ≢ manifest_name → new.synced name ≡ get new.files name)
  pub manifest : OnOk result (IsTrue new.faithful → new.synced manifest_name ≡ get new.files manifest_name)

-- The table is there, synced whole, and since that sync nothing was done.
abbrev pub IsTableKeptNow : ℕ → Facts → Type 0
IsTableKeptNow number facts = (behind_sync [] facts.calls ≡ []) × (facts.synced (name_of (Table number)) ≡ get facts.files (name_of (Table number)))

-- ---- a table that is ready

-- The table is written, and the edit and the version have it.
pub record HasPrepared {K : Type 0} (order : Order) (new : Facts) (after : ℕ) (plan : FlushPlan) (entries : List Entry) (old : Placement) (prepared : Prepared K) : Type 0 where
  pub table : TableFile
  pub number_is : table.number ≡ prepared.number
  pub fields : prepared.edit ≡ flush_fields plan.log_number plan.previous_log_number after plan.last_sequence table
  pub proper : All IsProper prepared.edit
  pub spelled : IsInOrder prepared.edit
  pub limit : HasPastLimit prepared.edit → ⊥
  pub leads : LeadsLayout (after_edit prepared.edit) old.tables prepared.version.value.tables
  pub version : HasNewVersion order.cmp prepared.number old prepared.version.value
  pub written : IsTrue new.faithful → IsLevel0 order new.files prepared.number entries table
  pub synced : IsTrue new.faithful → new.synced (name_of (Table prepared.number)) ≡ get new.files (name_of (Table prepared.number))

abbrev pub Prepares : {K : Type 0} → Order → Facts → ℕ → ℕ → FlushPlan → List Entry → Placement → Result (Prepared K) DbError → Type 0
Prepares order new next after plan entries old result = IfOk result (λ prepared.
    (prepared.number ≡ next) × (after ≡ next + 1) × (0 < next) × (next < 2 ^ 62) × HasPrepared order new after plan entries old prepared)

-- ---- what the directory means

-- The files are a directory whose logs are sealed ones, which have the entries of the memtable, and
-- the current one. The edit that is planned can be put after its MANIFEST. No number from `next` on
-- is taken, and the tables are the directory's.
pub record CanFlush (order : Order) (files : Files) (next : ℕ) (plan : FlushPlan) (manifest : CurrentManifest) (entries : List Entry) (tables : List PlacedTable)
    (d : Directory) (sealed : List LogContent) (current : LogContent) : Type 0 where
  pub consistent : IsConsistent order files d
  pub logs : d.logs ≡ sealed ++ current ∷ []
  pub entries_are : SameEntries entries (logged sealed)
  pub log_number : current.number ≡ plan.log_number
  pub forward : d.layout.log_number ≤ plan.log_number
  pub previous : d.layout.previous_log_number ≡ plan.previous_log_number
  pub used : plan.last_sequence ≡ used_in d
  pub number : manifest.number ≡ d.manifest
  pub named : string_bytes manifest.name ≡ name_of (Manifest d.manifest)
  pub ends : ManifestEndsAt order files d.manifest manifest.end d.edits d.layout
  pub free : IsFree order files next
  pub listed : ListsSameTables (map (λ (content : TableContent). content.placed) d.tables) tables

-- no table's number is past the limit of reading, and no block is
abbrev pub PassesNoLimit : Order → Files → Directory → Type 0
PassesNoLimit order files d = HasPastLimit (fields_of d.edits) ⊎ AnyHasBytes (IsLongTable order) files d.tables → ⊥

-- What is the same in the files after a call: the logs and the tables of the directory, and where
-- the last log ends.
pub record KeepsLogsAndTables (old new : Files) (d e : Directory) : Type 0 where
  pub beside : AgreeBeside old new d
  pub ends : (log position : ℕ) → EndsAt old d log position → EndsAt new e log position

-- The files are the same directory, but that a table of level 0 of this number has the entries of
-- the sealed logs in their place. No entry is lost or new, and no limit is passed that wasn't.
pub record HasFlushed (order : Order) (old new : Files) (number after : ℕ) (entries : List Entry) (d : Directory) (sealed : List LogContent) (current : LogContent) : Type 0 where
  pub content : TableContent
  pub edit : List Field
  pub next : Layout
  pub number_is : content.placed.table.number ≡ number
  pub table_entries : SameEntries content.entries entries
  pub flush : IsFlush d next content sealed current
  pub layout : IsAfterFlush current.number after (used_in d) content.placed.table d.layout next
  pub consistent : IsConsistent order new (flushed d (d.edits ++ edit ∷ []) next content current)
  pub same : SameEntries (entries_in (flushed d (d.edits ++ edit ∷ []) next content current)) (entries_in d)
  pub used : used_in (flushed d (d.edits ++ edit ∷ []) next content current) ≡ used_in d
  pub kept : KeepsLogsAndTables old new d (flushed d (d.edits ++ edit ∷ []) next content current)
  pub limits : PassesNoLimit order old d → PassesNoLimit order new (flushed d (d.edits ++ edit ∷ []) next content current)

-- Then the MANIFEST ends here, and the tables are the directory's.
pub record IsFlushed (order : Order) (old new : Files) (number after end : ℕ) (entries : List Entry) (tables : List PlacedTable) (d : Directory) (sealed : List LogContent) (current : LogContent) : Type 0 where
  pub has : HasFlushed order old new number after entries d sealed current
  pub ends : ManifestEndsAt order new d.manifest end (d.edits ++ has.edit ∷ []) has.next
  pub free : IsFree order new after
  pub listed : ListsSameTables (map (λ (content : TableContent). content.placed) (with_content has.content d.tables)) tables

-- The same directory, of which the same can be flushed.
pub record IsUnflushed (order : Order) (old new : Files) (after : ℕ) (plan : FlushPlan) (manifest : CurrentManifest) (entries : List Entry) (tables : List PlacedTable)
    (d : Directory) (sealed : List LogContent) (current : LogContent) : Type 0 where
  pub can : CanFlush order new after plan manifest entries tables d sealed current
  pub kept : KeepsLogsAndTables old new d d

-- The one or the other, however the MANIFEST ends.
pub record MayBeFlushed (order : Order) (old new : Files) (number after : ℕ) (entries : List Entry) (d : Directory) (sealed : List LogContent) (current : LogContent) : Type 0 where
  pub either : (IsConsistent order new d × KeepsLogsAndTables old new d d) ⊎ HasFlushed order old new number after entries d sealed current
  pub free : IsFree order new after

-- a version that has no room for the table
abbrev pub IsCorrupt : DbError → Type 0
IsCorrupt (Corrupt file what) = Unit {0}
IsCorrupt e = ⊥

-- What it leaves, by its answer. A directory's own version always has room for the table.
abbrev pub FlushMeans : {K : Type 0} → Order → Files → Files → ℕ → ℕ → FlushPlan → CurrentManifest → List Entry → List PlacedTable → Directory → List LogContent → LogContent
    → Result (Flushed K) FlushError → Type 0
FlushMeans order old new next after plan manifest entries tables d sealed current (Ok done) = IsFlushed order old new next after done.manifest_end entries done.version.value.tables d sealed current
FlushMeans order old new next after plan manifest entries tables d sealed current (Err (Before e)) = (IsCorrupt e → ⊥) × IsUnflushed order old new after plan manifest entries tables d sealed current
FlushMeans order old new next after plan manifest entries tables d sealed current (Err Edit) = MayBeFlushed order old new next after entries d sealed current

-- A process crash in its middle leaves what a failure of the store at the edit does.
abbrev pub FlushMayLeave : Order → Files → ℕ → ℕ → FlushPlan → CurrentManifest → List Entry → List PlacedTable → Files → Type 0
FlushMayLeave order old next after plan manifest entries tables new = (d : Directory) (sealed : List LogContent) (current : LogContent)
    → CanFlush order old next plan manifest entries tables d sealed current → MayBeFlushed order old new next after entries d sealed current

-- What a flush leaves of a directory, while the store is faithful.
abbrev pub FlushLeaves : {K : Type 0} → Order → Facts → Facts → ℕ → ℕ → FlushPlan → CurrentManifest → List Entry → List PlacedTable → Result (Flushed K) FlushError → Type 0
FlushLeaves order old new next after plan manifest entries tables result = IsTrue new.faithful → (d : Directory) (sealed : List LogContent) (current : LogContent)
    → CanFlush order old.files next plan manifest entries tables d sealed current → FlushMeans order old.files new.files next after plan manifest entries tables d sealed current result
