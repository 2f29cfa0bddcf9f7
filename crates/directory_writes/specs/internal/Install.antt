-- What the end of a job does to the directory: its outputs come instead of its inputs (LevelDB's
-- db/db_impl.cc, InstallCompactionResults).
use Rattle.std.specs.Prelude.{◌≡◌, ◌≢◌, ◌⊎◌, ◌<◌, ◌≤◌, ◌^◌, ℕ, Bool, List, [], ◌∷◌, ◌++◌, map, All, IsTrue, IfOk, Some, Result, Ok, Err, string_bytes}
use Rattle.std.specs.FinMap.{get}
use Rattle.std.specs.List.{AllByRecursion, Contains}
use Rattle.std.specs.List.Sorted.{IsPermutation}
use Rattle.std.specs.declared.cmp.Ordering.{Ordering}
use Rattle.coding.specs.declared.error.DbError.{DbError}
use Rattle.ikey.specs.Entries.{InternalEntry, entry_of}
use Rattle.ikey.specs.Orders.{Order}
use Rattle.ikey.specs.Sources.{SameEntries}
use Rattle.store.specs.Files.{Files, Facts}
use Rattle.store.specs.Losses.{StaysNamed}
use Rattle.edits.specs.Edit.{IsProper, IsInOrder}
use Rattle.edits.specs.Layout.{after_edit}
use Rattle.edits.specs.Names.{name_of}
use Rattle.edits.specs.declared.field.Field.{Field}
use Rattle.edits.specs.declared.field.PlacedTable.{PlacedTable}
use Rattle.edits.specs.declared.layout.Layout.{Layout}
use Rattle.edits.specs.declared.names.FileName.TheVariants.{Manifest}
use Rattle.versions.specs.Applying.{LeadsLayout, LeadsAstray}
use Rattle.versions.specs.declared.plan.JobPlan.{JobPlan}
use Rattle.versions.specs.Levels.{Placement, ListsSameTables, AreInOrder, pointers_after}
use Rattle.recover.specs.Tables.{TableContent, tabled}
use Rattle.recover.specs.Logs.{logged}
use Rattle.recover.specs.Directory.{Directory, IsConsistent, used_in}
use Rattle.recover.specs.internal.Changes.{ManifestEndsAt, IsCompaction, compacted}
use Rattle.recover.specs.Replacing.{AreParted, MayReplace}
use Rattle.recover.specs.Numbers.{IsFree}
use Rattle.compact.specs.JobEdits.{IsEditOfPlan, IsOwnIn}
use Rattle.compact.specs.Laws.{AreNewerOrDeep}
use Rattle.compact.specs.Merging.{IsMerging, IsFinished}
use Rattle.compact.specs.Outputs.{TablesWritten, IsNumberAtHand, IsOwn, RefusesEntry, table_name}
use Rattle.compact.specs.Rooms.{AreLarge}
use Rattle.compact.specs.declared.job.Job.{Job}
use Rattle.directory_writes.specs.Replacing.{placed_in, OwnsNone, ReplacesInputs}
use Rattle.directory_writes.specs.internal.Compactions.{IsJobPut, AreSeenAlike}
use Rattle.directory_writes.specs.internal.Flush.{IsCorrupt, KeepsLogsAndTables, PassesNoLimit}
use Rattle.directory_writes.specs.declared.flush.FlushError.{FlushError}
use Rattle.directory_writes.specs.declared.flush.FlushError.TheVariants.{Before, Edit}
use Rattle.directory_writes.specs.declared.install.Installed.{Installed}
use Rattle.directory_writes.specs.declared.install.PreparedJob.{PreparedJob}
use Rattle.directory_writes.specs.declared.manifest.CurrentManifest.{CurrentManifest}

-- ---- over any store

-- Once a store has returned something else than what was written, that is so for good. The failures
-- don't fall, and the lock is left alone. But for the table at hand and the MANIFEST all files are
-- as before, and what is synced of them.
pub record InstallTouches (old new : Facts) (w : TablesWritten) (manifest : List ℕ) : Type 0 where
  pub faithful : IsTrue new.faithful → IsTrue old.faithful
  pub failures : old.failures ≤ new.failures
  pub denials : new.denials ≡ old.denials
  pub locked : new.locked ≡ old.locked
  pub others : IsTrue new.faithful → (name : List ℕ) → ((number : ℕ) → IsNumberAtHand w number → name ≢ table_name number) → name ≢ manifest → get new.files name ≡ get old.files name
  pub synced : IsTrue new.faithful → (name : List ℕ) → ((number : ℕ) → IsNumberAtHand w number → name ≢ table_name number) → name ≢ manifest → new.synced name ≡ old.synced name

-- The edit can be written, and puts in tables that the job wrote. Where the store is faithful, it
-- is that of the job.
pub record IsJobEdit {K C : Type 0} (cmp : List ℕ → List ℕ → Ordering) (job : Job K C) (old new : Facts) (next last_sequence : ℕ) (edit : List Field) : Type 0 where
  pub proper : All IsProper edit
  pub spelled : IsInOrder edit
  pub own : AllByRecursion (IsOwnIn job.outputs) edit
  pub of_plan : IsEditOfPlan job.plan edit
  pub finished : (deep : List ℕ → Bool) (came : List InternalEntry) → IsTrue new.faithful → IsMerging cmp deep job.last.items job.selection job.outputs old next came
      → IsFinished cmp deep job.plan job.last.items job.selection new next last_sequence came edit

-- the tables of a version have no room for the edit of the job
abbrev pub HasNoRoom : {K C : Type 0} → (List ℕ → List ℕ → Ordering) → Job K C → Facts → Facts → ℕ → ℕ → List PlacedTable → Type 0
HasNoRoom cmp job old new next last_sequence tables = (edit : List Field) × IsJobEdit cmp job old new next last_sequence edit × LeadsAstray cmp (after_edit edit) tables

-- over what the job has merged a block may be too long to be read
abbrev pub MayBeTooLong : {K C : Type 0} → (List ℕ → List ℕ → Ordering) → Job K C → Facts → ℕ → Type 0
MayBeTooLong cmp job old next =
    (deep : List ℕ → Bool) (came : List InternalEntry) → IsMerging cmp deep job.last.items job.selection job.outputs old next came → AreLarge (map entry_of came)

-- Why no edit is ready: for a reason for which a table isn't ended, or where the version has no
-- room.
abbrev pub RefusesEdit : {K C : Type 0} → DbError → (List ℕ → List ℕ → Ordering) → Job K C → Facts → Facts → ℕ → ℕ → List PlacedTable → Type 0
RefusesEdit e cmp job old new next last_sequence tables = RefusesEntry e old new (HasNoRoom cmp job old new next last_sequence tables) (MayBeTooLong cmp job old next) ⊥

-- Why a job wasn't installed: for one of these reasons, or since the store failed at the edit.
abbrev pub RefusesInstall : {K C : Type 0} → FlushError → (List ℕ → List ℕ → Ordering) → Job K C → Facts → Facts → ℕ → ℕ → List PlacedTable → Type 0
RefusesInstall (Before e) cmp job old new next last_sequence tables = RefusesEdit e cmp job old new next last_sequence tables
RefusesInstall Edit cmp job old new next last_sequence tables = old.failures < new.failures

-- each of these tables is an old one, or has a number that is the job's
abbrev pub AreOldOrOwn : TablesWritten → List PlacedTable → List PlacedTable → Type 0
AreOldOrOwn w old new = (placed : PlacedTable) → Contains new placed → Contains old placed ⊎ IsOwn w placed.table.number

-- the file of this table is there, and is synced whole
abbrev pub IsTableSynced : Facts → ℕ → Type 0
IsTableSynced facts number = (file : List ℕ) × (get facts.files (table_name number) ≡ Some file) × (facts.synced (table_name number) ≡ Some file)

-- The tables that the job has written are there then, synced whole and under their names.
abbrev pub AreOutputsKept : {K C : Type 0} → (List ℕ → List ℕ → Ordering) → Job K C → Facts → ℕ → Facts → Type 0
AreOutputsKept cmp job old next facts = (deep : List ℕ → Bool) (came : List InternalEntry) → IsMerging cmp deep job.last.items job.selection job.outputs old next came
    → (number : ℕ) → IsOwn job.outputs number → IsTableSynced facts number × StaysNamed facts (table_name number)

-- each of these tables is an old one, or is synced
abbrev pub AreOldOrSynced : Facts → List PlacedTable → List PlacedTable → Type 0
AreOldOrSynced facts old new = (placed : PlacedTable) → Contains new placed → Contains old placed ⊎ IsTableSynced facts placed.table.number

-- The new version is in order, and is the old one after an edit that can be written: that of the
-- plan. It removes its inputs and puts tables into its output level that the job wrote.
pub record HasJobVersion (cmp : List ℕ → List ℕ → Ordering) (plan : JobPlan) (w : TablesWritten) (old new : Placement) : Type 0 where
  pub edit : List Field
  pub proper : All IsProper edit
  pub own : AllByRecursion (IsOwnIn w) edit
  pub of_plan : IsEditOfPlan plan edit
  pub replaces : ReplacesInputs plan old.tables new.tables
  pub leads : LeadsLayout (after_edit edit) old.tables new.tables
  pub tables : AreOldOrOwn w old.tables new.tables
  pub in_order : AreInOrder cmp new.tables
  pub pointers : new.compact_pointers ≡ pointers_after edit 0 old.compact_pointers

-- ---- an edit that is ready

-- The edit is that of the job, and the version is the one after it.
pub record HasPreparedJob {K C : Type 0} (cmp : List ℕ → List ℕ → Ordering) (job : Job K C) (old new : Facts) (next last_sequence : ℕ) (version : Placement) (prepared : PreparedJob K) : Type 0 where
  pub edit : IsJobEdit cmp job old new next last_sequence prepared.edit
  pub leads : LeadsLayout (after_edit prepared.edit) version.tables prepared.version.value.tables
  pub replaces : ReplacesInputs job.plan version.tables prepared.version.value.tables
  pub tables : AreOldOrOwn job.outputs version.tables prepared.version.value.tables
  pub synced : (deep : List ℕ → Bool) (came : List InternalEntry) → IsTrue new.faithful → IsMerging cmp deep job.last.items job.selection job.outputs old next came
      → AreOldOrSynced new version.tables prepared.version.value.tables
  pub in_order : AreInOrder cmp prepared.version.value.tables
  pub pointers : prepared.version.value.compact_pointers ≡ pointers_after prepared.edit 0 version.compact_pointers

-- ---- what the directory means

-- The files are this directory. An edit can be put after its MANIFEST, no number from `next` on is
-- taken, and the tables are the directory's.
pub record IsServed (order : Order) (files : Files) (next : ℕ) (manifest : CurrentManifest) (tables : List PlacedTable) (d : Directory) : Type 0 where
  pub consistent : IsConsistent order files d
  pub number : manifest.number ≡ d.manifest
  pub named : string_bytes manifest.name ≡ name_of (Manifest d.manifest)
  pub ends : ManifestEndsAt order files d.manifest manifest.end d.edits d.layout
  pub free : IsFree order files next
  pub listed : ListsSameTables (placed_in d.tables) tables

-- All entries of its inputs have come to the job, which may be replaced by tables of its level; no
-- table of the directory has a number that is the job's. Numbers are drawn below 2^62.
pub record CanInstall {K C : Type 0} (order : Order) (deep : List ℕ → Bool) (job : Job K C) (facts : Facts) (next last_sequence : ℕ) (manifest : CurrentManifest) (tables : List PlacedTable)
    (came : List InternalEntry) (d : Directory) (inputs rest : List TableContent) : Type 0 where
  pub served : IsServed order facts.files next manifest tables d
  pub parted : AreParted d.tables inputs rest
  pub planned : IsPermutation job.plan.inputs.items (placed_in inputs)
  pub positive : 0 < job.plan.output_level
  pub replaceable : MayReplace order inputs rest job.plan.output_level
  pub merging : IsMerging order.cmp deep job.last.items job.selection job.outputs facts next came
  pub all_came : SameEntries (map entry_of came) (tabled inputs)
  pub unused : OwnsNone job.outputs d.layout.tables.items
  pub few : next ≤ 2 ^ 62
  pub used : last_sequence ≡ used_in d

-- The files are the same directory, but that outputs at this level, with what must be kept of the
-- inputs, replace them. Readers see what they saw, and no limit is passed that wasn't.
pub record HasInstalled (order : Order) (deep : List ℕ → Bool) (level : ℕ) (snapshots : List ℕ) (old new : Files) (came : List InternalEntry) (d : Directory) (inputs rest : List TableContent) : Type 0 where
  pub outputs : List TableContent
  pub contents : List TableContent
  pub edit : List Field
  pub next : Layout
  pub put : IsJobPut order deep level snapshots new came edit d inputs rest outputs contents
  pub compaction : IsCompaction order d next inputs rest outputs contents level
  pub consistent : IsConsistent order new (compacted d (d.edits ++ edit ∷ []) next contents)
  pub used : used_in (compacted d (d.edits ++ edit ∷ []) next contents) ≡ used_in d
  pub alike : AreNewerOrDeep (tabled inputs) (tabled rest ++ logged d.logs) deep → AreSeenAlike (tabled inputs) snapshots d (compacted d (d.edits ++ edit ∷ []) next contents)
  pub kept : KeepsLogsAndTables old new d (compacted d (d.edits ++ edit ∷ []) next contents)
  pub limits : PassesNoLimit order old d → PassesNoLimit order new (compacted d (d.edits ++ edit ∷ []) next contents)

-- Then the MANIFEST ends here, no number from `next` on is taken, and the tables are the
-- directory's.
pub record IsInstalled (order : Order) (deep : List ℕ → Bool) (level : ℕ) (snapshots : List ℕ) (old new : Files) (next end : ℕ) (tables : List PlacedTable) (came : List InternalEntry) (d : Directory) (inputs rest : List TableContent) : Type 0 where
  pub has : HasInstalled order deep level snapshots old new came d inputs rest
  pub ends : ManifestEndsAt order new d.manifest end (d.edits ++ has.edit ∷ []) has.next
  pub free : IsFree order new next
  pub listed : ListsSameTables (placed_in has.contents) tables

-- The same directory; the job is given up.
pub record IsUninstalled (order : Order) (old new : Files) (next : ℕ) (manifest : CurrentManifest) (tables : List PlacedTable) (d : Directory) : Type 0 where
  pub served : IsServed order new next manifest tables d
  pub kept : KeepsLogsAndTables old new d d

-- The one or the other, however the MANIFEST ends.
pub record MayBeInstalled (order : Order) (deep : List ℕ → Bool) (level : ℕ) (snapshots : List ℕ) (old new : Files) (next : ℕ) (came : List InternalEntry) (d : Directory) (inputs rest : List TableContent) : Type 0 where
  pub either : (IsConsistent order new d × KeepsLogsAndTables old new d d) ⊎ HasInstalled order deep level snapshots old new came d inputs rest
  pub free : IsFree order new next

-- What it leaves, by its answer. A directory's own version always has room for the outputs.
abbrev pub InstallMeans : {K C : Type 0} → Order → (List ℕ → Bool) → Job K C → Files → Files → ℕ → CurrentManifest → List PlacedTable → List InternalEntry → Directory → List TableContent → List TableContent
    → Result (Installed K) FlushError → Type 0
InstallMeans order deep job old new next manifest tables came d inputs rest (Ok done) =
    IsInstalled order deep job.plan.output_level job.selection.snapshots old new next done.manifest_end done.version.value.tables came d inputs rest
InstallMeans order deep job old new next manifest tables came d inputs rest (Err (Before e)) = (IsCorrupt e → ⊥) × IsUninstalled order old new next manifest tables d
InstallMeans order deep job old new next manifest tables came d inputs rest (Err Edit) = MayBeInstalled order deep job.plan.output_level job.selection.snapshots old new next came d inputs rest

-- A process crash in its middle leaves what a failure of the store at the edit does.
abbrev pub InstallMayLeave : {K C : Type 0} → Order → Job K C → Facts → ℕ → ℕ → CurrentManifest → List PlacedTable → Files → Type 0
InstallMayLeave order job old next last_sequence manifest tables new = (deep : List ℕ → Bool) (came : List InternalEntry) (d : Directory) (inputs rest : List TableContent)
    → CanInstall order deep job old next last_sequence manifest tables came d inputs rest → MayBeInstalled order deep job.plan.output_level job.selection.snapshots old.files new next came d inputs rest

-- Each table of what is left was there before, or is one that the job wrote, whose file is there.
abbrev pub PutsOwn : Order → TablesWritten → Files → Directory → Type 0
PutsOwn order w new d = (e : Directory) → IsConsistent order new e → (placed : PlacedTable) → Contains e.layout.tables.items placed
    → Contains d.layout.tables.items placed ⊎ (IsOwn w placed.table.number × ((file : List ℕ) × (get new (table_name placed.table.number) ≡ Some file)))

-- The same holds if the store failed at the edit.
abbrev pub InstallPutsOwn : {K C : Type 0} → Order → Job K C → Facts → Facts → ℕ → ℕ → CurrentManifest → List PlacedTable → Result (Installed K) FlushError → Type 0
InstallPutsOwn order job old new next last_sequence manifest tables result =
    result ≡ Err Edit → IsTrue new.faithful → (deep : List ℕ → Bool) (came : List InternalEntry) (d : Directory) (inputs rest : List TableContent)
    → CanInstall order deep job old next last_sequence manifest tables came d inputs rest → PutsOwn order job.outputs new.files d

-- A process crash in its middle leaves what a failure of the store at the edit does.
abbrev pub InstallMayPutOwn : {K C : Type 0} → Order → Job K C → Facts → ℕ → ℕ → CurrentManifest → List PlacedTable → Files → Type 0
InstallMayPutOwn order job old next last_sequence manifest tables new = (deep : List ℕ → Bool) (came : List InternalEntry) (d : Directory) (inputs rest : List TableContent)
    → CanInstall order deep job old next last_sequence manifest tables came d inputs rest → PutsOwn order job.outputs new d

-- What the end of a job leaves of a directory, while the store is faithful.
abbrev pub InstallLeaves : {K C : Type 0} → Order → Job K C → Facts → Facts → ℕ → ℕ → CurrentManifest → List PlacedTable → Result (Installed K) FlushError → Type 0
InstallLeaves order job old new next last_sequence manifest tables result =
    IsTrue new.faithful → (deep : List ℕ → Bool) (came : List InternalEntry) (d : Directory) (inputs rest : List TableContent)
    → CanInstall order deep job old next last_sequence manifest tables came d inputs rest → InstallMeans order deep job old.files new.files next manifest tables came d inputs rest result

-- The tables that it puts into the version are synced. (The name of none is that of the MANIFEST.)
abbrev pub InstallSyncs : {K C : Type 0} → (List ℕ → List ℕ → Ordering) → Job K C → Facts → Facts → ℕ → List ℕ → List PlacedTable → Result (Installed K) FlushError → Type 0
InstallSyncs cmp job old new next manifest tables result =
    IsTrue new.faithful → (deep : List ℕ → Bool) (came : List InternalEntry) → IsMerging cmp deep job.last.items job.selection job.outputs old next came
    → IfOk result (λ done. (placed : PlacedTable) → Contains done.version.value.tables placed → table_name placed.table.number ≢ manifest → Contains tables placed ⊎ IsTableSynced new placed.table.number)
