-- What the end of a compaction answers.
use Rattle.std.specs.Prelude.{◌≡◌, ◌⊎◌, ◌<◌, ◌≤◌, ◌^◌, ℕ, List, [], IsTrue, Result, Err, Some, map, Contains}
use Rattle.std.specs.FinMap.{get}
use Rattle.compact.specs.Merging.{IsMerging}
use Rattle.compact.specs.Outputs.{IsOwn, RefusesEntry, table_name}
use Rattle.compact.specs.Rooms.{AreLarge}
use Rattle.edits.specs.declared.field.PlacedTable.{PlacedTable}
use Rattle.ikey.specs.Entries.{InternalEntry, entry_of}
use Rattle.ikey.specs.Orders.{Order}
use Rattle.ikey.specs.Sources.{SameEntries}
use Rattle.running_job.specs.declared.open_job.OpenJob.{OpenJob}
use Rattle.running_job.specs.Running.{IsRunning, deep_of}
use Rattle.recover.specs.Directory.{Directory, IsConsistent, used_in}
use Rattle.recover.specs.Tables.{TableContent, tabled}
use Rattle.db_cursor.specs.Whole.{Whole}
use Rattle.store.specs.Files.{Facts, Files}
use Rattle.directory_writes.specs.declared.flush.FlushError.{FlushError}
use Rattle.directory_writes.specs.declared.flush.FlushError.TheVariants.{Before, Edit}
use Rattle.directory_writes.specs.declared.install.Installed.{Installed}
use Rattle.directory_writes.specs.declared.manifest.CurrentManifest.{CurrentManifest}
use Rattle.directory_writes.specs.Replacing.{IsPlanned, OwnsNone}
use Rattle.directory_writes.specs.internal.Each.{HasSameOutputs}
use Rattle.directory_writes.specs.internal.Install.{InstallMeans, IsServed, MayBeInstalled, PutsOwn}

-- The directory is served by these parts, and all entries of the inputs came to the job that is
-- under way over it.
pub record CanEnd {K : Type 0} {g : _} (order : Order) (whole : Whole) (next last_sequence : ℕ) (manifest : CurrentManifest) (tables : List PlacedTable) (d : Directory) (work : OpenJob K g) (came : List InternalEntry) : Type 0 where
  pub served : IsServed order whole.seen.facts.files next manifest tables d
  pub running : IsRunning order whole next d work came []
  pub used : last_sequence ≡ used_in d

-- Then what the end leaves is that of its inputs and the rest, as the job has them.
abbrev pub EndLeaves : {K : Type 0} {g : _} → Order → Facts → Facts → ℕ → ℕ → CurrentManifest → List PlacedTable → OpenJob K g → Result (Installed K) FlushError → Type 0
EndLeaves order old new next last_sequence manifest tables work result =
    IsTrue new.faithful → (whole : Whole) (d : Directory) (came : List InternalEntry) → whole.seen.facts ≡ old → (can : CanEnd order whole next last_sequence manifest tables d work came)
    → InstallMeans order (deep_of order.cmp work) work.job old.files new.files next manifest tables came d can.running.inputs can.running.rest result

-- A process crash in its middle leaves what a failure of the store at the edit does.
abbrev pub EndMayLeave : {K : Type 0} {g : _} → Order → Facts → ℕ → ℕ → CurrentManifest → List PlacedTable → OpenJob K g → Files → Type 0
EndMayLeave order old next last_sequence manifest tables work new =
    (whole : Whole) (d : Directory) (came : List InternalEntry) → whole.seen.facts ≡ old → (can : CanEnd order whole next last_sequence manifest tables d work came)
    → MayBeInstalled order (deep_of order.cmp work) work.job.plan.output_level work.job.selection.snapshots old.files new next came d can.running.inputs can.running.rest

-- And each table of what a process crash leaves was there before, or is one that the job wrote.
abbrev pub EndMayPutOwn : {K : Type 0} {g : _} → Order → Facts → ℕ → ℕ → CurrentManifest → List PlacedTable → OpenJob K g → Files → Type 0
EndMayPutOwn order old next last_sequence manifest tables work new =
    (whole : Whole) (d : Directory) (came : List InternalEntry) → whole.seen.facts ≡ old → CanEnd order whole next last_sequence manifest tables d work came → PutsOwn order work.job.outputs new d

-- Why it isn't ended: out of memory, while no call of the store failed; since the store failed; or
-- because numbers are above 2^62. Never as Corrupt over such a directory. As Unsupported only if
-- the inputs' entries are large.
abbrev pub RefusesEnd : {K : Type 0} {g : _} → Order → Facts → Facts → ℕ → ℕ → CurrentManifest → List PlacedTable → OpenJob K g → FlushError → Type 0
RefusesEnd order old new next last_sequence manifest tables work (Before e) = RefusesEntry e old new
    (IsTrue new.faithful → (whole : Whole) (d : Directory) (came : List InternalEntry) → whole.seen.facts ≡ old → CanEnd order whole next last_sequence manifest tables d work came → ⊥)
    (IsTrue new.faithful → (whole : Whole) (d : Directory) (came : List InternalEntry) → whole.seen.facts ≡ old → CanEnd order whole next last_sequence manifest tables d work came → AreLarge (map entry_of came))
    (2 ^ 62 < next)
RefusesEnd order old new next last_sequence manifest tables work Edit = old.failures < new.failures

-- ---- over each directory that differs in tables alone

-- All entries of these inputs came to the job, which may be replaced by tables of its level, and
-- what is needed of them is written. No table of the directory has a number that is the job's.
pub record HasMergedAll {K : Type 0} {g : _} (order : Order) (facts : Facts) (next : ℕ) (d : Directory) (work : OpenJob K g) (came : List InternalEntry) (inputs rest : List TableContent) : Type 0 where
  pub planned : IsPlanned order (deep_of order.cmp work) work.job.plan d.tables inputs rest
  pub entries : SameEntries (map entry_of came) (tabled inputs)
  pub merging : IsMerging order.cmp (deep_of order.cmp work) work.job.last.items work.job.selection work.job.outputs facts next came
  pub drawn : work.next ≤ next
  pub unused : OwnsNone work.job.outputs d.layout.tables.items

-- The same holds for a job that has ended over the files, of a directory that is served by these
-- parts, in which the job's tables have the same files.
pub record CanEndOver {K : Type 0} {g : _} (order : Order) (facts : Facts) (ideal : Files) (next last_sequence : ℕ) (manifest : CurrentManifest) (tables : List PlacedTable) (d : Directory) (work : OpenJob K g) (came : List InternalEntry)
    (inputs rest : List TableContent) : Type 0 where
  pub served : IsServed order ideal next manifest tables d
  pub merged : HasMergedAll order facts next d work came inputs rest
  pub outputs : HasSameOutputs work.job.outputs facts.files ideal
  pub used : last_sequence ≡ used_in d

-- What the end leaves of such a directory is that of its inputs and the rest.
abbrev pub EndLeavesOver : {K : Type 0} {g : _} → Order → Facts → Facts → Files → Files → ℕ → ℕ → CurrentManifest → List PlacedTable → OpenJob K g → Result (Installed K) FlushError → Type 0
EndLeavesOver order old new ideal after next last_sequence manifest tables work result =
    IsTrue new.faithful → (d : Directory) (came : List InternalEntry) (inputs rest : List TableContent) → CanEndOver order old ideal next last_sequence manifest tables d work came inputs rest
    → InstallMeans order (deep_of order.cmp work) work.job ideal after next manifest tables came d inputs rest result

-- If the store failed at the edit, each table of what is left is one of before, or one that the job
-- wrote, whose file is there.
abbrev pub EndPutsOwn : {K : Type 0} {g : _} → Order → Facts → Facts → Files → Files → ℕ → ℕ → CurrentManifest → List PlacedTable → OpenJob K g → Result (Installed K) FlushError → Type 0
EndPutsOwn order old new ideal after next last_sequence manifest tables work result =
    result ≡ Err Edit → IsTrue new.faithful → (d : Directory) (came : List InternalEntry) (inputs rest : List TableContent) → CanEndOver order old ideal next last_sequence manifest tables d work came inputs rest
    → (e : Directory) → IsConsistent order after e → (placed : PlacedTable) → Contains e.layout.tables.items placed
    → Contains d.layout.tables.items placed ⊎ (IsOwn work.job.outputs placed.table.number × ((file : List ℕ) × (get new.files (table_name placed.table.number) ≡ Some file)))

-- And a process crash in its middle leaves what a failure of the store at the edit does.
abbrev pub EndMayLeaveOver : {K : Type 0} {g : _} → Order → Facts → Files → Files → ℕ → ℕ → CurrentManifest → List PlacedTable → OpenJob K g → Type 0
EndMayLeaveOver order old ideal after next last_sequence manifest tables work =
    (d : Directory) (came : List InternalEntry) (inputs rest : List TableContent) → CanEndOver order old ideal next last_sequence manifest tables d work came inputs rest
    → MayBeInstalled order (deep_of order.cmp work) work.job.plan.output_level work.job.selection.snapshots ideal after next came d inputs rest
