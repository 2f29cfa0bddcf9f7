-- What other calls of an open database may do while a job is under way.
use Rattle.std.specs.Prelude.{◌≡◌, ◌≤◌, ℕ, List, Some}
use Rattle.std.specs.FinMap.{get}
use Rattle.cache.specs.Tables.{table_at}
use Rattle.compact.specs.Merging.{AreDisjoint}
use Rattle.compact.specs.Outputs.{IsOwn, TablesWritten, table_name}
use Rattle.ikey.specs.Entries.{InternalEntry}
use Rattle.ikey.specs.Orders.{Order}
use Rattle.running_job.specs.declared.open_job.OpenJob.{OpenJob}
use Rattle.running_job.specs.Running.{IsRunning, MayRun, deep_of, is_input, is_to_write}
use Rattle.recover.specs.Directory.{Directory}
use Rattle.recover.specs.Tables.{TableContent}
use Rattle.db_cursor.specs.Whole.{Whole}
use Rattle.table_access.specs.Tables.{IsSound, KeepsOf}
use Rattle.store.specs.Files.{Facts}
use Rattle.store.specs.Losses.{StaysNamed}
use Rattle.directory_writes.specs.Replacing.{OwnsNone, IsPlanned}

-- the file of this name is as it was, and if it was synced whole, or has stayed under its name
-- since the last sync, it is and has so still
abbrev pub LeavesWhole : Facts → Facts → List ℕ → Type 0
LeavesWhole old new name =
    (get new.files name ≡ get old.files name) × ((file : List ℕ) → get old.files name ≡ Some file → old.synced name ≡ Some file → new.synced name ≡ Some file)
    × (StaysNamed old name → StaysNamed new name)

-- the same for the files of the tables that the job has written, ended or at hand
abbrev pub KeepsOutputs : TablesWritten → Facts → Facts → Type 0
KeepsOutputs w old new = (number : ℕ) → IsOwn w number → LeavesWhole old new (table_name number)

-- The files of the job's tables are as they were, of inputs and outputs. What is kept of tables is
-- right where it was, and nothing is kept of a table that the job writes. Numbers may have been
-- drawn, and tables put in beside the inputs, none of which is the job's.
pub record LeavesJob {K : Type 0} {g : _} (order : Order) (work : OpenJob K g) (inputs : List TableContent) (old new : Whole) (next more : ℕ) (e : Directory) : Type 0 where
  pub drawn : next ≤ more
  pub files : (number : ℕ) → is_input work number → table_at new.seen.facts.files number ≡ table_at old.seen.facts.files number
  pub outputs : KeepsOutputs work.job.outputs old.seen.facts new.seen.facts
  pub sound : IsSound order.cmp old.seen → IsSound order.cmp new.seen
  pub unkept : AreDisjoint (KeepsOf new.seen) (is_to_write work more)
  pub rest : List TableContent
  pub planned : IsPlanned order (deep_of order.cmp work) work.job.plan e.tables inputs rest
  pub unused : OwnsNone work.job.outputs e.layout.tables.items

-- Then the job is under way over what there is now.
abbrev pub RunningStays : {K : Type 0} {g : _} → Order → OpenJob K g → Type 0
RunningStays order work = (old new : Whole) (next more : ℕ) (d e : Directory) (came left : List InternalEntry)
    → (r : IsRunning order old next d work came left) → LeavesJob order work r.inputs old new next more e → IsRunning order new more e work came left

-- Over contents that its inputs may have it needs no more than that the files of its tables are as
-- they were, and that nothing is kept of one that it writes.
pub record LeavesInputs {K : Type 0} {g : _} (order : Order) (work : OpenJob K g) (old new : Whole) (next more : ℕ) : Type 0 where
  pub drawn : next ≤ more
  pub files : (number : ℕ) → is_input work number → table_at new.seen.facts.files number ≡ table_at old.seen.facts.files number
  pub outputs : KeepsOutputs work.job.outputs old.seen.facts new.seen.facts
  pub sound : IsSound order.cmp old.seen → IsSound order.cmp new.seen
  pub unkept : AreDisjoint (KeepsOf new.seen) (is_to_write work more)

abbrev pub MayRunStays : {K : Type 0} {g : _} → Order → OpenJob K g → Type 0
MayRunStays order work = (old new : Whole) (next more : ℕ) (contents : List TableContent) (came left : List InternalEntry)
    → MayRun order old next contents work came left → LeavesInputs order work old new next more → MayRun order new more contents work came left

-- So it does while the directory has the same tables: over a write, a seal, a move of an iterator,
-- a look-up.
pub record LeavesTables {K : Type 0} {g : _} (order : Order) (work : OpenJob K g) (old new : Whole) (next more : ℕ) (d e : Directory) : Type 0 where
  pub drawn : next ≤ more
  pub files : (number : ℕ) → is_input work number → table_at new.seen.facts.files number ≡ table_at old.seen.facts.files number
  pub outputs : KeepsOutputs work.job.outputs old.seen.facts new.seen.facts
  pub sound : IsSound order.cmp old.seen → IsSound order.cmp new.seen
  pub unkept : AreDisjoint (KeepsOf new.seen) (is_to_write work more)
  pub tables : e.tables ≡ d.tables
  pub listed : e.layout.tables.items ≡ d.layout.tables.items

abbrev pub RunningStaysBeside : {K : Type 0} {g : _} → Order → OpenJob K g → Type 0
RunningStaysBeside order work = (old new : Whole) (next more : ℕ) (d e : Directory) (came left : List InternalEntry)
    → IsRunning order old next d work came left → LeavesTables order work old new next more d e → IsRunning order new more e work came left
