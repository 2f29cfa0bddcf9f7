-- What the beginning of a compaction answers.
use Rattle.std.specs.Prelude.{◌<◌, ℕ, List, [], IsTrue}
use Rattle.coding.specs.declared.error.DbError.{DbError}
use Rattle.compact.specs.JobEdits.{IsPlanProper}
use Rattle.compact.specs.Merging.{AreDisjoint}
use Rattle.compact.specs.Outputs.{IsToCome, RefusesEntry}
use Rattle.cursor.specs.Cuts.{Front}
use Rattle.edits.specs.declared.field.PlacedTable.{PlacedTable}
use Rattle.ikey.specs.Entries.{InternalEntry}
use Rattle.ikey.specs.Orders.{Order}
use Rattle.running_job.specs.declared.open_job.OpenJob.{OpenJob}
use Rattle.running_job.specs.Running.{IsRunning, MayRun}
use Rattle.recover.specs.Directory.{Directory, IsConsistent}
use Rattle.recover.specs.Numbers.{IsFree}
use Rattle.recover.specs.Tables.{TableContent}
use Rattle.level_cursor.specs.InRows.{ListsNumber}
use Rattle.db_cursor.specs.Scans.{IsOnePastLimit, IsOneTornFile}
use Rattle.db_cursor.specs.Whole.{Whole}
use Rattle.table_access.specs.Possible.{MayBeTable}
use Rattle.table_access.specs.Tables.{IsSound, KeepsOf}
use Rattle.table_access.specs.Telling.{IfCorrupt}
use Rattle.version_laws.specs.Places.{MayHaveVersion}
use Rattle.directory_writes.specs.Replacing.{placed_in}
use Rattle.versions.specs.declared.plan.JobPlan.{JobPlan}
use Rattle.versions.specs.Levels.{ListsSameTables}

-- The files are this directory, whose tables the version lists. What is kept of tables is right,
-- and nothing is kept of one that is still to come. No number from `next` on is taken.
pub record CanBegin (order : Order) (whole : Whole) (next : ℕ) (tables : List PlacedTable) (d : Directory) : Type 0 where
  pub consistent : IsConsistent order whole.seen.facts.files d
  pub listed : ListsSameTables (placed_in d.tables) tables
  pub sound : IsSound order.cmp whole.seen
  pub unkept : AreDisjoint (KeepsOf whole.seen) (IsToCome next)
  pub free : IsFree order whole.seen.facts.files next

-- As far as their blocks tell, the files may be the inputs of the plan, with these contents. What
-- is kept of tables is right, and nothing is kept of one that is still to come.
pub record MayBegin (order : Order) (whole : Whole) (next : ℕ) (plan : JobPlan) (contents : List TableContent) : Type 0 where
  pub sound : IsSound order.cmp whole.seen
  pub may : MayHaveVersion (MayBeTable order.cmp) order whole.seen.facts.files plan.inputs.items contents
  pub unkept : AreDisjoint (KeepsOf whole.seen) (IsToCome next)
  pub below : (number : ℕ) → ListsNumber plan.inputs.items number → number < next

-- Then a job is under way over them to which nothing came.
abbrev pub MayBeginJob : {K : Type 0} {g : _} → Order → JobPlan → Whole → Whole → OpenJob K g → Type 0
MayBeginJob order plan old new work = IsTrue new.seen.facts.faithful → (next : ℕ) (contents : List TableContent) → MayBegin order old next plan contents
    → (left : List InternalEntry) × MayRun order new next contents work [] left

-- So a job is under way to which nothing came.
abbrev pub BeginsJob : {K : Type 0} {g : _} → Order → List PlacedTable → Whole → Whole → OpenJob K g → Type 0
BeginsJob order tables old new work = IsTrue new.seen.facts.faithful → (next : ℕ) (d : Directory) → CanBegin order old next tables d
    → (left : List InternalEntry) × IsRunning order new next d work [] left

-- Why it isn't begun: out of memory, while no call of the store failed, or since the store failed.
-- Never as Corrupt over such a directory. As Unsupported only if the file of an input passes a
-- limit of reading.
abbrev pub RefusesBegin : Order → List PlacedTable → JobPlan → Whole → Whole → DbError → Type 0
RefusesBegin order tables plan old new e = RefusesEntry e old.seen.facts new.seen.facts
    (IsTrue new.seen.facts.faithful → (next : ℕ) (d : Directory) → CanBegin order old next tables d → ⊥)
    (IsTrue new.seen.facts.faithful → (next : ℕ) (d : Directory) → CanBegin order old next tables d → IsOnePastLimit order.cmp plan.inputs.items old)
    ⊥

-- Whichever contents the inputs may have, Corrupt only if no edit could name the plan, or the first
-- block of an input is torn.
abbrev pub BeginTears : Order → JobPlan → Whole → Whole → DbError → Type 0
BeginTears order plan old new e = IfCorrupt e (IsTrue new.seen.facts.faithful → (next : ℕ) (contents : List TableContent) → MayBegin order old next plan contents
    → IsPlanProper plan → IsOneTornFile order.cmp plan.inputs.items old Front)
