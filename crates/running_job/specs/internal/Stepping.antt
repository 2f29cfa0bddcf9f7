-- What a step of a compaction answers.
use Rattle.std.specs.Prelude.{◌≡◌, ◌≤◌, ◌⊎◌, ◌++◌, ◌^◌, ℕ, List, IsTrue, map}
use Rattle.coding.specs.declared.error.DbError.{DbError}
use Rattle.compact.specs.declared.job.Progress.{Progress}
use Rattle.compact.specs.Merging.{IsStepOf}
use Rattle.compact.specs.Outputs.{IsMineUpTo, RefusesEntry, WritesTables}
use Rattle.compact.specs.Rooms.{AreLarge}
use Rattle.ikey.specs.Entries.{InternalEntry, entry_of}
use Rattle.ikey.specs.Orders.{Order}
use Rattle.running_job.specs.declared.open_job.OpenJob.{OpenJob}
use Rattle.running_job.specs.Running.{IsRunning, MayRun, goes_over, CanStep}
use Rattle.memtables.specs.Places.{LeavesMemories}
use Rattle.recover.specs.Directory.{Directory, IsConsistent}
use Rattle.recover.specs.Tables.{TableContent}
use Rattle.store.specs.Stops.{LeavesOnly}
use Rattle.db_cursor.specs.Inputs.{IsMergeIntact}
use Rattle.db_cursor.specs.Scans.{IsOnePastLimit}
use Rattle.db_cursor.specs.Whole.{Whole}
use Rattle.table_access.specs.Tables.{IsSound, KeepsOf}
use Rattle.table_access.specs.Telling.{IfCorrupt}
use Rattle.directory_writes.specs.internal.JobWrites.{KeepsOtherTables}

-- ---- over any store

-- It writes tables of numbers that are the job's, and no others. The memtables stay, and what it
-- keeps anew of tables is of those that its cursor goes over, which are those of before.
pub record StepTouches {K : Type 0} {g : _} (old new : Whole) (next more : ℕ) (before after : OpenJob K g) : Type 0 where
  pub writes : WritesTables old.seen.facts new.seen.facts (IsMineUpTo before.job.outputs next more)
  pub memory : LeavesMemories old.memory new.memory
  pub gathered : (number : ℕ) → KeepsOf new.seen number → KeepsOf old.seen number ⊎ goes_over before number
  pub within : (number : ℕ) → goes_over after number → goes_over before number

-- ---- while it is faithful

-- Whatever the answer, the directory stays, and so do its other tables; what is kept of tables
-- stays right.
pub record StepKeeps {K : Type 0} {g : _} (order : Order) (old new : Whole) (next more : ℕ) (before : OpenJob K g) (d : Directory) : Type 0 where
  pub others : KeepsOtherTables order old.seen.facts.files new.seen.facts.files (IsMineUpTo before.job.outputs next more) more d
  pub sound : IsSound order.cmp new.seen

abbrev pub KeepsDirectory : {K : Type 0} {g : _} → Order → Whole → Whole → ℕ → ℕ → OpenJob K g → Type 0
KeepsDirectory order old new next more before = IsTrue new.seen.facts.faithful → (d : Directory) (came left : List InternalEntry)
    → CanStep order old next d before came left → StepKeeps order old new next more before d

-- Whichever contents its inputs may have, what is kept of tables stays right.
abbrev pub KeepsSound : {K : Type 0} {g : _} → Order → Whole → Whole → ℕ → OpenJob K g → Type 0
KeepsSound order old new next before = IsTrue new.seen.facts.faithful → (contents : List TableContent) (came left : List InternalEntry)
    → MayRun order old next contents before came left → IsSound order.cmp old.seen → IsSound order.cmp new.seen

-- A process crash in its middle leaves the directory, too.
abbrev pub StepStops : {K : Type 0} {g : _} → Order → Whole → Whole → ℕ → OpenJob K g → Type 0
StepStops order old new next before = IsTrue new.seen.facts.faithful → (d : Directory) (came left : List InternalEntry)
    → CanStep order old next d before came left → LeavesOnly old.seen.facts new.seen.facts (λ files. IsConsistent order files d)

-- The job goes on: so many of the entries that were left came.
abbrev pub GoesOn : {K : Type 0} {g : _} → Order → Whole → Whole → ℕ → ℕ → ℕ → OpenJob K g → OpenJob K g → Progress → Type 0
GoesOn order old new next more budget before after progress = IsTrue new.seen.facts.faithful → (d : Directory) (came left : List InternalEntry)
    → CanStep order old next d before came left
    → (front : List InternalEntry) × (back : List InternalEntry) × (left ≡ front ++ back) × IsStepOf budget progress front back
    × IsRunning order new more d after (came ++ front) back

-- So it does over all contents that the inputs may have: whichever they are, so many of their
-- entries came.
abbrev pub MayGoOn : {K : Type 0} {g : _} → Order → Whole → Whole → ℕ → ℕ → ℕ → OpenJob K g → OpenJob K g → Progress → Type 0
MayGoOn order old new next more budget before after progress = IsTrue new.seen.facts.faithful → (contents : List TableContent) (came left : List InternalEntry)
    → MayRun order old next contents before came left
    → (front : List InternalEntry) × (back : List InternalEntry) × (left ≡ front ++ back) × IsStepOf budget progress front back
    × MayRun order new more contents after (came ++ front) back

-- Why it doesn't: out of memory, while no call of the store failed; since the store failed; or
-- since no number is left. Never as Corrupt. As Unsupported only if the file of an input passes a
-- limit of reading, or the inputs' entries are large.
abbrev pub RefusesStep : {K : Type 0} {g : _} → Order → Whole → Whole → ℕ → ℕ → OpenJob K g → DbError → Type 0
RefusesStep order old new next more before e = RefusesEntry e old.seen.facts new.seen.facts
    (IsTrue new.seen.facts.faithful → (d : Directory) (came left : List InternalEntry) → CanStep order old next d before came left → ⊥)
    (IsTrue new.seen.facts.faithful → (d : Directory) (came left : List InternalEntry) → CanStep order old next d before came left
    → IsOnePastLimit order.cmp before.job.plan.inputs.items old ⊎ AreLarge (map entry_of (came ++ left)))
    (2 ^ 62 ≤ more)

-- Whichever contents its inputs may have, Corrupt only if a block is torn to which it comes.
abbrev pub StepTears : {K : Type 0} {g : _} → Order → Whole → Whole → ℕ → OpenJob K g → DbError → Type 0
StepTears order old new next before e = IfCorrupt e (IsTrue new.seen.facts.faithful → (contents : List TableContent) (came left : List InternalEntry)
    → MayRun order old next contents before came left → IsMergeIntact order.cmp before.job.cursor old → ⊥)
