-- A compaction that is under way over what an open database reads (LevelDB's db/db_impl.cc,
-- CompactionState).
use Rattle.std.specs.Prelude.{◌≡◌, ◌≤◌, ◌-◌, ◌^◌, ℕ, Bool, List, [], ◌++◌, length, map, min}
use Rattle.compact.specs.Deeper.{is_covered_below}
use Rattle.compact.specs.Merging.{AreDisjoint, HasPassed, HaveOwnSequences, IsMerging}
use Rattle.compact.specs.Outputs.{AreNumbered, IsMine, IsOpen}
use Rattle.cursor.specs.Cuts.{Cut}
use Rattle.cursor.specs.Places.{Cmp}
use Rattle.ikey.specs.Entries.{InternalEntry, entry_of}
use Rattle.ikey.specs.Orders.{Order}
use Rattle.ikey.specs.Sources.{SameEntries}
use Rattle.running_job.specs.declared.open_job.OpenJob.{OpenJob}
use Rattle.recover.specs.Directory.{Directory, IsConsistent}
use Rattle.recover.specs.Tables.{TableContent, tabled}
use Rattle.level_cursor.specs.InRows.{ListsNumber}
use Rattle.db_cursor.specs.Inputs.{IsMergeIntact, IsMergeLimited, IsMergeTorn, ReadsNoMemory}
use Rattle.db_cursor.specs.Places.{OneGoesOver}
use Rattle.db_cursor.specs.Scans.{IsOnePastLimit, IsOneTornFile, ListsMerged}
use Rattle.db_cursor.specs.Whole.{Whole}
use Rattle.store.specs.Files.{Facts}
use Rattle.table_access.specs.Tables.{KeepsOf, IsSound}
use Rattle.directory_writes.specs.Replacing.{OwnsNone, IsPlanned}
use Rattle.recover.specs.Numbers.{IsFree}

-- the table of this number is one of the inputs
abbrev pub is_input : {K : Type 0} {g : _} → OpenJob K g → ℕ → Type 0
is_input work number = ListsNumber work.job.plan.inputs.items number

-- its cursor goes over the table of this number
abbrev pub goes_over : {K : Type 0} {g : _} → OpenJob K g → ℕ → Type 0
goes_over work number = OneGoesOver work.job.cursor.children.items number

-- the job writes the table of this number now, or may do so later
abbrev pub is_to_write : {K : Type 0} {g : _} → OpenJob K g → ℕ → ℕ → Type 0
is_to_write work next number = IsMine work.job.outputs next number

-- the user keys that tables of its version below the output level cover
abbrev pub deep_of : {K : Type 0} {g : _} → Cmp → OpenJob K g → List ℕ → Bool
deep_of cmp work = is_covered_below cmp work.job.plan.output_level work.version.value.tables

-- what a counter of 64 bits shows of so many
abbrev pub shown : ℕ → ℕ
shown count = min count (2 ^ 64 - 1)

-- The job of a plan for the tables of this directory. Of its inputs' entries these came, and what
-- is needed of them is written; those are left, and its cursor stands on the first of them. No
-- table that it writes is one that it reads, one of which something is kept beside the store, or
-- one of the directory.
pub record IsRunning {K : Type 0} {g : _} (order : Order) (whole : Whole) (next : ℕ) (d : Directory) (work : OpenJob K g) (came left : List InternalEntry) : Type 0 where
  pub inputs : List TableContent
  pub rest : List TableContent
  pub planned : IsPlanned order (deep_of order.cmp work) work.job.plan d.tables inputs rest
  pub entries : SameEntries (map entry_of (came ++ left)) (tabled inputs)
  pub own_sequences : HaveOwnSequences (came ++ left)
  pub merging : IsMerging order.cmp (deep_of order.cmp work) work.job.last.items work.job.selection work.job.outputs whole.seen.facts next came
  pub goes_on : IsOpen work.job.outputs
  pub stands : HasPassed (ListsMerged order.cmp) work.job.cursor whole came left
  pub no_memory : ReadsNoMemory order.cmp work.job.cursor
  pub over : (number : ℕ) → goes_over work number → is_input work number
  pub outside : AreDisjoint (is_input work) (is_to_write work next)
  pub unkept : AreDisjoint (KeepsOf whole.seen) (is_to_write work next)
  pub numbered : AreNumbered work.job.outputs next
  pub drawn : work.next ≤ next
  pub counted : work.merged ≡ shown (length came)
  pub unused : OwnsNone work.job.outputs d.layout.tables.items
  -- it passes a limit of reading only where the file of an input does
  pub limits : IsMergeLimited order.cmp work.job.cursor whole → IsOnePastLimit order.cmp work.job.plan.inputs.items whole
  -- the blocks that it reads are intact
  pub intact : IsMergeIntact order.cmp work.job.cursor whole

-- The job is under way over contents that its inputs may have, as far as their blocks tell. Of
-- these contents' entries these came, and what is needed of them is written; those are left, and
-- its cursor stands on the first of them.
pub record MayRun {K : Type 0} {g : _} (order : Order) (whole : Whole) (next : ℕ) (contents : List TableContent) (work : OpenJob K g) (came left : List InternalEntry) : Type 0 where
  pub entries : SameEntries (map entry_of (came ++ left)) (tabled contents)
  pub own_sequences : HaveOwnSequences (came ++ left)
  pub merging : IsMerging order.cmp (deep_of order.cmp work) work.job.last.items work.job.selection work.job.outputs whole.seen.facts next came
  pub goes_on : IsOpen work.job.outputs
  pub stands : HasPassed (ListsMerged order.cmp) work.job.cursor whole came left
  pub no_memory : ReadsNoMemory order.cmp work.job.cursor
  pub over : (number : ℕ) → goes_over work number → is_input work number
  pub outside : AreDisjoint (is_input work) (is_to_write work next)
  pub unkept : AreDisjoint (KeepsOf whole.seen) (is_to_write work next)
  pub numbered : AreNumbered work.job.outputs next
  pub drawn : work.next ≤ next
  pub counted : work.merged ≡ shown (length came)
  -- it passes a limit of reading, or comes to a torn block, only where the file of an input does
  pub limits : IsMergeLimited order.cmp work.job.cursor whole → IsOnePastLimit order.cmp work.job.plan.inputs.items whole
  pub torn : (cut : Cut) → IsMergeTorn order.cmp work.job.cursor whole cut → IsOneTornFile order.cmp work.job.plan.inputs.items whole cut

-- What a job has merged of contents that its inputs may have, where nothing is left: all their
-- entries, of which those are written that are needed.
abbrev pub HasMerged : {K : Type 0} {g : _} → Order → Facts → ℕ → OpenJob K g → Type 0
HasMerged order facts next work = (whole : Whole) (contents : List TableContent) (came : List InternalEntry) → whole.seen.facts ≡ facts → MayRun order whole next contents work came []
    → SameEntries (map entry_of came) (tabled contents)
    × IsMerging order.cmp (deep_of order.cmp work) work.job.last.items work.job.selection work.job.outputs facts next came

-- The job is under way over a directory of these parts.
pub record CanStep {K : Type 0} {g : _} (order : Order) (whole : Whole) (next : ℕ) (d : Directory) (work : OpenJob K g) (came left : List InternalEntry) : Type 0 where
  pub consistent : IsConsistent order whole.seen.facts.files d
  pub sound : IsSound order.cmp whole.seen
  pub free : IsFree order whole.seen.facts.files next
  pub running : IsRunning order whole next d work came left
