-- What a piece of work does to the machine.
use Rattle.std.specs.Prelude.{◌≡◌, ◌⊎◌, ◌<◌, ◌≤◌, ◌+◌, ℕ, true, Some, None, IsSome, MatchOption, max, List, [], Result, Ok, Err}
use Rattle.coding.specs.declared.error.DbError.{DbError}
use Rattle.cursor.specs.Places.{Cmp}
use Rattle.edits.specs.Layout.{inserted}
use Rattle.edits.specs.declared.field.TableFile.{TableFile}
use Rattle.memtables.specs.Memories.{sealed_inserts}
use Rattle.memtable.specs.Contents.{size_of}
use Rattle.versions.specs.Levels.{ListsSameTables}
use Rattle.versions.specs.Plans.{IsPicked, Needs}
use Rattle.std.specs.FinMap.{contains_key, get}
use Rattle.edits.specs.Names.{IsFileName, name_of}
use Rattle.edits.specs.declared.names.FileName.{FileName}
use Rattle.store.specs.Files.{Facts, Files}
use Rattle.directory_writes.specs.Replacing.{ReplacesInputs}
use Rattle.directory_writes.specs.Removal.{IsDead, IsLiveAmong}
use Rattle.versions.specs.declared.live.LiveNumbers.{LiveNumbers}
use Rattle.versions.specs.declared.plan.JobPlan.{JobPlan}
use Rattle.opening.specs.declared.directory.DirectoryState.{DirectoryState}
use Rattle.opening.specs.Durable.{LeavesFile}
use Rattle.engine.specs.OpenDb.{OpenDb, version_of}
use Rattle.engine.specs.InUse.{IsTableUsed}
use Rattle.engine.specs.Needed.{IsForLive}
use Rattle.engine.specs.OptionValues.{OptionValues}
use Rattle.running_job.specs.Running.{shown}
use Rattle.running_job.specs.declared.open_job.OpenJob.{OpenJob}
use Rattle.machine.specs.declared.command.Answer.{Answer}
use Rattle.machine.specs.declared.command.Answer.TheVariants.{Worked, Idle, Refused}
use Rattle.engine.specs.declared.work.Progress.{Progress}
use Rattle.engine.specs.declared.work.Progress.TheVariants as progress

-- ---- which piece it is

-- so many entries more of its inputs came to the same compaction, which is for the same version and
-- the same sequence numbers
abbrev pub IsFurther : {K : Type 0} {g : _} → OpenJob K g → ℕ → OpenJob K g → Type 0
IsFurther work merged more = (more.job.plan ≡ work.job.plan) × (more.merged ≡ shown (work.merged + merged)) × (more.job.selection.snapshots ≡ work.job.selection.snapshots) × (more.version ≡ work.version)

-- A compaction was under way. As many entries more of its inputs came as the budget has, one for 0,
-- and it is under way still, with the tables as they were. Or all came, and its outputs replace its
-- inputs.
pub record GoesOn {K : Type 0} {g : _} (budget : ℕ) (before after : OpenDb K g) : Type 0 where
  pub work : OpenJob K g
  pub was : before.job ≡ Some work
  pub on : MatchOption after.job (ReplacesInputs work.job.plan before.tables after.tables) (λ more. IsFurther work (max budget 1) more × (after.tables ≡ before.tables))

-- None was, and the sealed memtable has become a table of level 0, unless it was empty.
pub record WritesTable {K : Type 0} {g : _} (before after : OpenDb K g) : Type 0 where
  pub idle : before.job ≡ None
  pub was : IsSome before.memory.sealed
  pub gone : after.memory.sealed ≡ None
  pub current : after.memory.current ≡ before.memory.current
  pub still : after.job ≡ None
  pub table : (sealed_inserts before.memory ≡ []) ⊎ ((table : TableFile) × ListsSameTables (inserted (record { level = 0; table = table }) before.tables) after.tables)

-- Nor was anything sealed. The memtable is, and an empty one has taken its place, with a log of
-- its own.
pub record SealsMemory {K : Type 0} {g : _} (before after : OpenDb K g) : Type 0 where
  pub idle : before.job ≡ None
  pub none : before.memory.sealed ≡ None
  pub sealed : sealed_inserts after.memory ≡ before.memory.current.inserts
  pub is : IsSome after.memory.sealed
  pub still : after.job ≡ None
  pub empty : after.memory.current.inserts ≡ []
  pub log : after.log.number ≡ before.directory.numbers.next
  pub begins : after.log.end ≡ 0

-- No compaction is under way, nothing is sealed, and the memtable has fewer bytes than it may.
pub record IsAtEase {K : Type 0} {g : _} (options : OptionValues) (db : OpenDb K g) : Type 0 where
  pub idle : db.job ≡ None
  pub none : db.memory.sealed ≡ None
  pub small : size_of db.memory.current.inserts < options.write_buffer

-- this level of the version wants a compaction
abbrev pub WantsCompaction : {K : Type 0} {g : _} → OptionValues → OpenDb K g → ℕ → Type 0
WantsCompaction options db level = (level < 6) × Needs options.level0_files options.base_bytes db.tables level

-- The compaction that is most wanted was begun. So many entries of its inputs came, and it keeps
-- the views that are read at, and no others; or all came, and its outputs replace its inputs.
pub record BeginsJob {K : Type 0} {g : _} (cmp : Cmp) (options : OptionValues) (budget : ℕ) (before after : OpenDb K g) : Type 0 where
  pub plan : JobPlan
  pub picked : IsPicked cmp options.level0_files options.base_bytes (version_of before) plan
  pub begun : MatchOption after.job (ReplacesInputs plan before.tables after.tables) (λ work. (work.job.plan ≡ plan) × (work.merged ≡ shown (max budget 1)) × IsForLive work before × (after.tables ≡ before.tables))

-- That is so if nothing else was to be done.
pub record Begins {K : Type 0} {g : _} (cmp : Cmp) (options : OptionValues) (budget : ℕ) (before after : OpenDb K g) : Type 0 where
  pub ease : IsAtEase options before
  pub job : BeginsJob cmp options budget before after

-- If it is, and no level wants a compaction, there is no work.
pub record HasNoWork {K : Type 0} {g : _} (options : OptionValues) (db : OpenDb K g) : Type 0 where
  pub ease : IsAtEase options db
  pub unwanted : (level : ℕ) → WantsCompaction options db level → ⊥

-- Work goes on with the compaction under way, or writes a table if one is sealed, or seals the
-- memtable if that is full, or begins the compaction that is most wanted. Else there is none.
abbrev pub DoesWork : {K : Type 0} {g : _} → Cmp → OptionValues → ℕ → OpenDb K g → OpenDb K g → Result Progress DbError → Type 0
DoesWork cmp options budget before after (Ok progress.Worked) =
    GoesOn budget before after ⊎ WritesTable before after ⊎ ((options.write_buffer ≤ size_of before.memory.current.inserts) × SealsMemory before after) ⊎ Begins cmp options budget before after
DoesWork cmp options budget before after (Ok progress.Idle) = HasNoWork options before × HasNoWork options after
DoesWork cmp options budget before after (Err e) = Unit {0}

-- ---- files

-- the numbers of the files in use
abbrev pub numbers_of : DirectoryState → LiveNumbers
numbers_of state = record { manifest_number = state.manifest.number; log_number = state.first_log; previous_log_number = state.previous_log }

-- `CURRENT`, the lock, the MANIFEST, a log that the directory reads, or a table of the version, of
-- that of an open iterator, or of the compaction under way. Of a table that has a file under both
-- of its names it is the one that is read.
abbrev pub IsLiveIn : {K : Type 0} {g : _} → Files → OpenDb K g → FileName → Type 0
IsLiveIn files db file = IsLiveAmong files (numbers_of db.directory) (λ number. IsTableUsed db.tables db.job db.iterators number) file

-- Each file of a known shape is in use.
abbrev pub HasLiveOnly : {K : Type 0} {g : _} → Files → OpenDb K g → Type 0
HasLiveOnly files db = (file : FileName) → IsFileName file → contains_key files (name_of file) ≡ true → IsLiveIn files db file

-- Each file, and what of it is synced, is as before; or it is of a known shape and obsolete, and is
-- gone. So files in use and files of other programs stay.
abbrev pub LosesDead : {K : Type 0} {g : _} → Facts → Facts → OpenDb K g → Type 0
LosesDead old new db = (name : List ℕ) → LeavesFile old new name ⊎ (IsDead (IsLiveIn old.files db) name × (get new.files name ≡ None))

-- ---- answers

abbrev pub progress_answer : Progress → Answer
progress_answer progress.Worked = Worked
progress_answer progress.Idle = Idle

abbrev pub work_answer : Result Progress DbError → Answer
work_answer (Ok done) = progress_answer done
work_answer (Err e) = Refused e
