-- How far a call of work brings a compaction: by as many entries as its budget has, and to its end
-- if no more are left.
use Rattle.std.specs.Prelude.{◌≡◌, ◌⊎◌, ◌<◌, ◌≤◌, ℕ, false, IsTrue, IsSome, Option, None, List, length, max, MatchOption, Result, Ok}
use Rattle.coding.specs.declared.error.DbError.{DbError}
use Rattle.cursor.specs.Places.{Cmp}
use Rattle.ikey.specs.Entries.{InternalEntry}
use Rattle.ikey.specs.Orders.{Order}
use Rattle.running_job.specs.Running.{CanStep}
use Rattle.running_job.specs.declared.open_job.OpenJob.{OpenJob}
use Rattle.recover.specs.Directory.{Directory}
use Rattle.table_access.specs.Tables.{Seen}
use Rattle.versions.specs.Plans.{IsPicked}
use Rattle.engine.specs.declared.ids.Ids.{Ids}
use Rattle.engine.specs.declared.work.Progress.{Progress}
use Rattle.engine.specs.declared.work.Progress.TheVariants.{Worked}
use Rattle.engine.specs.OpenDb.{OpenDb, version_of, whole_of}
use Rattle.machine.specs.Machine.{Machine}
use Rattle.engine.specs.Needed.{IsForLive}
use Rattle.engine.specs.OptionValues.{OptionValues}
use Rattle.engine.specs.internal.Standing.{StandsWhole}
use Rattle.engine.specs.Working.{IsAtEase}
use Rattle.engine.specs.WrittenTables.{KeepsTableFiles, PutsMerged}

-- ---- what is left of its inputs

-- No more entries of its inputs are left to the compaction under way than so many.
abbrev pub HasLeftUpTo : {K : Type 0} {g : _} → Order → Seen → OpenDb K g → ℕ → Type 0
HasLeftUpTo order source db most =
    MatchOption db.job ⊥ (λ work. (d : Directory) (came left : List InternalEntry) → CanStep order (whole_of source db) db.directory.numbers.next d work came left → length left ≤ most)

-- More are.
abbrev pub HasLeftAbove : {K : Type 0} {g : _} → Order → Seen → OpenDb K g → ℕ → Type 0
HasLeftAbove order source db most =
    MatchOption db.job ⊥ (λ work. (d : Directory) (came left : List InternalEntry) → CanStep order (whole_of source db) db.directory.numbers.next d work came left → most < length left)

-- So many at most if none is under way then, and more if one is.
abbrev pub HasLeftBy : {K : Type 0} {g : _} → Order → Seen → OpenDb K g → ℕ → Option (OpenJob K g) → Type 0
HasLeftBy order source db most job = MatchOption job (HasLeftUpTo order source db most) (λ work. HasLeftAbove order source db most)

-- ---- where it began

-- It is the compaction that is most wanted, for the sequence numbers that are read at, and nothing
-- came to it.
pub record IsNewJob {K : Type 0} {g : _} (cmp : Cmp) (options : OptionValues) (db : OpenDb K g) (work : OpenJob K g) : Type 0 where
  pub none : work.merged ≡ 0
  pub picked : IsPicked cmp options.level0_files options.base_bytes (version_of db) work.job.plan
  pub live : IsForLive work db

-- A state that the call came through, not broken. It has the tables that there were before and what
-- their files held, and the compaction that was under way, or a new one.
pub record IsBeforeStep {K : Type 0} {g : _} (order : Order) (options : OptionValues) (old between : Seen) (before mid : OpenDb K g) : Type 0 where
  pub stands : (ids : Ids) (m : Machine) → StandsWhole order old ids before m → (n : Machine) × StandsWhole order between ids mid n
  pub whole : mid.broken ≡ false
  pub tables : mid.tables ≡ before.tables
  pub files : KeepsTableFiles order old between before
  pub job : (mid.job ≡ before.job) ⊎ ((before.job ≡ None) × MatchOption mid.job ⊥ (IsNewJob order.cmp options before))

-- It came through one in which so much was left, and if the compaction is at its end, this is what
-- has become of it.
abbrev pub StepsBy : {K : Type 0} {g : _} → Order → OptionValues → Seen → Seen → OpenDb K g → OpenDb K g → ℕ → Type 0
StepsBy {K} {g} order options old new before after most =
    (between : Seen) × (mid : OpenDb K g) × IsBeforeStep order options old between before mid × HasLeftBy order between mid most after.job × (after.job ≡ None → PutsMerged order between new mid after)

-- It went on with a compaction, or began one. That is at its end exactly if no more entries were
-- left than its budget has, one for 0.
abbrev pub EndsWithin : {K : Type 0} {g : _} → Order → OptionValues → ℕ → Seen → Seen → OpenDb K g → OpenDb K g → Result Progress DbError → Type 0
EndsWithin order options budget old new before after result =
    result ≡ Ok Worked → IsSome before.job ⊎ IsAtEase options before → IsTrue new.facts.faithful → StepsBy order options old new before after (max budget 1)
