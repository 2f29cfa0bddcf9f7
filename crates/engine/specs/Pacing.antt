-- Which calls of work are made until there is none, and beside what is written.
use Rattle.std.specs.Prelude.{◌≡◌, ◌≢◌, ◌⊎◌, ◌-◌, ◌*◌, ◌/◌, ◌^◌, ℕ, zero, suc, max, min, nat_lt}
use Rattle.std.specs.Prelude.{if◌then◌else◌, Bool, None, List, length, Result, Ok, Err}
use Rattle.batch.specs.declared.operation.Operation.{Operation}
use Rattle.coding.specs.declared.error.DbError.{DbError}
use Rattle.coding.specs.declared.error.DbError.TheVariants as error
use Rattle.ikey.specs.Orders.{Order}
use Rattle.memtable.specs.Contents.{size_of}
use Rattle.store.specs.Files.{Facts}
use Rattle.versions.specs.Levels.{tables_at}
use Rattle.machine.specs.Access.{Writes}
use Rattle.machine.specs.Causes.{not_serving, write_cause}
use Rattle.machine.specs.Upkeep.{Works}
use Rattle.engine.specs.Applied.{DbCaused, DbSyncs, DbWritesEmpty, DoneWork}
use Rattle.engine.specs.Follows.{unit_answer}
use Rattle.engine.specs.OpenDb.{OpenDb}
use Rattle.engine.specs.OptionValues.{OptionValues}
use Rattle.engine.specs.Outcomes.{DbOutcomeOf, MayRefuseWork, MayRefuseWrite}
use Rattle.engine.specs.Pace.{HasKeptUp}
use Rattle.engine.specs.StandsDb.{FollowsDb, db_options_of, open_by, seen_by}
use Rattle.engine.specs.Touching.{AsksSync, PutsSome}
use Rattle.engine.specs.Working.{work_answer}
use Rattle.engine.specs.declared.db.Db.{Db}
use Rattle.engine.specs.declared.pace.Pace.{Pace}
use Rattle.engine.specs.declared.pace.Pace.TheVariants.{KeepsUp, Refused}
use Rattle.engine.specs.declared.work.Progress.{Progress}
use Rattle.engine.specs.declared.work.Progress.TheVariants.{Worked, Idle}

-- ---- calls of work

-- A call of work with this budget: its step of the machine, its answer with the cause, which piece
-- of work it did, and how far it brought a compaction.
pub record CallsWork {S K : Type 0} {g : _} (order : Order) (facts : S → Facts) (budget : ℕ) (old new : Db S K g)
    (result : Result Progress DbError) : Type 0 where
  pub step : FollowsDb order facts old new (λ m n. Works m budget (work_answer result) n)
  pub outcome : DbOutcomeOf MayRefuseWork facts old new result
  pub caused : DbCaused not_serving old new result
  pub done : DoneWork order (db_options_of old) budget (seen_by facts old) (seen_by facts new) (open_by old)
      (open_by new) result

-- So many calls of work with this budget, one after the other. Each did a piece, and what it left
-- goes on.
abbrev pub WorksOn : {S K : Type 0} {g : _} → Order → (S → Facts) → (OpenDb K g → Type 0) → ℕ → ℕ
    → Db S K g → Db S K g → Type 0
WorksOn order facts goes_on budget zero old new = new ≡ old
WorksOn {S} {K} {g} order facts goes_on budget (suc pieces) old new =
    (mid : Db S K g) × WorksOn order facts goes_on budget pieces old mid
    × CallsWork order facts budget mid new (Ok Worked) × goes_on (open_by new)

-- So it went on, and the last call was answered so.
pub record WorksUntil {S K : Type 0} {g : _} (order : Order) (facts : S → Facts) (goes_on : OpenDb K g → Type 0)
    (budget : ℕ) (old new : Db S K g) (last : Result Progress DbError) : Type 0 where
  pub pieces : ℕ
  pub before : Db S K g
  pub went_on : WorksOn order facts goes_on budget pieces old before
  pub ended : CallsWork order facts budget before new last

-- It went on for as many calls as 64 bits count.
pub record WorksForever {S K : Type 0} {g : _} (order : Order) (facts : S → Facts) (goes_on : OpenDb K g → Type 0)
    (budget : ℕ) (old new : Db S K g) : Type 0 where
  pub pieces : ℕ
  pub all : pieces ≡ 2 ^ 64 - 1
  pub went_on : WorksOn order facts goes_on budget pieces old new

-- The last call was refused with this error. (Out of memory is answered too where it has no end.)
abbrev pub WorksUntilRefused : {S K : Type 0} {g : _} → Order → (S → Facts) → (OpenDb K g → Type 0) → ℕ
    → Db S K g → Db S K g → DbError → Type 0
WorksUntilRefused order facts goes_on budget old new e =
    WorksUntil order facts goes_on budget old new (Err e)
    ⊎ ((e ≡ error.OutOfMemory) × WorksForever order facts goes_on budget old new)

-- ---- until nothing is left to do

-- Calls of work with this budget, up to the one that finds nothing to do, or is refused.
abbrev pub WorksOff : {S K : Type 0} {g : _} → Order → (S → Facts) → ℕ → Db S K g → Db S K g
    → Result (Unit {0}) DbError → Type 0
WorksOff order facts budget old new (Ok done) = WorksUntil order facts (λ db. Unit {0}) budget old new (Ok Idle)
WorksOff order facts budget old new (Err e) = WorksUntilRefused order facts (λ db. Unit {0}) budget old new e

-- ---- until it keeps up

-- Work doesn't keep up with writes, or a memtable waits for its table.
abbrev pub IsBehind : {K : Type 0} {g : _} → OptionValues → OpenDb K g → Type 0
IsBehind options db = (HasKeptUp options db × (db.memory.sealed ≡ None)) → ⊥

-- Calls of work with this budget, while that is so: the last one ends it, or is refused.
abbrev pub CatchesUp : {S K : Type 0} {g : _} → Order → (S → Facts) → ℕ → Db S K g → Db S K g → Pace → Type 0
CatchesUp order facts budget old new KeepsUp =
    (last : Progress) × WorksUntil order facts (IsBehind (db_options_of old)) budget old new (Ok last)
CatchesUp order facts budget old new (Refused e) =
    WorksUntilRefused order facts (IsBehind (db_options_of old)) budget old new e

-- ---- what a write brings along

-- So many operations count for so many entries of work: six each, or 24 if level 0 has twice as
-- many tables as start a compaction. At least 64 operations are counted, and at most 2^20.
abbrev pub share_for : {K : Type 0} {g : _} → OptionValues → OpenDb K g → ℕ → ℕ
share_for options db count =
    (if nat_lt (length (tables_at 0 db.tables)) (2 * options.level0_files) then 6 else 24) * max 64 (min count (2 ^ 20))

-- A sixteenth of a memtable.
abbrev pub part_of : OptionValues → ℕ
part_of options = max (options.write_buffer / 16) 1

-- A group of operations ends since the last sequence number and the memtable's bytes were these:
-- the one has passed a multiple of 64, or the other one of a sixteenth of a memtable.
abbrev pub EndsGroup : {K : Type 0} {g : _} → OptionValues → ℕ → ℕ → OpenDb K g → Type 0
EndsGroup options last size db =
    (last / 64 ≢ db.memory.last / 64)
    ⊎ (size / part_of options ≢ size_of db.memory.current.inserts / part_of options)

-- Within a group a write brings no work along while it keeps up.
abbrev pub CanWait : {K : Type 0} {g : _} → OptionValues → ℕ → ℕ → OpenDb K g → Type 0
CanWait options last size db = (EndsGroup options last size db → ⊥) × HasKeptUp options db

abbrev pub CanNotWait : {K : Type 0} {g : _} → OptionValues → ℕ → ℕ → OpenDb K g → Type 0
CanNotWait options last size db = EndsGroup options last size db ⊎ (HasKeptUp options db → ⊥)

-- A call of write: its step of the machine, its answer with the cause, and what it synced.
pub record CallsWrite {S K : Type 0} {g : _} (order : Order) (facts : S → Facts) (operations : List Operation)
    (sync : Bool) (old new : Db S K g) (result : Result (Unit {0}) DbError) : Type 0 where
  pub step : FollowsDb order facts old new (λ m n. Writes m operations sync (unit_answer result) n)
  pub outcome : DbOutcomeOf MayRefuseWrite facts old new result
  pub caused : DbCaused (λ status. write_cause status operations) old new result
  pub empty : DbWritesEmpty operations old new result
  pub syncs : DbSyncs (PutsSome operations) (AsksSync operations sync) sync facts old new result

-- Nothing was done after it, or its share of work, and so long until work keeps up.
abbrev pub BringsWork : {S K : Type 0} {g : _} → Order → (S → Facts) → ℕ → Db S K g → Db S K g → Db S K g
    → Pace → Type 0
BringsWork order facts count old written new pace =
    (CanWait (db_options_of written) (open_by old).memory.last (size_of (open_by old).memory.current.inserts)
    (open_by written) × (pace ≡ KeepsUp) × (new ≡ written))
    ⊎ (CanNotWait (db_options_of written) (open_by old).memory.last (size_of (open_by old).memory.current.inserts)
    (open_by written)
    × CatchesUp order facts (share_for (db_options_of written) (open_by written) count) written new pace)

-- A call of write, and the work that it brings along.
abbrev pub WritesAndWorks : {S K : Type 0} {g : _} → Order → (S → Facts) → List Operation → Bool
    → Db S K g → Db S K g → Result Pace DbError → Type 0
WritesAndWorks {S} {K} {g} order facts operations sync old new (Ok pace) =
    (written : Db S K g) × CallsWrite order facts operations sync old written (Ok tt)
    × BringsWork order facts (length operations) old written new pace
WritesAndWorks order facts operations sync old new (Err e) = CallsWrite order facts operations sync old new (Err e)
