-- What a command does to its store, faithful or not.
use Rattle.std.specs.Prelude.{◌≡◌, ◌≢◌, ◌⊎◌, ◌<◌, ◌+◌, ℕ, Bool, true, false, IsSome, IsTrue, Option, Some, None, List, [], Result, Ok, Err, OnOk, OnErr, IfErr, map, string_bytes}
use Rattle.std.specs.List.{AllByRecursion}
use Rattle.std.specs.FinMap.{get}
use Rattle.batch.specs.declared.operation.Operation.{Operation}
use Rattle.coding.specs.declared.error.DbError.{DbError}
use Rattle.coding.specs.declared.error.DbError.TheVariants.{Io, OutOfMemory}
use Rattle.store.specs.Calls.{FailsNoWrite, KeepsCalls}
use Rattle.store.specs.Files.{Facts, lock_name}
use Rattle.machine.specs.declared.command.Op.{Op}
use Rattle.machine.specs.declared.command.Op.TheVariants.{Open, Write, Work, CompactLevel, CompactAll, Close}
use Rattle.machine.specs.declared.command.Answer.{Answer}
use Rattle.machine.specs.declared.command.Answer.TheVariants.{Refused}
use Rattle.engine.specs.OpenDb.{OpenDb}
use Rattle.opening.specs.Durable.{IsSynced, KeepsForeign, LeavesDurable, LeavesFile}
use Rattle.opening.specs.Losses.{IsNoneOf}

-- whether it failed
abbrev pub unit_result : Answer → Result (Unit {0}) DbError
unit_result (Refused e) = Err e
unit_result _ = Ok tt

-- an open that succeeded
abbrev pub done : Result (Unit {0}) DbError
done = Ok tt

-- ---- a write

-- What was put after the file of this name is synced if that was asked for. The files before it are
-- synced whenever something was put there; nothing else is.
pub record SyncsLog {T E : Type 0} (some asked : Type 0) (sync : Bool) (name : List ℕ) (front : List (List ℕ)) (old new : Facts) (result : Result T E) : Type 0 where
  pub kept : IsTrue new.faithful → asked → OnOk result (IsSynced new name)
  pub front_kept : IsTrue new.faithful → some → IsNoneOf name front → OnOk result (AllByRecursion (IsSynced new) front)
  pub others : IsTrue new.faithful → (q : List ℕ) → q ≢ name → IsNoneOf q front → new.synced q ≡ old.synced q
  pub unasked : IsTrue new.faithful → sync ≡ false → (q : List ℕ) → IsNoneOf q front → new.synced q ≡ old.synced q
  pub refused : IsTrue new.faithful → OnErr result ((q : List ℕ) → IsNoneOf q front → new.synced q ≡ old.synced q)
  pub locked : new.locked ≡ old.locked

-- a write that has operations puts something there, and asks for a sync if it is to be synced
abbrev pub PutsSome : List Operation → Type 0
PutsSome operations = operations ≢ []

abbrev pub AsksSync : List Operation → Bool → Type 0
AsksSync operations sync = (sync ≡ true) × PutsSome operations

-- the name of the log that an open database writes to
abbrev pub log_of : {K : Type 0} {g : _} → Option (OpenDb K g) → List ℕ
log_of None = []
log_of (Some state) = string_bytes state.log.name

-- and those of the logs in use before it that may not be durable whole
abbrev pub front_of : {K : Type 0} {g : _} → Option (OpenDb K g) → List (List ℕ)
front_of None = []
front_of (Some state) = map string_bytes state.log.front.items

-- ---- open and close

-- how many failures of the store an error tells of, at least
abbrev pub told_failures : DbError → ℕ
told_failures Io = 1
told_failures _ = 0

-- An open that succeeds holds the lock. One that fails doesn't, unless it was held before or the
-- store failed to release it: then it failed once more than the error tells.
pub record Locks {T : Type 0} (old new : Facts) (result : Result T DbError) : Type 0 where
  pub locked : OnOk result (new.locked ≡ true)
  pub freed : IfErr result (λ e. new.locked ≡ true → (old.locked ≡ true) ⊎ (old.failures + told_failures e < new.failures))

-- After an open that succeeds the file `LOCK` is there. One that was there is left alone, also by
-- an open that fails.
pub record HasLockFile {T : Type 0} (old new : Facts) (result : Result T DbError) : Type 0 where
  pub there : IsTrue new.faithful → OnOk result (IsSome (get new.files lock_name))
  pub stays : IsTrue new.faithful → IsSome (get old.files lock_name) → LeavesFile old new lock_name

-- The lock is released, unless the store failed to.
abbrev pub Frees : Facts → Facts → Type 0
Frees old new = new.locked ≡ true → old.failures < new.failures

-- ---- every command

-- Nothing is changed, synced, locked or released, at any moment, nor was there a call that failed
-- at it.
pub record LeavesStore (old new : Facts) : Type 0 where
  pub writes : FailsNoWrite old new
  pub files : IsTrue new.faithful → new.files ≡ old.files
  pub synced : IsTrue new.faithful → new.synced ≡ old.synced
  pub locked : new.locked ≡ old.locked
  pub calls : KeepsCalls old new

-- A close changes no file either, and releases the lock.
pub record ClosesStore (old new : Facts) : Type 0 where
  pub files : IsTrue new.faithful → new.files ≡ old.files
  pub synced : IsTrue new.faithful → new.synced ≡ old.synced
  pub freed : Frees old new
  pub calls : KeepsCalls old new

-- An open that is refused writes no file but `LOCK`, nor removes one, unless it ran out of memory
-- or the store failed.
abbrev pub LeavesRefused : Facts → Facts → DbError → Type 0
LeavesRefused old new e = ((e ≡ OutOfMemory) ⊎ (e ≡ Io))
    ⊎ ((name : List ℕ) → name ≢ lock_name → get new.files name ≡ get old.files name)

-- An open leaves `CURRENT` and its MANIFEST synced whole whenever it changed them, and leaves the
-- files of other programs alone, also if it fails. One that is refused leaves all files.
pub record OpensStore {T : Type 0} (old new : Facts) (result : Result T DbError) : Type 0 where
  pub locks : Locks old new result
  pub lock_file : HasLockFile old new result
  pub durable : LeavesDurable old new result
  pub foreign : IsTrue new.faithful → KeepsForeign old new
  pub unwritten : IsTrue new.faithful → IfErr result (LeavesRefused old new)

abbrev pub OpenTouches : {K : Type 0} {g : _} → Option (OpenDb K g) → Facts → Facts → Answer → Type 0
OpenTouches None old new answer = OpensStore old new (unit_result answer)
OpenTouches (Some state) old new answer = LeavesStore old new

abbrev pub CloseTouches : {K : Type 0} {g : _} → Option (OpenDb K g) → Facts → Facts → Type 0
CloseTouches None old new = LeavesStore old new
CloseTouches (Some state) old new = ClosesStore old new

abbrev pub WriteTouches : {K : Type 0} {g : _} → List Operation → Bool → Option (OpenDb K g) → Facts → Facts → Answer → Type 0
WriteTouches operations sync state old new answer = SyncsLog (PutsSome operations) (AsksSync operations sync) sync (log_of state) (front_of state) old new (unit_result answer)

-- work and compactions leave the lock
abbrev pub WorkTouches : {K : Type 0} {g : _} → Option (OpenDb K g) → Facts → Facts → Answer → Type 0
WorkTouches state old new answer = new.locked ≡ old.locked

abbrev pub Touches : {K : Type 0} {g : _} → Op → Option (OpenDb K g) → Facts → Facts → Answer → Type 0
Touches (Open mode) state old new answer = OpenTouches state old new answer
Touches (Write operations sync) state old new answer = WriteTouches operations.items sync state old new answer
Touches (Work budget) state old new answer = WorkTouches state old new answer
Touches (CompactLevel level) state old new answer = WorkTouches state old new answer
Touches CompactAll state old new answer = WorkTouches state old new answer
Touches Close state old new answer = CloseTouches state old new
Touches _ state old new answer = LeavesStore old new
