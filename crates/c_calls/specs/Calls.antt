-- What a call on an open database promises: those of the database's own call, over the answer of
-- which C sees a number.
use Rattle.std.specs.Cmp.Lexicographic.{slice_cmp}
use Rattle.std.specs.Ordering.{nat_cmp}
use Rattle.std.specs.Prelude.{◌≡◌, ◌⊎◌, ℕ, ℤ, pos, Bool, not, nat_eq, bit_and, codes, MatchBool, Option, MatchOption}
use Rattle.std.specs.Prelude.{Result, Ok, Err, IfErr, MatchResult, List, [], ◌∷◌}
use Rattle.batch.specs.Batch.{refusal_of}
use Rattle.batch.specs.declared.operation.Operation.{Operation}
use Rattle.coding.specs.declared.error.DbError.{DbError}
use Rattle.coding.specs.declared.error.DbError.TheVariants.{OutOfMemory}
use Rattle.ikey.specs.Orders.{Order, order_of}
use Rattle.machine.specs.Access.{Gets, Writes}
use Rattle.machine.specs.Causes.{Motion, Status, drop_cause, get_cause, iterate_cause, level_cause, move_cause}
use Rattle.machine.specs.Causes.{not_serving, release_cause, snapshot_cause, write_cause}
use Rattle.machine.specs.Machine.{Machine}
use Rattle.machine.specs.Upkeep.{CompactsAll, CompactsLevel, Works}
use Rattle.machine.specs.Views.{Drops, Iterates, Releases, Takes}
use Rattle.machine.specs.Walks.{Moves}
use Rattle.store.specs.Files.{Facts}
use Rattle.engine.specs.Applied.{DbCaused, DbCompacts}
use Rattle.engine.specs.Follows.{iterator_answer, pair_answer, snapshot_answer, unit_answer, value_answer}
use Rattle.engine.specs.Losses.{DbLoses, DbLosesWrite}
use Rattle.engine.specs.Outcomes.{DbOutcomeOf, MayRefuseDrop, MayRefuseGet, MayRefuseIterate, MayRefuseLevel}
use Rattle.engine.specs.Outcomes.{MayRefuseMove, MayRefuseRelease, MayRefuseSnapshot, MayRefuseWork, MayRefuseWrite}
use Rattle.engine.specs.Pace.{OnlyDraws, OnlyWorks, WritesAtPace}
use Rattle.engine.specs.StandsDb.{FollowsDb}
use Rattle.engine.specs.Stops.{DbStops, DbStopsWrite}
use Rattle.engine.specs.Working.{work_answer}
use Rattle.engine.specs.declared.db.Db.{Db}
use Rattle.engine.specs.declared.pace.Pace.{Pace}
use Rattle.engine.specs.declared.pace.Pace.TheVariants.{Refused}
use Rattle.engine.specs.declared.work.Progress.{Progress}
use Rattle.c_calls.specs.Codes.{snapshot_in, told}
use Rattle.c_calls.specs.Told.{IdTold, PairTold, ProgressTold, ValueTold, number, paced}
use Rattle.c_calls.specs.Standings.{moved_to}
use Rattle.c_calls.specs.declared.handle.Handle.{Handle}
use Rattle.c_calls.specs.declared.room.Pair.{Pair}
use Rattle.c_calls.specs.declared.standings.Standing.{Standing}

-- the order of keys that C's databases have
abbrev pub bytewise : Order
bytewise = order_of (codes "leveldb.BytewiseComparator") (slice_cmp nat_cmp)

-- While the store is faithful, the answer is the machine's. Over any store it is an error that the
-- call may have, of its cause, and after an error all that is read is as before.
pub record Does {S K T : Type 0} {g : _} (order : Order) (facts : S → Facts) (moves : Machine → Result T DbError
    → Machine → Type 0) (may : DbError → Type 0) (cause : Status → Option DbError) (old new : Db S K g)
    (answer : Result T DbError) : Type 0 where
  pub step : FollowsDb order facts old new (λ m n. moves m answer n)
  pub outcome : DbOutcomeOf may facts old new answer
  pub caused : DbCaused cause old new answer

-- The same of a compaction, which keeps what it had done.
pub record Compacts {S K T : Type 0} {g : _} (order : Order) (facts : S → Facts)
    (moves : Machine → Result T DbError → Machine → Type 0) (may : DbError → Type 0) (cause : Status → Option DbError)
    (old new : Db S K g) (answer : Result T DbError) : Type 0 where
  pub step : FollowsDb order facts old new (λ m n. moves m answer n)
  pub outcome : DbCompacts may facts old new answer
  pub caused : DbCaused cause old new answer
  pub stops : DbStops order facts old new
  pub loses : DbLoses order facts old new

-- ---- reading

-- what a get of the database itself promises
abbrev pub GetDone : {S K : Type 0} {g : _} → Order → (S → Facts) → List ℕ → Option ℕ → Db S K g → Db S K g
    → Result (Option (List ℕ)) DbError → Type 0
GetDone order facts key snapshot old new answer =
    Does order facts (λ m answer n. Gets m key snapshot (value_answer answer) n) MayRefuseGet
    (λ s. get_cause s snapshot) old new answer

abbrev pub GetServed : {S K : Type 0} {g : _} → Order → (S → Facts) → List ℕ → ℕ → List ℕ → List ℕ → ℕ → Db S K g
    → Db S K g → ℤ → Type 0
GetServed order facts key snapshot before after count old new code =
    (answer : Result (Option (List ℕ)) DbError) × ValueTold answer before after count code
    × GetDone order facts key (snapshot_in snapshot) old new answer

abbrev pub SnapshotServed : {S K : Type 0} {g : _} → Order → (S → Facts) → ℕ → ℕ → Db S K g → Db S K g → ℤ → Type 0
SnapshotServed order facts before after old new code =
    (answer : Result ℕ DbError) × IdTold answer before after code
    × Does order facts (λ m answer n. Takes m (snapshot_answer answer) n) MayRefuseSnapshot snapshot_cause
    old new answer

abbrev pub ReleaseServed : {S K : Type 0} {g : _} → Order → (S → Facts) → ℕ → Db S K g → Db S K g → ℤ → Type 0
ReleaseServed order facts id old new code =
    (answer : Result (Unit {0}) DbError) × (code ≡ told answer)
    × Does order facts (λ m answer n. Releases m id (unit_answer answer) n) MayRefuseRelease
    (λ s. release_cause s id) old new answer

-- ---- iterators

-- what making an iterator promises
abbrev pub IterDone : {S K : Type 0} {g : _} → Order → (S → Facts) → Option ℕ → Db S K g → Db S K g
    → Result ℕ DbError → Type 0
IterDone order facts snapshot old new answer =
    Does order facts (λ m answer n. Iterates order m snapshot (iterator_answer answer) n) MayRefuseIterate
    (λ s. iterate_cause s snapshot) old new answer

-- Or there was no memory for the place where it stands, and nothing was asked of the database.
abbrev pub IterServed : {S K : Type 0} {g : _} → Order → (S → Facts) → ℕ → ℕ → ℕ → Db S K g → Db S K g → ℤ → Type 0
IterServed order facts snapshot before after old new code =
    ((answer : Result ℕ DbError) × IdTold answer before after code
    × IterDone order facts (snapshot_in snapshot) old new answer)
    ⊎ ((new ≡ old) × (after ≡ before) × (code ≡ number OutOfMemory))

-- what dropping one promises
abbrev pub DropDone : {S K : Type 0} {g : _} → Order → (S → Facts) → ℕ → Db S K g → Db S K g
    → Result (Unit {0}) DbError → Type 0
DropDone order facts id old new answer =
    Does order facts (λ m answer n. Drops m id (unit_answer answer) n) MayRefuseDrop (λ s. drop_cause s id)
    old new answer

abbrev pub DropServed : {S K : Type 0} {g : _} → Order → (S → Facts) → ℕ → Db S K g → Db S K g → ℤ → Type 0
DropServed order facts id old new code =
    (answer : Result (Unit {0}) DbError) × (code ≡ told answer) × DropDone order facts id old new answer

-- what a move of the database itself promises
abbrev pub MoveDone : {S K : Type 0} {g : _} → Order → (S → Facts) → ℕ → Motion → Db S K g → Db S K g → Result
    (Option (List ℕ × List ℕ)) DbError → Type 0
MoveDone order facts id motion old new answer =
    Does order facts (λ m answer n. Moves order m id motion (pair_answer answer) n) (MayRefuseMove motion)
    (λ s. move_cause s id motion) old new answer

-- The iterator stands on the pair to which it came. If its move was refused, it stays.
abbrev pub KeepsPair : ℕ → Result (Option (List ℕ × List ℕ)) DbError → List Standing → List Standing → Type 0
KeepsPair id (Ok found) old new = new ≡ moved_to id found old
KeepsPair id (Err error) old new = new ≡ old

abbrev pub MoveServed : {S : Type 0} → Order → (S → Facts) → ℕ → Motion → List ℕ → List ℕ → Pair
    → Handle S → Handle S → ℤ → Type 0
MoveServed order facts id motion before after counts old new code =
    (answer : Result (Option (List ℕ × List ℕ)) DbError) × PairTold answer before after counts code
    × MoveDone order facts id motion old.db new.db answer
    × KeepsPair id answer old.iterators.items new.iterators.items

-- ---- writing

-- whether flags have this one
abbrev pub has_flag : ℕ → ℕ → Bool
has_flag flags flag = not (nat_eq (bit_and flags flag) 0)

-- A process crash in the middle of it leaves the batch wholly or not at all, and a power loss a
-- prefix of the batches.
pub record IsWhole {S K : Type 0} {g : _} (order : Order) (facts : S → Facts) (operations : List Operation)
    (old new : Db S K g) : Type 0 where
  pub stops : DbStopsWrite order facts operations old new
  pub loses : DbLosesWrite order facts operations old new

abbrev pub PlainServed : {S K : Type 0} {g : _} → Order → (S → Facts) → List Operation → Bool → Db S K g
    → Db S K g → ℤ → Type 0
PlainServed order facts operations sync old new code =
    (answer : Result (Unit {0}) DbError) × (code ≡ told answer)
    × Does order facts (λ m answer n. Writes m operations sync (unit_answer answer) n) MayRefuseWrite
    (λ s. write_cause s operations) old new answer
    × IsWhole order facts operations old new

-- A write and then work. Only work may have failed.
abbrev pub PacedServed : {S K : Type 0} {g : _} → Order → (S → Facts) → List Operation → Bool → Db S K g
    → Db S K g → ℤ → Type 0
PacedServed order facts operations sync old new code =
    (answer : Result Pace DbError) × (code ≡ paced answer)
    × FollowsDb order facts old new (λ m n. WritesAtPace m operations sync answer n)
    × IfErr answer MayRefuseWrite × ((error : DbError) → answer ≡ Ok (Refused error) → MayRefuseWork error)
    × IsWhole order facts operations old new

-- flag 1 syncs, and flag 2 works
abbrev pub WriteServed : {S K : Type 0} {g : _} → Order → (S → Facts) → List Operation → ℕ → Db S K g → Db S K g
    → ℤ → Type 0
WriteServed order facts operations flags old new code =
    MatchBool (has_flag flags 2) (PacedServed order facts operations (has_flag flags 1) old new code)
    (PlainServed order facts operations (has_flag flags 1) old new code)

-- the error for which an operation was refused alone, before the database was asked
abbrev pub IsUnfit : Operation → DbError → Type 0
IsUnfit operation error = MatchOption (refusal_of [] operation) (error ≡ OutOfMemory) (λ cause. error ≡ cause)

abbrev pub OneServed : {S K : Type 0} {g : _} → Order → (S → Facts) → Operation → ℕ → Db S K g → Db S K g → ℤ → Type 0
OneServed order facts operation flags old new code =
    WriteServed order facts (operation ∷ []) flags old new code
    ⊎ ((error : DbError) × (code ≡ number error) × (new ≡ old) × IsUnfit operation error)

-- ---- merging

abbrev pub WorkServed : {S K : Type 0} {g : _} → Order → (S → Facts) → ℕ → ℕ → Db S K g → Db S K g → ℤ → Type 0
WorkServed order facts budget idle old new code =
    (answer : Result Progress DbError) × ProgressTold answer idle code
    × Does order facts (λ m answer n. Works m budget (work_answer answer) n) MayRefuseWork not_serving old new answer

-- Nothing that is read has changed.
abbrev pub SettleServed : {S K : Type 0} {g : _} → Order → (S → Facts) → Db S K g → Db S K g → ℤ → Type 0
SettleServed order facts old new code =
    (answer : Result (Unit {0}) DbError) × (code ≡ told answer)
    × FollowsDb order facts old new (λ m n. MatchResult answer (λ done. OnlyDraws m n) (λ error. OnlyWorks m n))
    × MatchResult answer (λ done. Unit {0}) MayRefuseWork

abbrev pub AllServed : {S K : Type 0} {g : _} → Order → (S → Facts) → Db S K g → Db S K g → ℤ → Type 0
AllServed order facts old new code =
    (answer : Result (Unit {0}) DbError) × (code ≡ told answer)
    × Compacts order facts (λ m answer n. CompactsAll m (unit_answer answer) n) MayRefuseWork not_serving old new answer

abbrev pub LevelServed : {S K : Type 0} {g : _} → Order → (S → Facts) → ℕ → Db S K g → Db S K g → ℤ → Type 0
LevelServed order facts level old new code =
    (answer : Result (Unit {0}) DbError) × (code ≡ told answer)
    × Compacts order facts (λ m answer n. CompactsLevel m level (unit_answer answer) n) MayRefuseLevel
    (λ s. level_cause s level) old new answer

-- level 7 stands for all of them
abbrev pub CompactServed : {S K : Type 0} {g : _} → Order → (S → Facts) → ℕ → Db S K g → Db S K g → ℤ → Type 0
CompactServed order facts level old new code =
    MatchBool (nat_eq level 7) (AllServed order facts old new code) (LevelServed order facts level old new code)
