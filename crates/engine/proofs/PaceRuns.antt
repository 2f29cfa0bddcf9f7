-- Calls of work one after the other, and a write in front of them.
use Rattle.std.proofs.Common.{◌≡◌, ◌+◌, ◌-◌, ◌^◌, ℕ, suc, Bool, List, inl, inr, refl, subst, arith}
use Rattle.std.specs.Prelude.{Result, Ok, Err}
use Rattle.batch.specs.declared.operation.Operation.{Operation}
use Rattle.coding.specs.declared.error.DbError.{DbError}
use Rattle.coding.specs.declared.error.DbError.TheVariants as error
use Rattle.ikey.specs.Orders.{Order}
use Rattle.store.specs.Files.{Facts}
use Rattle.machine.specs.Access.{Writes}
use Rattle.machine.specs.Causes.{not_serving, write_cause}
use Rattle.machine.specs.Upkeep.{Works}
use Rattle.memtable.specs.Contents.{size_of}
use Rattle.engine.specs.Applied.{DbCaused, DbDrops, DbEndsWithin, DbExact, DbFlushes, DbRemoves, DbSyncs, DbTidies, DbWorks, DbWritesEmpty}
use Rattle.engine.specs.Follows.{unit_answer}
use Rattle.engine.specs.OpenDb.{OpenDb}
use Rattle.engine.specs.OptionValues.{OptionValues}
use Rattle.engine.specs.Outcomes.{DbOutcomeOf, MayRefuseWork, MayRefuseWrite}
use Rattle.engine.specs.Pacing.{BringsWork, CallsWork, CallsWrite, CanNotWait, CanWait, CatchesUp, IsBehind, WorksOn, WorksUntil, WorksUntilRefused, share_for}
use Rattle.engine.specs.StandsDb.{FollowsDb, db_options_of, open_by}
use Rattle.engine.specs.Touching.{AsksSync, PutsSome}
use Rattle.engine.specs.Working.{work_answer}
use Rattle.engine.specs.declared.db.Db.{Db}
use Rattle.engine.specs.declared.pace.Pace.{Pace}
use Rattle.engine.specs.declared.pace.Pace.TheVariants.{KeepsUp}
use Rattle.engine.specs.declared.work.Progress.{Progress}
use Rattle.engine.specs.declared.work.Progress.TheVariants.{Worked}

module _ {S K : Type 0} {g : _} (order : Order) (facts : S → Facts) (budget : ℕ) (old new : Db S K g) (result : Result Progress DbError) where
  -- what a call of work promises, as one
  pub call_of : FollowsDb order facts old new (λ m n. Works m budget (work_answer result) n) → DbOutcomeOf MayRefuseWork facts old new result → DbCaused not_serving old new result
      → DbWorks order.cmp budget old new result → DbEndsWithin order facts budget old new result → DbFlushes order facts old new result → DbTidies facts old new result
      → DbRemoves facts old new result → DbExact order facts old new result → DbDrops new result → CallsWork order facts budget old new result
  call_of step outcome caused does within flushes tidy removes exact dropped = record {
    step = step;
    outcome = outcome;
    caused = caused;
    done = record { does = does; within = within; flushes = flushes; tidy = tidy; removes = removes; exact = exact; dropped = dropped };
  }

module _ {S K : Type 0} {g : _} (order : Order) (facts : S → Facts) (goes_on : OpenDb K g → Type 0) (budget pieces : ℕ) (old mid new : Db S K g) (so_far : WorksOn order facts goes_on budget pieces old mid) where
  -- a call more that did a piece
  pub works_more : (p : Progress) → p ≡ Worked → CallsWork order facts budget mid new (Ok p) → goes_on (open_by new) → WorksOn order facts goes_on budget (pieces + 1) old new
  works_more p is call more =
      let e : suc pieces ≡ pieces + 1 = omega arith in
      let worked = subst (λ (q : Progress). CallsWork order facts budget mid new (Ok q)) is call in
      subst (λ (n : ℕ). WorksOn order facts goes_on budget n old new) e (mid, so_far, worked, more)

  -- the last call
  pub works_last : (last : Result Progress DbError) → CallsWork order facts budget mid new last → WorksUntil order facts goes_on budget old new last
  works_last last call = record { pieces = pieces; before = mid; went_on = so_far; ended = call }

  pub works_last_as : (p last : Progress) → p ≡ last → CallsWork order facts budget mid new (Ok p) → WorksUntil order facts goes_on budget old new (Ok last)
  works_last_as p last is call = works_last (Ok last) (subst (λ (q : Progress). CallsWork order facts budget mid new (Ok q)) is call)

  pub works_refused : (e : DbError) → CallsWork order facts budget mid new (Err e) → WorksUntilRefused order facts goes_on budget old new e
  works_refused e call = inl (works_last (Err e) call)

-- no call was the last one
pub works_forever : {S K : Type 0} {g : _} (order : Order) (facts : S → Facts) (goes_on : OpenDb K g → Type 0) (budget pieces : ℕ) (old new : Db S K g)
    → WorksOn order facts goes_on budget pieces old new → pieces ≡ 2 ^ 64 - 1 → WorksUntilRefused order facts goes_on budget old new error.OutOfMemory
works_forever order facts goes_on budget pieces old new so_far all = inr (refl, record { pieces = pieces; all = all; went_on = so_far })

-- with the options that it had
pub behind_as : {K : Type 0} {g : _} (old new : OptionValues) (db : OpenDb K g) → new ≡ old → IsBehind new db → IsBehind old db
behind_as old new db same h = subst (λ (options : OptionValues). IsBehind options db) same h

-- ---- a write in front of them

module _ {S K : Type 0} {g : _} (order : Order) (facts : S → Facts) (operations : List Operation) (sync : Bool) (old new : Db S K g) (result : Result (Unit {0}) DbError) where
  -- what a call of write promises, as one
  pub write_of : FollowsDb order facts old new (λ m n. Writes m operations sync (unit_answer result) n) → DbOutcomeOf MayRefuseWrite facts old new result
      → DbCaused (λ status. write_cause status operations) old new result → DbWritesEmpty operations old new result
      → DbSyncs (PutsSome operations) (AsksSync operations sync) sync facts old new result → CallsWrite order facts operations sync old new result
  write_of step outcome caused empty syncs = record { step = step; outcome = outcome; caused = caused; empty = empty; syncs = syncs }

module _ {S K : Type 0} {g : _} (order : Order) (facts : S → Facts) (count : ℕ) (old written : Db S K g) (last size : ℕ) (newest : last ≡ (open_by old).memory.last) (bytes : size ≡ size_of (open_by old).memory.current.inserts) where
  pub waits : CanWait (db_options_of written) last size (open_by written) → BringsWork order facts count old written written KeepsUp
  waits can =
      inl (
        subst (λ (n : ℕ). CanWait (db_options_of written) (open_by old).memory.last n (open_by written)) bytes
            (subst (λ (n : ℕ). CanWait (db_options_of written) n size (open_by written)) newest can),
        refl,
        refl,
      )

  pub brings : (new : Db S K g) (pace : Pace) (operations share : ℕ) → CanNotWait (db_options_of written) last size (open_by written) → operations ≡ count
      → share ≡ share_for (db_options_of written) (open_by written) operations → CatchesUp order facts share written new pace → BringsWork order facts count old written new pace
  brings new pace operations share not many is does =
      inr (
        subst (λ (n : ℕ). CanNotWait (db_options_of written) (open_by old).memory.last n (open_by written)) bytes
            (subst (λ (n : ℕ). CanNotWait (db_options_of written) n size (open_by written)) newest not),
        subst (λ (n : ℕ). CatchesUp order facts (share_for (db_options_of written) (open_by written) n) written new pace) many
            (subst (λ (n : ℕ). CatchesUp order facts n written new pace) is does),
      )
