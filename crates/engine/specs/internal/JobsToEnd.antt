-- How a compaction is brought to its end in one call.
use Rattle.std.specs.Prelude.{◌≡◌, ◌≤◌, ◌+◌, ℕ, false, MatchOption, Result, Ok, Err, max}
use Rattle.coding.specs.declared.error.DbError.{DbError}
use Rattle.running_job.specs.Running.{shown}
use Rattle.store.specs.Calls.{FailsNoWrite}
use Rattle.store.specs.Files.{Facts}
use Rattle.engine.specs.OpenDb.{OpenDb}
use Rattle.machine.specs.Machine.{Machine, entry_count}
use Rattle.engine.specs.Outcomes.{KeepsViews}
use Rattle.engine.specs.internal.Pieces.{IsPiece}

-- What a step of a compaction leaves that is done: no call of the store failed, and the database
-- serves on.
pub record ServesOn {K : Type 0} {g : _} (old new : Facts) (before after : OpenDb K g) : Type 0 where
  pub stood : new.failures ≡ old.failures
  pub unwritten : FailsNoWrite old new
  pub undenied : new.denials ≡ old.denials
  pub locked : new.locked ≡ old.locked
  pub whole : after.broken ≡ false
  pub views : KeepsViews before after

-- one number more may be drawn where it was refused
abbrev pub beyond : {T : Type 0} → Result T DbError → ℕ
beyond (Ok done) = 0
beyond (Err e) = 1

-- It draws as many numbers as there are entries at most.
abbrev pub EndsJob : {T : Type 0} → Machine → Result T DbError → Machine → Type 0
EndsJob m result n = IsPiece m (entry_count m + beyond result) result n

-- It draws no more numbers than entries came, and all that came are no more than there are.
pub record HasCome {T K : Type 0} {g : _} (budget : ℕ) (before : OpenDb K g) (m : Machine) (result : Result T DbError) (n : Machine) : Type 0 where
  pub came : ℕ
  pub most : came ≤ max budget 1
  pub piece : IsPiece m came result n
  pub within : MatchOption before.job (Unit {0}) (λ work. shown (work.merged + came) ≤ entry_count m)
