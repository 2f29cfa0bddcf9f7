-- What holds of an open over whatever store.
use Rattle.std.specs.Prelude.{◌≡◌, ◌≢◌, ◌<◌, ◌≤◌, Result, Err, MatchResult}
use Rattle.coding.specs.declared.error.DbError.{DbError}
use Rattle.coding.specs.declared.error.DbError.TheVariants as error
use Rattle.store.specs.Files.{Facts}
use Rattle.opening.specs.Refusals.{MayRefuseOpen, StoodOrHeld}

-- the same of an open
pub record OpenOutcome {T : Type 0} (old new : Facts) (result : Result T DbError) : Type 0 where
  pub failures : old.failures ≤ new.failures
  pub denials : old.denials ≤ new.denials
  pub io : result ≡ Err error.Io → old.failures < new.failures
  pub locked : result ≡ Err error.Locked → old.denials < new.denials
  pub undenied : result ≢ Err error.Locked → new.denials ≡ old.denials
  pub memory : result ≡ Err error.OutOfMemory → StoodOrHeld old new
  pub allowed : MatchResult result (λ x. Unit {0}) MayRefuseOpen
