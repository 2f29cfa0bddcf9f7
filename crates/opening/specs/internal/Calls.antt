-- What the calls by which an open writes leave, over any store and while it is faithful.
use Rattle.std.specs.Prelude.{◌≡◌, ◌≢◌, ◌⊎◌, ◌<◌, ◌≤◌, ℕ, Some, true, IsTrue, List, Result, Err, OnOk, OnErr, IfErr}
use Rattle.std.specs.FinMap.{get}
use Rattle.coding.specs.declared.error.DbError.{DbError}
use Rattle.coding.specs.declared.error.DbError.TheVariants.{OutOfMemory, Io, Locked}
use Rattle.store.specs.Files.{Facts, Files, Locks, MayLock}
use Rattle.edits.specs.Names.{name_of}
use Rattle.edits.specs.declared.names.FileName.TheVariants.{Current}

-- A call of the store: it is refused out of memory, or since the store failed, which was counted.
pub record Attempts {T : Type 0} (old new : Facts) (result : Result T DbError) : Type 0 where
  pub faithful : IsTrue new.faithful → IsTrue old.faithful
  pub failures : old.failures ≤ new.failures
  pub denials : new.denials ≡ old.denials
  pub locked : new.locked ≡ old.locked
  pub io : result ≡ Err Io → old.failures < new.failures
  pub unfailed : result ≢ Err Io → new.failures ≡ old.failures
  pub errors : IfErr result (λ error. (error ≡ OutOfMemory) ⊎ (error ≡ Io))

-- Why the lock isn't held.
abbrev pub RefusesLock : DbError → Facts → Facts → Type 0
RefusesLock OutOfMemory old new = Unit {0}
RefusesLock Io old new = old.failures < new.failures
RefusesLock Locked old new = old.denials < new.denials
RefusesLock _ old new = ⊥

-- The lock was asked for. Held or not, its file may have been made; where it is held, the file is
-- there.
pub record TakesLock (old new : Facts) (result : Result (Unit {0}) DbError) : Type 0 where
  pub faithful : IsTrue new.faithful → IsTrue old.faithful
  pub failures : old.failures ≤ new.failures
  pub denials : old.denials ≤ new.denials
  pub undenied : result ≢ Err Locked → new.denials ≡ old.denials
  pub files : IsTrue new.faithful → MayLock old.files new.files
  pub made : IsTrue new.faithful → OnOk result (Locks old.files new.files)
  pub synced : IsTrue new.faithful → new.synced ≡ old.synced
  pub locked : OnOk result (new.locked ≡ true)
  pub unheld : OnErr result (new.locked ≡ old.locked)
  pub memory : result ≡ Err OutOfMemory → new.failures ≡ old.failures
  pub stood : OnOk result (new.failures ≡ old.failures)
  pub refused : IfErr result (λ error. RefusesLock error old new)

-- but for the file of this name, the files are as before
abbrev pub KeepsOthers : Files → Files → List ℕ → Type 0
KeepsOthers old new name = (q : List ℕ) → q ≢ name → get new q ≡ get old q

-- The file of this name has these bytes, or a failure left something else in it.
pub record Writes (old new : Facts) (name bytes : List ℕ) (result : Result (Unit {0}) DbError) : Type 0 where
  pub call : Attempts old new result
  pub ok : IsTrue new.faithful → OnOk result (get new.files name ≡ Some bytes)
  pub others : IsTrue new.faithful → KeepsOthers old.files new.files name

-- `CURRENT` has these bytes, and but for it and the temporary file the files are as before
abbrev pub SetsCurrent : Files → Files → List ℕ → List ℕ → Type 0
SetsCurrent old new temporary bytes =
    (get new (name_of Current) ≡ Some bytes) × ((q : List ℕ) → q ≢ temporary → q ≢ name_of Current → get new q ≡ get old q)

-- A failure may have done it, or may have left just something in the temporary file.
pub record MakesCurrent (old new : Facts) (temporary bytes : List ℕ) (result : Result (Unit {0}) DbError) : Type 0 where
  pub call : Attempts old new result
  pub ok : IsTrue new.faithful → OnOk result (SetsCurrent old.files new.files temporary bytes)
  pub err : IsTrue new.faithful → OnErr result (KeepsOthers old.files new.files temporary ⊎ SetsCurrent old.files new.files temporary bytes)
