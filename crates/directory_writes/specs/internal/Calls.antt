-- What the calls that change a directory keep to, whatever the store is, and while it is faithful.
use Rattle.std.specs.Prelude.{◌≡◌, ◌⊎◌, ◌≤◌, ℕ, IsTrue, List, [], Result, Err, OnOk, OnErr}
use Rattle.std.specs.FinMap.{get, insert}
use Rattle.coding.specs.declared.error.DbError.{DbError}
use Rattle.coding.specs.declared.error.DbError.TheVariants.{OutOfMemory, Io}
use Rattle.store.specs.Files.{Facts, Appends, AppendsBeginning}
use Rattle.store.specs.declared.error.StoreError.{StoreError}
use Rattle.table.specs.Writing.{SyncsOnly}
use Rattle.store.specs.declared.error.StoreError.TheVariants as store_error

-- Once a store has returned something else than what was written, that is so for good. The failures
-- don't fall, and the lock is left alone.
pub record Touches (old new : Facts) : Type 0 where
  pub faithful : IsTrue new.faithful → IsTrue old.faithful
  pub failures : old.failures ≤ new.failures
  pub denials : new.denials ≡ old.denials
  pub locked : new.locked ≡ old.locked

-- The file of this name is as before, and what of it is synced.
abbrev pub LeavesFile : Facts → Facts → List ℕ → Type 0
LeavesFile old new name = (get new.files name ≡ get old.files name) × (new.synced name ≡ old.synced name)

-- how the database answers what the store does
abbrev pub IsRefusalOf : StoreError → DbError → Type 0
IsRefusalOf store_error.Memory error = error ≡ OutOfMemory
IsRefusalOf store_error.Missing error = error ≡ Io
IsRefusalOf store_error.Device error = error ≡ Io

-- The file of this name is empty, or a failure left it as it was.
pub record Creates (old new : Facts) (name : List ℕ) (result : Result (Unit {0}) DbError) : Type 0 where
  pub ok : IsTrue new.faithful → OnOk result (new.files ≡ insert old.files name [])
  pub io : IsTrue new.faithful → result ≡ Err Io → (new.files ≡ old.files) ⊎ (new.files ≡ insert old.files name [])
  pub memory : IsTrue new.faithful → result ≡ Err OutOfMemory → (new.files ≡ old.files) × (new.synced ≡ old.synced)
  pub synced : IsTrue new.faithful → SyncsOnly old.synced new.synced name

-- The bytes stand after the file, and the disk keeps all of it; or, if the store fails, nothing of
-- them or a beginning is there.
pub record AppendsSynced (old new : Facts) (name bytes : List ℕ) (result : Result (Unit {0}) DbError) : Type 0 where
  pub ok : IsTrue new.faithful → OnOk result (Appends old.files new.files name bytes × (new.synced name ≡ get new.files name))
  pub io : IsTrue new.faithful → result ≡ Err Io → AppendsBeginning old.files new.files name bytes
  pub memory : IsTrue new.faithful → result ≡ Err OutOfMemory → new.files ≡ old.files
  pub unsynced : IsTrue new.faithful → OnErr result (new.synced ≡ old.synced)
  pub others : IsTrue new.faithful → SyncsOnly old.synced new.synced name
