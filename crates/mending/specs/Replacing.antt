-- What the replacement of a file leaves.
use Rattle.std.specs.Prelude.{◌≡◌, ◌≢◌, ◌⊎◌, ◌≤◌, ℕ, List, Some, IsTrue}
use Rattle.std.specs.FinMap.{get}
use Rattle.coding.specs.declared.error.DbError.{DbError}
use Rattle.coding.specs.declared.error.DbError.TheVariants.{OutOfMemory, Io}
use Rattle.store.specs.Files.{Facts, Files}
use Rattle.store.specs.declared.error.StoreError.{StoreError}
use Rattle.store.specs.declared.error.StoreError.TheVariants as store_error

-- Calls that write, over any store.
pub record Writes (old new : Facts) : Type 0 where
  pub faithful : IsTrue new.faithful → IsTrue old.faithful
  pub failures : old.failures ≤ new.failures
  pub denials : new.denials ≡ old.denials
  pub locked : new.locked ≡ old.locked

abbrev pub refusal_for : StoreError → DbError
refusal_for store_error.Memory = OutOfMemory
refusal_for store_error.Missing = Io
refusal_for store_error.Device = Io

-- But for the file of this name, the files are as before.
abbrev pub KeepsOthers : Files → Files → List ℕ → Type 0
KeepsOthers old new name = (q : List ℕ) → q ≢ name → get new q ≡ get old q

-- The file has these bytes, and but for it and the temporary one the files are as before.
abbrev pub Replaces : Files → Files → List ℕ → List ℕ → List ℕ → Type 0
Replaces old new temporary name bytes =
    (get new name ≡ Some bytes) × ((q : List ℕ) → q ≢ temporary → q ≢ name → get new q ≡ get old q)

-- That, or just something in the temporary file.
abbrev pub MayReplace : Files → Files → List ℕ → List ℕ → List ℕ → Type 0
MayReplace old new temporary name bytes = KeepsOthers old new temporary ⊎ Replaces old new temporary name bytes
