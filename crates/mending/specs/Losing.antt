-- What a power loss inside mending leaves.
use Rattle.std.specs.Prelude.{◌≡◌, ◌≢◌, ◌⊎◌, ℕ, List, [], Some}
use Rattle.std.specs.FinMap.{get}
use Rattle.store.specs.Files.{Facts, Files, lock_name}
use Rattle.store.specs.Losses.{Lost, LosesOnly, StaysNamed, behind_sync}
use Rattle.store.specs.Stops.{moment}

-- But for `LOCK` no file came, went or changed its name since the last sync. So it is before the
-- first call of a process.
abbrev pub HaveNamesStayed : Facts → Type 0
HaveNamesStayed facts = (q : List ℕ) → q ≢ lock_name → StaysNamed facts q

-- What a power loss at any moment since old leaves is what one could leave at old, and then this.
abbrev pub LosesBy : Facts → Facts → (Files → Files → Type 0) → Type 0
LosesBy old new changes = LosesOnly old new (λ lost. (before : Files) × Lost old (moment old) before
    × changes before lost)

-- The file has these bytes, and they are on disk under this name.
pub record IsDurable (facts : Facts) (name bytes : List ℕ) : Type 0 where
  pub there : get facts.files name ≡ Some bytes
  pub kept : facts.synced name ≡ Some bytes
  pub ends : behind_sync [] facts.calls ≡ []

-- But for `LOCK` and the temporary file each file is as it was, or it is the one of this name, and
-- has these bytes, all of them.
abbrev pub MayReplaceWhole : Files → Files → List ℕ → List ℕ → List ℕ → Type 0
MayReplaceWhole before lost temporary name bytes = (q : List ℕ) → q ≢ lock_name → q ≢ temporary
    → (get lost q ≡ get before q) ⊎ ((q ≡ name) × (get lost q ≡ Some bytes))
