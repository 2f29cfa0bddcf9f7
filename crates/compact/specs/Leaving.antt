-- What a job leaves of the source that it is lent.
use Rattle.std.specs.Prelude.{◌≡◌, ◌⊎◌, ℕ, zero, suc}
use Rattle.store.specs.Files.{Facts}
use Rattle.compact.specs.Outputs.{WritesTables}

-- a move that changes no more than this, or the writing of tables with such numbers
abbrev pub IsTurn : {H S : Type 0} → (S → Facts) → (H → S) → (H → S → H) → (H → H → Type 0) → (ℕ → Type 0) → H → H → Type 0
IsTurn {H} {S} facts store_of with_store moves mine old new =
    moves old new ⊎ ((store : S) × (new ≡ with_store old store) × WritesTables (facts (store_of old)) (facts store) mine)

-- so many of them, one after the other
abbrev pub AreTurns : {H S : Type 0} → (S → Facts) → (H → S) → (H → S → H) → (H → H → Type 0) → (ℕ → Type 0) → ℕ → H → H → Type 0
AreTurns facts store_of with_store moves mine zero old new = new ≡ old
AreTurns {H} facts store_of with_store moves mine (suc n) old new =
    (between : H) × IsTurn facts store_of with_store moves mine old between × AreTurns facts store_of with_store moves mine n between new

-- Beside the tables that it writes, a job changes of a source what moves of its cursor over the
-- same tables change, whatever the store returns. Its cursor goes over no further tables, and reads
-- of each source what it read.
pub record LeavesOthers {C H S : Type 0} (facts : S → Facts) (store_of : H → S) (with_store : H → S → H) (keeps : C → H → H → Type 0) (leaves : (ℕ → Type 0) → H → H → Type 0) (over : C → ℕ → Type 0)
    (mine : ℕ → Type 0) (old new : C) (before after : H) : Type 0 where
  pub turns : (n : ℕ) × AreTurns facts store_of with_store (leaves (over old)) mine n before after
  pub within : (number : ℕ) → over new number → over old number
  pub same : (s t : H) → keeps old s t → keeps new s t
