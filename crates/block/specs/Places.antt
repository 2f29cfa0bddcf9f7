-- A place in a list of pairs.
use Rattle.std.specs.Prelude.{◌≤◌, ℕ, zero, suc, List, [], ◌∷◌, Option, Some, None, length, take, drop, nat_lt, if◌then◌else◌}
use Rattle.std.specs.List.{AllByRecursion}
use Rattle.ikey.specs.Entries.{Pair}

-- a list of pairs, and the index of the one that the cursor stands on
pub record Placed : Type 0 where
  pub pairs : List Pair
  pub place : Option ℕ

-- the index, if the list has it
abbrev pub within : List Pair → ℕ → Option ℕ
within pairs index = if nat_lt index (length pairs) then Some index else None

abbrev pub last_of : List Pair → Option ℕ
last_of [] = None
last_of (pair ∷ pairs) = Some (length pairs)

abbrev pub index_behind : List Pair → ℕ → Option ℕ
index_behind pairs index = within pairs (suc index)

abbrev pub index_before : ℕ → Option ℕ
index_before zero = None
index_before (suc index) = Some index

-- the index of the first pair whose key isn't below the target, or the length: the pairs in front
-- are all below it
pub record IsFirstNotBelow (below : List ℕ → List ℕ → Type 0) (target : List ℕ) (pairs : List Pair) (index : ℕ) : Type 0 where
  pub inside : index ≤ length pairs
  pub front : AllByRecursion (λ (pair : Pair). below pair.key target) (take index pairs)
  pub rest : AllByRecursion (λ (pair : Pair). below pair.key target → ⊥) (drop index pairs)
