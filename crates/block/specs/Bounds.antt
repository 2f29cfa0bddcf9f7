-- Between which bounds the keys of a block lie.
use Rattle.std.specs.Prelude.{◌≡◌, ◌⊎◌, ℕ, List, [], ◌∷◌, Option}
use Rattle.std.specs.List.{AllByRecursion}
use Rattle.std.specs.Option.{ForSome}
use Rattle.ikey.specs.Entries.{Pair}

-- the key is above the one bound, if there is one, and not above the other
pub record IsBetween (below : List ℕ → List ℕ → Type 0) (floor : Option (List ℕ)) (most key : List ℕ) : Type 0 where
  pub above : ForSome floor (λ (bound : List ℕ). below bound key)
  pub within : (key ≡ most) ⊎ below key most

abbrev pub AreBetween : (List ℕ → List ℕ → Type 0) → Option (List ℕ) → List ℕ → List Pair → Type 0
AreBetween below floor most pairs = AllByRecursion (λ (pair : Pair). IsBetween below floor most pair.key) pairs

-- it is the key of the first pair
abbrev pub IsFirstKey : List ℕ → List Pair → Type 0
IsFirstKey key [] = ⊥
IsFirstKey key (pair ∷ pairs) = pair.key ≡ key
