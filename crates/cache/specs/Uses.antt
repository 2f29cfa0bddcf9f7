-- Which of the values that a cache keeps goes first, and so which is dropped (LevelDB's
-- util/cache.cc): if there are too many, the last. A test says which value is meant.
use Rattle.std.specs.Prelude.{◌≡◌, ◌⊎◌, ◌-◌, ℕ, Bool, List, [], ◌∷◌, Option, Some, None, cond, take}
use Rattle.std.specs.Option.{option_map_or}

module _ {X : Type 0} (test : X → Bool) where
  abbrev pub first_that : List X → Option X
  first_that [] = None
  first_that (x ∷ xs) = cond (test x) (Some x) (first_that xs)

  -- all but this one
  abbrev pub all_others : List X → List X
  all_others [] = []
  all_others (x ∷ xs) = cond (test x) xs (x ∷ all_others xs)

  -- what is used goes first, and the others stay in their order
  abbrev pub when_used : List X → List X
  when_used xs = option_map_or (λ x. x ∷ all_others xs) (first_that xs) xs

  -- What is put goes first: in the place of the one that passes, or before as many as there is room
  -- for. If there is no memory for it nothing changes.
  abbrev pub IsPutFirst : List X → List X → ℕ → X → Type 0
  IsPutFirst old new capacity x = (new ≡ old) ⊎ (new ≡ x ∷ all_others old) ⊎ (new ≡ x ∷ take (capacity - 1) old)
