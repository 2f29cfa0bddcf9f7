-- Hashes of filters, one filter's after the other's.
use Rattle.std.specs.Prelude.{◌+◌, ℕ, List, [], ◌∷◌, take, drop}

-- the hashes of each filter, where so many are each one's
abbrev pub cut : List ℕ → List ℕ → List (List ℕ)
cut [] hashes = []
cut (count ∷ counts) hashes = take count hashes ∷ cut counts (drop count hashes)

-- how many they are in all
abbrev pub total : List ℕ → ℕ
total [] = 0
total (count ∷ counts) = count + total counts
