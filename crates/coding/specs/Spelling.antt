-- Spellings, that is encodings, as relations: R bytes value says that the bytes are a spelling of
-- the value. What follows is said of any such relation R or S.
use Rattle.std.specs.Prelude.{◌≡◌, ℕ, List, ◌++◌}

-- the spelling of a pair: one of its first part, and one of its second after it
abbrev pub InTurn : {V W : Type 0} → (List ℕ → V → Type 0) → (List ℕ → W → Type 0) → List ℕ → V × W → Type 0
InTurn R S bytes both = (first rest : List ℕ) × R first both.0 × S rest both.1 × (bytes ≡ first ++ rest)

-- the bytes begin with a spelling of the value, after which the rest stands
abbrev pub Begins : {V : Type 0} → (List ℕ → V → Type 0) → List ℕ → V → List ℕ → Type 0
Begins R bytes value rest = (front : List ℕ) × R front value × (bytes ≡ front ++ rest)

-- the bytes begin with no spelling of any value
abbrev pub BeginsNone : {V : Type 0} → (List ℕ → V → Type 0) → List ℕ → Type 0
BeginsNone {V} R bytes = (value : V) (rest : List ℕ) → Begins R bytes value rest → ⊥

-- new is old with a spelling of the value after it
abbrev pub Appends : {V : Type 0} → (List ℕ → V → Type 0) → List ℕ → List ℕ → V → Type 0
Appends R old new value = (bytes : List ℕ) × R bytes value × (new ≡ old ++ bytes)

-- No spelling begins another: where bytes begin with a spelling, its value and what stands after it
-- are certain.
abbrev pub IsPrefixFree : {V : Type 0} → (List ℕ → V → Type 0) → Type 0
IsPrefixFree {V} R = (a b x y : List ℕ) (m n : V) → R a m → R b n → a ++ x ≡ b ++ y → (m ≡ n) × (x ≡ y)
