-- Numbers of varying width, and strings after their length (LevelDB's util/coding.h:
-- EncodeVarint32, EncodeVarint64 and PutLengthPrefixedSlice).
use Rattle.std.specs.Prelude.{◌≡◌, ◌<◌, ◌≤◌, ◌+◌, ◌*◌, ℕ, List, [], ◌∷◌, ◌++◌, ◌^◌, length, nat_lt, if◌then◌else◌}

-- The bytes stand for the number n. A byte below 128 is the last, and stands for itself. One from
-- 128 on has the low seven bits, and the bytes after it stand for the rest, which isn't 0: so each
-- number has one spelling, the shortest. LevelDB writes this one, and reads longer ones too.
abbrev pub IsVarint : List ℕ → ℕ → Type 0
IsVarint [] n = ⊥
IsVarint (b ∷ []) n = (b < 128) × (n ≡ b)
IsVarint (b ∷ c ∷ bytes) n =
    (128 ≤ b) × (b < 256) × (high : ℕ) × (0 < high) × (n + 128 ≡ b + 128 * high) × IsVarint (c ∷ bytes) high

-- new is old with the bytes of the number at its end
abbrev pub AppendsVarint : List ℕ → List ℕ → ℕ → Type 0
AppendsVarint old new n = (bytes : List ℕ) × IsVarint bytes n × (new ≡ old ++ bytes)

-- the bytes are a length-prefixed string: its length as a number of varying width below 2 ^ 32, and
-- its own bytes
pub record IsString (bytes text : List ℕ) : Type 0 where
  pub front : List ℕ
  pub number : IsVarint front (length text)
  pub fits : length text < 2 ^ 32
  pub parts : bytes ≡ front ++ text

-- how many bytes a number below 2 ^ 32 takes
abbrev pub varint_length : ℕ → ℕ
varint_length n = if nat_lt n (2 ^ 7) then 1 else if nat_lt n (2 ^ 14) then 2 else if nat_lt n (2 ^ 21) then 3 else if nat_lt n (2 ^ 28) then 4 else 5

-- how many bytes the length-prefixed string takes
abbrev pub string_length : List ℕ → ℕ
string_length text = varint_length (length text) + length text
