-- Numbers that bytes spell.
use Rattle.std.specs.Prelude.{◌+◌, ◌*◌, ℕ, List, [], ◌∷◌}

-- the number that goes on with these bytes, the first of which weighs most
abbrev pub big_endian : ℕ → List ℕ → ℕ
big_endian n [] = n
big_endian n (byte ∷ bytes) = big_endian (n * 256 + byte) bytes
