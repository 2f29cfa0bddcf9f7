-- The register of CRC-32C when it lags behind by four words. Only private functions speak of it.
use Rattle.std.specs.Prelude.{ℕ, bit_xor}
use Rattle.coding.specs.declared.checksum.streams.Streams.{Streams}
use Rattle.coding.specs.Checksum.{shifted_by}

-- The register after four words, where what it held before is added to the first already: each of
-- the others is added in its turn, and its 32 bits are shifted out.
abbrev pub register_over_words : ℕ → ℕ → ℕ → ℕ → ℕ
register_over_words first second third fourth =
    shifted_by 32 (bit_xor (shifted_by 32 (bit_xor (shifted_by 32 (bit_xor (shifted_by 32 first) second)) third)) fourth)

-- the register that the streams lead to
abbrev pub register_of : Streams → ℕ
register_of streams = register_over_words streams.first streams.second streams.third streams.fourth

-- the same, where a register is still to be added to the first word
abbrev pub register_from : ℕ → Streams → ℕ
register_from start streams =
    register_over_words (bit_xor start streams.first) streams.second streams.third streams.fourth
