-- CRC-32C bit by bit, and the form in which logs and tables store it. Sources: RFC 3720, sections
-- 12.1 and B.4, for the polynomial of Castagnoli; LevelDB's util/crc32c.h for the stored form, and
-- its doc/log_format.md and doc/table_format.md for the bytes that are summed.
use Rattle.std.specs.Prelude.{ℕ, zero, suc, ◌+◌, ◌/◌, ◌%◌, ◌^◌, ◌==◌, if◌then◌else◌, List, [], ◌∷◌, bit_xor}
use Rattle.std.specs.Int.{rotate_right, w32}

-- the polynomial 0x1EDC6F41, its 32 bits in reverse order
abbrev pub polynomial : ℕ
polynomial = 0x82F63B78

-- The register after one more bit. Its lowest bit falls out; where that was a 1, the polynomial is
-- taken off.
abbrev pub shifted : ℕ → ℕ
shifted register = if register % 2 == 0 then register / 2 else bit_xor (register / 2) polynomial

-- the register after n more bits
unfoldable pub shifted_by : ℕ → ℕ → ℕ
shifted_by zero register = register
shifted_by (suc n) register = shifted_by n (shifted register)

-- the register after these bytes: each is added to the low end, and its eight bits are shifted out
unfoldable pub register_after : ℕ → List ℕ → ℕ
register_after register [] = register
register_after register (byte ∷ bytes) = register_after (shifted_by 8 (bit_xor register byte)) bytes

-- the register is all ones at the start, and inverted at the end
abbrev pub checksum : List ℕ → ℕ
checksum bytes = bit_xor (register_after 0xFFFF_FFFF bytes) 0xFFFF_FFFF

-- The checksum as it is stored: rotated right by 15 bits, and a constant added, modulo 2 ^ 32. The
-- four bytes in a file are this number's, the lowest first.
abbrev pub masked : ℕ → ℕ
masked crc = (rotate_right w32 crc 15 + 0xA282_EAD8) % 2 ^ 32
