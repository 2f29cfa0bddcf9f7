-- The register of CRC-32C over words of four bytes.
use lib.Bits.{xor_shifted}
use Rattle.std.proofs.Common.{◌≡◌, ℕ, ◌+◌, ◌*◌, ◌/◌, ◌%◌, ◌^◌, ◌<◌, ◌≤◌, List, [], ◌∷◌, get_or, length, drop, sym, ap, ◌∙◌, arith, bit_xor, bit_and}
use Rattle.std.proofs.lemmas.Nat.{xor_comm, xor_shr, and_mask}
use Rattle.coding.specs.Checksum.{shifted_by, register_after}
use Rattle.coding.specs.declared.checksum.tables.TheConstants.{SHIFTED_BY_8, SHIFTED_BY_16, SHIFTED_BY_24, SHIFTED_BY_32, SHIFTED_BY_104, SHIFTED_BY_112, SHIFTED_BY_120, SHIFTED_BY_128}
use Rattle.coding.proofs.Registers.{xor_assoc, xor_zero, linear, shifted_by-add, shifted_by_xor}
use Rattle.coding.proofs.Tables.{byte_by_8, byte_by_16, byte_by_24, byte_by_32, byte_by_104, byte_by_112, byte_by_120, byte_by_128}

-- the low byte of a number, and the others
split_low : (a : ℕ) → bit_xor (a % 256) (a / 256 * 2 ^ 8) ≡ a
split_low a = xor_comm (a % 256) (a / 256 * 2 ^ 8) ∙ xor_shifted (a / 256) 8 (a % 256) (omega arith) ∙ omega arith

-- the low byte of the register, and the others moved down
low_byte : (m a : ℕ) → shifted_by (8 + m) a ≡ bit_xor (shifted_by (8 + m) (a % 256)) (shifted_by m (a / 256))
low_byte m a =
    shifted_by-add 8 m a
    ∙ ap (λ (v : ℕ). shifted_by m (shifted_by 8 v)) (sym (split_low a))
    ∙ ap (shifted_by m) (shifted_by_xor 8 (a % 256) (a / 256))
    ∙ linear m (shifted_by 8 (a % 256)) (a / 256)
    ∙ ap (λ (v : ℕ). bit_xor v (shifted_by m (a / 256))) (sym (shifted_by-add 8 m (a % 256)))

-- a byte is added to the register, and eight bits shifted out: the low byte by the table, and the
-- others moved down
pub by_table_8 : (register b byte : ℕ) → b ≡ byte → byte < 256 → bit_xor (get_or SHIFTED_BY_8 (bit_and (bit_xor register b) 255) 0) (register / 256) ≡ shifted_by 8 (bit_xor register byte)
unfolding shifted_by
by_table_8 register b byte e fits =
    let sum : ℕ = bit_xor register byte in
    let none : byte / 256 ≡ 0 = omega arith in
    let high : register / 256 ≡ sum / 256 = sym (xor_shr register byte 8 ∙ ap (bit_xor (register / 256)) none ∙ xor_zero (register / 256)) in
    rw (e, and_mask sum 8, high, byte_by_8 (sum % 256) (omega arith)) (sym (low_byte 0 sum))

-- what each byte of a register of four bytes leaves, taken together
four_bytes : (n a b0 b1 b2 b3 : ℕ) → b0 ≡ a % 256 → b1 ≡ a / 256 % 256 → b2 ≡ a / 256 / 256 % 256 → b3 ≡ a / 256 / 256 / 256
    → bit_xor (bit_xor (bit_xor (shifted_by (8 + (8 + (8 + n))) b0) (shifted_by (8 + (8 + n)) b1)) (shifted_by (8 + n) b2)) (shifted_by n b3) ≡ shifted_by (8 + (8 + (8 + n))) a
four_bytes n a b0 b1 b2 b3 e0 e1 e2 e3 =
    rw (e0, e1, e2, e3) (sym (low_byte (8 + (8 + n)) a
    ∙ ap (bit_xor (shifted_by (8 + (8 + (8 + n))) (a % 256))) (low_byte (8 + n) (a / 256) ∙ ap (bit_xor (shifted_by (8 + (8 + n)) (a / 256 % 256))) (low_byte n (a / 256 / 256)))
    ∙ sym (xor_assoc (shifted_by (8 + (8 + (8 + n))) (a % 256)) (shifted_by (8 + (8 + n)) (a / 256 % 256)) _)
    ∙ sym (xor_assoc _ (shifted_by (8 + n) (a / 256 / 256 % 256)) (shifted_by n (a / 256 / 256 / 256)))))

-- the same by the tables
pub by_tables_32 : (a b0 b1 b2 b3 : ℕ) → a < 2 ^ 32 → b0 ≡ a % 256 → b1 ≡ a / 256 % 256 → b2 ≡ a / 256 / 256 % 256 → b3 ≡ a / 256 / 256 / 256
    → bit_xor (bit_xor (bit_xor (get_or SHIFTED_BY_32 b0 0) (get_or SHIFTED_BY_24 b1 0)) (get_or SHIFTED_BY_16 b2 0)) (get_or SHIFTED_BY_8 b3 0) ≡ shifted_by 32 a
by_tables_32 a b0 b1 b2 b3 fits e0 e1 e2 e3 =
    rw (byte_by_32 b0 (omega arith), byte_by_24 b1 (omega arith), byte_by_16 b2 (omega arith), byte_by_8 b3 (omega arith)) (four_bytes 8 a b0 b1 b2 b3 e0 e1 e2 e3)

pub by_tables_128 : (a b0 b1 b2 b3 : ℕ) → a < 2 ^ 32 → b0 ≡ a % 256 → b1 ≡ a / 256 % 256 → b2 ≡ a / 256 / 256 % 256 → b3 ≡ a / 256 / 256 / 256
    → bit_xor (bit_xor (bit_xor (get_or SHIFTED_BY_128 b0 0) (get_or SHIFTED_BY_120 b1 0)) (get_or SHIFTED_BY_112 b2 0)) (get_or SHIFTED_BY_104 b3 0) ≡ shifted_by 128 a
by_tables_128 a b0 b1 b2 b3 fits e0 e1 e2 e3 =
    rw (byte_by_128 b0 (omega arith), byte_by_120 b1 (omega arith), byte_by_112 b2 (omega arith), byte_by_104 b3 (omega arith)) (four_bytes 104 a b0 b1 b2 b3 e0 e1 e2 e3)

-- a byte that is added when m bits are shifted out already stood m bits up at the start
add_byte : (m register low byte : ℕ) → low < 2 ^ m → shifted_by 8 (bit_xor (shifted_by m (bit_xor register low)) byte) ≡ shifted_by (m + 8) (bit_xor register (byte * 2 ^ m + low))
add_byte m register low byte fits =
    let whole : bit_xor low (byte * 2 ^ m) ≡ byte * 2 ^ m + low = xor_comm low (byte * 2 ^ m) ∙ xor_shifted byte m low fits in
    ap (shifted_by 8) (sym (shifted_by_xor m (bit_xor register low) byte) ∙ ap (shifted_by m) (xor_assoc register low (byte * 2 ^ m) ∙ ap (bit_xor register) whole))
    ∙ sym (shifted_by-add m 8 (bit_xor register (byte * 2 ^ m + low)))

-- the number that the four bytes from i on stand for, the lowest first
abbrev pub word_at : List ℕ → ℕ → ℕ
word_at bytes i = get_or bytes (i + 0) 0 + get_or bytes (i + 1) 0 * 2 ^ 8 + get_or bytes (i + 2) 0 * 2 ^ 16 + get_or bytes (i + 3) 0 * 2 ^ 24

-- four bytes may be added to the register at once
pub over_word : (register word : ℕ) (bytes : List ℕ) → 4 ≤ length bytes → get_or bytes 0 0 < 256 → get_or bytes 1 0 < 256 → get_or bytes 2 0 < 256 → word ≡ word_at bytes 0
    → register_after register bytes ≡ register_after (shifted_by 32 (bit_xor register word)) (drop 4 bytes)
unfolding register_after
over_word register word [] long f0 f1 f2 is = absurd (omega arith)
over_word register word (a ∷ []) long f0 f1 f2 is = absurd (omega arith)
over_word register word (a ∷ b ∷ []) long f0 f1 f2 is = absurd (omega arith)
over_word register word (a ∷ b ∷ c ∷ []) long f0 f1 f2 is = absurd (omega arith)
over_word register word (a ∷ b ∷ c ∷ d ∷ bytes) long f0 f1 f2 is =
    let two : ℕ = b * 2 ^ 8 + a in
    let three : ℕ = c * 2 ^ 16 + two in
    let four : d * 2 ^ 24 + three ≡ word = omega arith in
    let second = add_byte 8 register a b (omega arith) in
    let third = ap (λ (v : ℕ). shifted_by 8 (bit_xor v c)) second ∙ add_byte 16 register two c (omega arith) in
    let fourth = ap (λ (v : ℕ). shifted_by 8 (bit_xor v d)) third ∙ add_byte 24 register three d (omega arith) in
    ap (λ (v : ℕ). register_after v bytes) (fourth ∙ ap (λ (v : ℕ). shifted_by 32 (bit_xor register v)) four)
