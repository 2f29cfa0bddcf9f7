-- Each table against its definition.
use Rattle.std.proofs.Common.{◌≡◌, ℕ, zero, suc, ◌+◌, ◌<◌, List, [], ◌∷◌, get_or, refl, ap, ◌∙◌, arith}
use Rattle.coding.specs.Checksum.{shifted_by}
use Rattle.coding.specs.declared.checksum.tables.TheConstants.{SHIFTED_BY_8, SHIFTED_BY_16, SHIFTED_BY_24, SHIFTED_BY_32, SHIFTED_BY_104, SHIFTED_BY_112, SHIFTED_BY_120, SHIFTED_BY_128}

-- what n bits leave of the bytes from i on
entries : ℕ → ℕ → ℕ → List ℕ
entries n i zero = []
entries n i (suc count) = shifted_by n i ∷ entries n (suc i) count

get_or-entries : (n i count k : ℕ) → k < count → get_or (entries n i count) k 0 ≡ shifted_by n (i + k)
unfolding entries
get_or-entries n i zero k h = absurd (omega arith)
get_or-entries n i (suc count) zero h = ap (shifted_by n) (omega arith)
get_or-entries n i (suc count) (suc k) h = get_or-entries n (suc i) count k (omega arith) ∙ ap (shifted_by n) (omega arith)

at_byte : (n : ℕ) (table : List ℕ) (byte : ℕ) → table ≡ entries n 0 256 → byte < 256 → get_or table byte 0 ≡ shifted_by n byte
at_byte n table byte e fits = ap (λ (t : List ℕ). get_or t byte 0) e ∙ get_or-entries n 0 256 byte fits ∙ ap (shifted_by n) (omega arith)

table_8 : SHIFTED_BY_8 ≡ entries 8 0 256
unfolding entries shifted_by
table_8 = refl

table_16 : SHIFTED_BY_16 ≡ entries 16 0 256
unfolding entries shifted_by
table_16 = refl

table_24 : SHIFTED_BY_24 ≡ entries 24 0 256
unfolding entries shifted_by
table_24 = refl

table_32 : SHIFTED_BY_32 ≡ entries 32 0 256
unfolding entries shifted_by
table_32 = refl

table_104 : SHIFTED_BY_104 ≡ entries 104 0 256
unfolding entries shifted_by
table_104 = refl

table_112 : SHIFTED_BY_112 ≡ entries 112 0 256
unfolding entries shifted_by
table_112 = refl

table_120 : SHIFTED_BY_120 ≡ entries 120 0 256
unfolding entries shifted_by
table_120 = refl

table_128 : SHIFTED_BY_128 ≡ entries 128 0 256
unfolding entries shifted_by
table_128 = refl

pub byte_by_8 : (byte : ℕ) → byte < 256 → get_or SHIFTED_BY_8 byte 0 ≡ shifted_by 8 byte
byte_by_8 byte = at_byte 8 SHIFTED_BY_8 byte table_8

pub byte_by_16 : (byte : ℕ) → byte < 256 → get_or SHIFTED_BY_16 byte 0 ≡ shifted_by 16 byte
byte_by_16 byte = at_byte 16 SHIFTED_BY_16 byte table_16

pub byte_by_24 : (byte : ℕ) → byte < 256 → get_or SHIFTED_BY_24 byte 0 ≡ shifted_by 24 byte
byte_by_24 byte = at_byte 24 SHIFTED_BY_24 byte table_24

pub byte_by_32 : (byte : ℕ) → byte < 256 → get_or SHIFTED_BY_32 byte 0 ≡ shifted_by 32 byte
byte_by_32 byte = at_byte 32 SHIFTED_BY_32 byte table_32

pub byte_by_104 : (byte : ℕ) → byte < 256 → get_or SHIFTED_BY_104 byte 0 ≡ shifted_by 104 byte
byte_by_104 byte = at_byte 104 SHIFTED_BY_104 byte table_104

pub byte_by_112 : (byte : ℕ) → byte < 256 → get_or SHIFTED_BY_112 byte 0 ≡ shifted_by 112 byte
byte_by_112 byte = at_byte 112 SHIFTED_BY_112 byte table_112

pub byte_by_120 : (byte : ℕ) → byte < 256 → get_or SHIFTED_BY_120 byte 0 ≡ shifted_by 120 byte
byte_by_120 byte = at_byte 120 SHIFTED_BY_120 byte table_120

pub byte_by_128 : (byte : ℕ) → byte < 256 → get_or SHIFTED_BY_128 byte 0 ≡ shifted_by 128 byte
byte_by_128 byte = at_byte 128 SHIFTED_BY_128 byte table_128
