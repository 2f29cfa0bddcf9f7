-- Words, which are read back, and have no space.
use Rattle.std.proofs.Common.{◌≡◌, ◌<◌, ◌/◌, ◌%◌, ◌&&◌, ◌==◌, ℕ, Bool, true, false, cond, List, [], ◌∷◌, ◌++◌, All, Some, sym, ap, ◌∙◌, refl, arith}
use Rattle.std.specs.Prelude.{nat_le, slice_index}
use Rattle.std.proofs.lemmas.Bool.{eqb-true}
use mathlib.Core.Bool.{true≢false}
use Rattle.std.proofs.lemmas.List.Elements.{All-head, All-tail}
use Rattle.hex.specs.Hex.{encode_lower, encode_with, hex_digit_value, lower_digits}
use Rattle.hex.proofs.HexLemmas.{IsDigits, IsDigits-lower_digits}
use Rattle.texts.specs.Texts.{HasNoSpace, IsText, escaped_byte, escaped_word, front_of, word_byte}
use Rattle.texts.proofs.Returned.{front_written}

-- ---- read back

word_written : (byte : ℕ) → byte < 256 → (rest : List ℕ) (is_space : Bool) → (byte == 32) ≡ is_space
    → front_of (cond is_space (92 ∷ 120 ∷ 50 ∷ 48 ∷ []) (escaped_byte byte) ++ rest) ≡ Some (byte, rest)
word_written byte small rest true is = ap (λ (n : ℕ). Some (n, rest)) (sym (eqb-true byte 32 is))
word_written byte small rest false is = front_written byte small rest

pub is_word : (bytes : List ℕ) → All (λ (byte : ℕ). byte < 256) bytes → IsText (escaped_word bytes) bytes
is_word [] all = refl
is_word (byte ∷ bytes) all = (escaped_word bytes, word_written byte (All-head (λ (b : ℕ). b < 256) byte bytes all) (escaped_word bytes) (byte == 32) refl, is_word bytes (All-tail (λ (b : ℕ). b < 256) byte bytes all))

-- ---- no space

apart : (a b : List ℕ) → HasNoSpace a → HasNoSpace b → HasNoSpace (a ++ b)
apart [] b h g = g
apart (byte ∷ a) b h g = (h.0, apart a b h.1 g)

space_is_none : (d : ℕ) → hex_digit_value 32 ≡ Some d → ⊥
space_is_none d is = cc

no_space_in : (digits : List ℕ) (d byte : ℕ) → IsDigits digits → d < 16 → byte ≡ slice_index digits d → byte ≡ 32 → ⊥
no_space_in digits d byte are low is space = space_is_none d (ap hex_digit_value (sym space ∙ is) ∙ are d low)

digits_apart : (byte : ℕ) → byte < 256 → HasNoSpace (encode_lower (byte ∷ []))
unfolding encode_with
digits_apart byte small = (
  no_space_in lower_digits (byte / 16) _ IsDigits-lower_digits (omega (arith, small)) refl,
  (no_space_in lower_digits (byte % 16) _ IsDigits-lower_digits (omega arith) refl, tt),
)

not_equal : (byte : ℕ) → (byte == 32) ≡ false → byte ≡ 32 → ⊥
not_equal byte other is = true≢false (sym (ap (λ (n : ℕ). n == 32) is) ∙ other)

byte_apart : (byte : ℕ) → byte < 256 → (is_space is_backslash is_plain : Bool) → (byte == 32) ≡ is_space
    → HasNoSpace (cond is_space (92 ∷ 120 ∷ 50 ∷ 48 ∷ []) (cond is_backslash (92 ∷ 92 ∷ []) (cond is_plain (byte ∷ []) (92 ∷ 120 ∷ encode_lower (byte ∷ [])))))
byte_apart byte small true b p is = (λ (e : 92 ≡ 32). omega (arith, e), (λ (e : 120 ≡ 32). omega (arith, e), (λ (e : 50 ≡ 32). omega (arith, e), (λ (e : 48 ≡ 32). omega (arith, e), tt))))
byte_apart byte small false true p is = (λ (e : 92 ≡ 32). omega (arith, e), (λ (e : 92 ≡ 32). omega (arith, e), tt))
byte_apart byte small false false true is = (not_equal byte is, tt)
byte_apart byte small false false false is = (λ (e : 92 ≡ 32). omega (arith, e), (λ (e : 120 ≡ 32). omega (arith, e), digits_apart byte small))

pub no_space : (bytes : List ℕ) → All (λ (byte : ℕ). byte < 256) bytes → HasNoSpace (escaped_word bytes)
no_space [] all = tt
no_space (byte ∷ bytes) all =
    apart (word_byte byte) (escaped_word bytes) (byte_apart byte (All-head (λ (b : ℕ). b < 256) byte bytes all) (byte == 32) (byte == 92) (nat_le 32 byte && nat_le byte 126) refl)
    (no_space bytes (All-tail (λ (b : ℕ). b < 256) byte bytes all))
