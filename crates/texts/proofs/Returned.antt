-- What is written is read back.
use Rattle.std.proofs.Common.{◌≡◌, ◌<◌, ◌+◌, ◌*◌, ◌/◌, ◌%◌, ◌&&◌, ◌==◌, ℕ, Bool, true, false, cond, List, [], ◌∷◌, ◌++◌, All, Some, sym, ap, ap₂, ◌∙◌, subst, refl, arith}
use Rattle.std.specs.Prelude.{Option, nat_le}
use Rattle.std.proofs.lemmas.Bool.{eqb-true}
use Rattle.std.proofs.lemmas.List.Elements.{All-head, All-tail}
use Rattle.hex.specs.Hex.{encode_lower, encode_with}
use Rattle.hex.proofs.HexLemmas.{IsDigits-lower_digits}
use Rattle.texts.specs.Texts.{IsText, behind_backslash, byte_of_values, escaped, escaped_byte, front_of, of_digits}
use Rattle.texts.proofs.Spelled.{nothing_in_front, one_byte, one_rest}

pub digits_written : (byte : ℕ) → byte < 256 → (rest : List ℕ) → of_digits (encode_lower (byte ∷ []) ++ rest) ≡ Some (byte, rest)
unfolding encode_with
digits_written byte small rest =
    let high = IsDigits-lower_digits (byte / 16) (omega (arith, small)) in
    let low = IsDigits-lower_digits (byte % 16) (omega arith) in
    let whole : byte / 16 * 16 + byte % 16 ≡ byte = omega arith in
    ap₂ (λ (h l : Option ℕ). byte_of_values h l rest) high low ∙ ap (λ (n : ℕ). Some (n, rest)) whole

written : (byte : ℕ) → byte < 256 → (rest : List ℕ) (is_backslash is_plain : Bool) → (byte == 92) ≡ is_backslash
    → front_of (cond is_backslash (92 ∷ 92 ∷ []) (cond is_plain (byte ∷ []) (92 ∷ 120 ∷ encode_lower (byte ∷ []))) ++ rest) ≡ Some (byte, rest)
written byte small rest true is_plain is = ap (λ (n : ℕ). Some (n, rest)) (sym (eqb-true byte 92 is))
written byte small rest false true is = ap (λ (t : Bool). cond t (behind_backslash rest) (Some (byte, rest))) is
written byte small rest false false is = digits_written byte small rest

pub front_written : (byte : ℕ) → byte < 256 → (rest : List ℕ) → front_of (escaped_byte byte ++ rest) ≡ Some (byte, rest)
front_written byte small rest = written byte small rest (byte == 92) (nat_le 32 byte && nat_le byte 126) refl

append_three : (a b c : List ℕ) → (a ++ b) ++ c ≡ a ++ (b ++ c)
append_three [] b c = refl
append_three (x ∷ a) b c = ap (λ (t : List ℕ). x ∷ t) (append_three a b c)

pub is_written : (bytes : List ℕ) → All (λ (byte : ℕ). byte < 256) bytes → IsText (escaped bytes) bytes
is_written [] all = refl
is_written (byte ∷ bytes) all = (escaped bytes, front_written byte (All-head (λ (b : ℕ). b < 256) byte bytes all) (escaped bytes), is_written bytes (All-tail (λ (b : ℕ). b < 256) byte bytes all))

pub one_text : (text a b : List ℕ) → IsText text a → IsText text b → a ≡ b
one_text text [] [] h g = refl
one_text text [] (y ∷ b) h g = absurd (nothing_in_front text y g.0 h g.1)
one_text text (x ∷ a) [] h g = absurd (nothing_in_front text x h.0 g h.1)
one_text text (x ∷ a) (y ∷ b) h g =
    let e = sym h.1 ∙ g.1 in
    let rest = one_text g.0 a b (subst (λ (w : List ℕ). IsText w a) (one_rest x y h.0 g.0 e) h.2) g.2 in
    ap (λ (v : ℕ). v ∷ a) (one_byte x y h.0 g.0 e) ∙ ap (λ (l : List ℕ). y ∷ l) rest
