-- Each byte is determined by the text that begins with it, and the rest of the text leads on as all
-- of it does.
use Rattle.std.proofs.Common.{◌≡◌, ◌<◌, ◌≤◌, ℕ, List, [], ◌∷◌, ◌++◌, Some, None, length, drop, get_or, sym, ap, ◌∙◌, subst, refl, append_assoc, append-nil, arith}
use Rattle.std.specs.Prelude.{Option}
use Rattle.texts.specs.Texts.{IsText, front_of}

pub nothing_in_front : (text : List ℕ) (byte : ℕ) (rest : List ℕ) → text ≡ [] → front_of text ≡ Some (byte, rest) → ⊥
nothing_in_front text byte rest empty found = (let never = sym (ap front_of empty) ∙ found in cc)

abbrev rest_of : Option (ℕ × List ℕ) → List ℕ
rest_of None = []
rest_of (Some p) = p.1

abbrev byte_of : Option (ℕ × List ℕ) → ℕ
byte_of None = 0
byte_of (Some p) = p.0

pub one_rest : (x y : ℕ) (rest other : List ℕ) → ◌≡◌ {A = Option (ℕ × List ℕ)} (Some (x, rest)) (Some (y, other)) → rest ≡ other
one_rest x y rest other e = ap rest_of e

pub one_byte : (x y : ℕ) (rest other : List ℕ) → ◌≡◌ {A = Option (ℕ × List ℕ)} (Some (x, rest)) (Some (y, other)) → x ≡ y
one_byte x y rest other e = ap byte_of e

-- The text that is left and the bytes so far are all.
pub record LeadsOn (all left so_far : List ℕ) : Type 0 where
  pub grows : (more : List ℕ) → IsText left more → IsText all (so_far ++ more)
  pub only : (bytes : List ℕ) → IsText all bytes → (more : List ℕ) × IsText left more

pub leads_on_none : (all : List ℕ) → LeadsOn all all []
leads_on_none all = record { grows = λ more h. h; only = λ bytes h. (bytes, h) }

pub leads_on_more : (all left rest so_far : List ℕ) (byte : ℕ) → LeadsOn all left so_far → front_of left ≡ Some (byte, rest) → LeadsOn all rest (so_far ++ byte ∷ [])
leads_on_more all left rest so_far byte on found = record {
  grows = λ more h. subst (IsText all) (sym (append_assoc so_far (byte ∷ []) more)) (on.grows (byte ∷ more) (rest, found, h));
  only = λ bytes h. let one = on.only bytes h in behind left rest byte one.0 found one.1;
}
  where
    behind : (left rest : List ℕ) (byte : ℕ) (more : List ℕ) → front_of left ≡ Some (byte, rest) → IsText left more → (later : List ℕ) × IsText rest later
    behind left rest byte [] found h = absurd (nothing_in_front left byte rest h found)
    behind left rest byte (b ∷ more) found h = (more, subst (λ (w : List ℕ). IsText w more) (sym (one_rest byte b rest h.0 (sym found ∙ h.1))) h.2)

pub leads_on_end : (all left so_far : List ℕ) → LeadsOn all left so_far → left ≡ [] → IsText all so_far
leads_on_end all left so_far on end = subst (IsText all) (append-nil so_far) (on.grows [] end)

-- no byte where text is left
pub leads_nowhere : (all left so_far : List ℕ) → LeadsOn all left so_far → 0 < length left → front_of left ≡ None → (bytes : List ℕ) → IsText all bytes → ⊥
leads_nowhere all left so_far on some none bytes h = let one = on.only bytes h in first left one.0 some none one.1
  where
    first : (left more : List ℕ) → 0 < length left → front_of left ≡ None → IsText left more → ⊥
    first left [] some none h = omega (arith, some, ap length h)
    first left (b ∷ more) some none h = (let never = sym none ∙ h.1 in cc)

-- ---- slices

pub split : (text : List ℕ) (d : ℕ) → 1 ≤ length text → text ≡ get_or text 0 d ∷ drop 1 text
split [] d h = absurd (omega arith)
split (byte ∷ text) d h = refl

pub split_two : (text : List ℕ) (d : ℕ) → 2 ≤ length text → text ≡ get_or text 0 d ∷ get_or text 1 d ∷ drop 2 text
split_two [] d h = absurd (omega arith)
split_two (byte ∷ []) d h = absurd (omega (arith, h))
split_two (byte ∷ other ∷ text) d h = refl
