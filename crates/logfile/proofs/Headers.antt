-- The seven bytes in front of a fragment's data.
use Rattle.std.proofs.Common.{◌≡◌, ℕ, zero, suc, ◌+◌, ◌<◌, ◌≤◌, inl, inr, Bool, true, false, List, [], ◌∷◌, ◌++◌, length, take, drop, get_or, refl, sym, ap, ◌∙◌, append_assoc, arith}
use Rattle.std.specs.Int.{w16, w32, from_le_bytes}
use Rattle.std.proofs.lemmas.Nat.{le_bytes_2, le_bytes_4, from_le_bytes-to_le_bytes_4}
use Rattle.std.proofs.lemmas.List.{length-drop, length-take, take-append-drop, take_at}
use Rattle.coding.specs.Fixed.{fixed16, fixed32}
use Rattle.coding.specs.Checksum.{checksum, masked}
use Rattle.logfile.specs.declared.kind.Kind.{Kind}
use Rattle.logfile.specs.declared.kind.Kind.TheVariants.{Full, First, Middle, Last}
use Rattle.logfile.specs.Kinds.{number_of_kind, made}
use Rattle.logfile.specs.Log.{Fragment, full, first, middle, last, type_of, data_of, covered, fragment_bytes, length_said, IsEnding}
use Rattle.logfile.specs.Faults.{sum_said}
use Rattle.logfile.proofs.LogLaws.{said}
use Rattle.logfile.proofs.Parsed.{NoBlock}

abbrev pub stored_at : List ℕ → ℕ
stored_at bytes = from_le_bytes w32 (get_or bytes 0 0 ∷ get_or bytes 1 0 ∷ get_or bytes 2 0 ∷ get_or bytes 3 0 ∷ [])

abbrev pub length_at : List ℕ → ℕ
length_at bytes = from_le_bytes w16 (get_or bytes 4 0 ∷ get_or bytes 5 0 ∷ [])

cells : (bytes : List ℕ) → 7 ≤ length bytes
    → bytes ≡ get_or bytes 0 0 ∷ get_or bytes 1 0 ∷ get_or bytes 2 0 ∷ get_or bytes 3 0 ∷ get_or bytes 4 0 ∷ get_or bytes 5 0 ∷ get_or bytes 6 0 ∷ drop 7 bytes
cells [] h = absurd (omega arith)
cells (a ∷ []) h = absurd (omega arith)
cells (a ∷ b ∷ []) h = absurd (omega arith)
cells (a ∷ b ∷ c ∷ []) h = absurd (omega arith)
cells (a ∷ b ∷ c ∷ d ∷ []) h = absurd (omega arith)
cells (a ∷ b ∷ c ∷ d ∷ e ∷ []) h = absurd (omega arith)
cells (a ∷ b ∷ c ∷ d ∷ e ∷ f ∷ []) h = absurd (omega arith)
cells (a ∷ b ∷ c ∷ d ∷ e ∷ f ∷ g ∷ bytes) h = refl

four_fit : (a b c d : ℕ) → a < 256 → b < 256 → c < 256 → d < 256 → (i : ℕ) → get_or (a ∷ b ∷ c ∷ d ∷ []) i 0 < 256
four_fit a b c d p q r s zero = p
four_fit a b c d p q r s (suc zero) = q
four_fit a b c d p q r s (suc (suc zero)) = r
four_fit a b c d p q r s (suc (suc (suc zero))) = s
four_fit a b c d p q r s (suc (suc (suc (suc i)))) = omega arith

two_fit : (a b : ℕ) → a < 256 → b < 256 → (i : ℕ) → get_or (a ∷ b ∷ []) i 0 < 256
two_fit a b p q zero = p
two_fit a b p q (suc zero) = q
two_fit a b p q (suc (suc i)) = omega arith

pub type_of-made : (kind : Kind) (bytes : List ℕ) → type_of (made kind bytes) ≡ number_of_kind kind
type_of-made Full bytes = refl
type_of-made First bytes = refl
type_of-made Middle bytes = refl
type_of-made Last bytes = refl

pub data_of-made : (kind : Kind) (bytes : List ℕ) → data_of (made kind bytes) ≡ bytes
data_of-made Full bytes = refl
data_of-made First bytes = refl
data_of-made Middle bytes = refl
data_of-made Last bytes = refl

-- a fragment's bytes by its type's number and its data
pub bytes_of-made : (kind : Kind) (bytes : List ℕ) → fragment_bytes (made kind bytes) ≡ (fixed32 (masked (checksum (number_of_kind kind ∷ bytes))) ++ fixed16 (length bytes)) ++ number_of_kind kind ∷ bytes
unfolding fragment_bytes
bytes_of-made Full bytes = refl
bytes_of-made First bytes = refl
bytes_of-made Middle bytes = refl
bytes_of-made Last bytes = refl

pub made_fragment : (bytes : List ℕ) (kind : Kind) (len : ℕ) → ((i : ℕ) → get_or bytes i 0 < 256) → 7 ≤ length bytes → len ≡ length_at bytes → len ≤ length (drop 7 bytes)
    → number_of_kind kind ≡ get_or bytes 6 0 → stored_at bytes ≡ masked (checksum (get_or bytes 6 0 ∷ take len (drop 7 bytes)))
    → bytes ≡ fragment_bytes (made kind (take len (drop 7 bytes))) ++ drop len (drop 7 bytes)
made_fragment bytes kind len fits some len-is within number-is sum =
    let data_bytes = take len (drop 7 bytes) in
    let rest = drop len (drop 7 bytes) in
    let number = get_or bytes 6 0 in
    let size : length data_bytes ≡ len = omega (arith, length-take len (drop 7 bytes), within) in
    let four : fixed32 (masked (checksum (number ∷ data_bytes))) ≡ get_or bytes 0 0 ∷ get_or bytes 1 0 ∷ get_or bytes 2 0 ∷ get_or bytes 3 0 ∷ [] =
    le_bytes_4 _ (masked (checksum (number ∷ data_bytes))) refl (four_fit _ _ _ _ (fits 0) (fits 1) (fits 2) (fits 3)) (sym sum) in
    let two : fixed16 (length data_bytes) ≡ get_or bytes 4 0 ∷ get_or bytes 5 0 ∷ [] = le_bytes_2 _ (length data_bytes) refl (two_fit _ _ (fits 4) (fits 5)) (size ∙ len-is) in
    let join : List ℕ → List ℕ → List ℕ = λ x y. ((x ++ y) ++ number ∷ data_bytes) ++ rest in
    let front : ((fixed32 (masked (checksum (number ∷ data_bytes))) ++ fixed16 (length data_bytes)) ++ number ∷ data_bytes) ++ rest
    ≡ get_or bytes 0 0 ∷ get_or bytes 1 0 ∷ get_or bytes 2 0 ∷ get_or bytes 3 0 ∷ get_or bytes 4 0 ∷ get_or bytes 5 0 ∷ number ∷ (data_bytes ++ rest) =
    ap (λ (x : List ℕ). ((x ++ fixed16 (length data_bytes)) ++ number ∷ data_bytes) ++ rest) four
    ∙ ap (λ (y : List ℕ). (((get_or bytes 0 0 ∷ get_or bytes 1 0 ∷ get_or bytes 2 0 ∷ get_or bytes 3 0 ∷ []) ++ y) ++ number ∷ data_bytes) ++ rest) two in
    let back : drop 7 bytes ≡ data_bytes ++ rest = sym (take-append-drop len (drop 7 bytes)) in
    let whole : fragment_bytes (made kind data_bytes) ≡ (fixed32 (masked (checksum (number ∷ data_bytes))) ++ fixed16 (length data_bytes)) ++ number ∷ data_bytes =
    bytes_of-made kind data_bytes ∙ ap (λ (n : ℕ). (fixed32 (masked (checksum (n ∷ data_bytes))) ++ fixed16 (length data_bytes)) ++ n ∷ data_bytes) number-is in
    cells bytes some
    ∙ ap (λ (x : List ℕ). get_or bytes 0 0 ∷ get_or bytes 1 0 ∷ get_or bytes 2 0 ∷ get_or bytes 3 0 ∷ get_or bytes 4 0 ∷ get_or bytes 5 0 ∷ number ∷ x) back
    ∙ sym front ∙ ap (λ (x : List ℕ). x ++ rest) (sym whole)

-- the header of a fragment that stands at the front
pub stored_of : (f : Fragment) (x : List ℕ) → stored_at (fragment_bytes f ++ x) ≡ masked (checksum (covered f))
unfolding fragment_bytes
stored_of f x = from_le_bytes-to_le_bytes_4 (masked (checksum (covered f))) (omega arith)

pub number_in : (f : Fragment) (x : List ℕ) → get_or (fragment_bytes f ++ x) 6 0 ≡ type_of f
unfolding fragment_bytes
number_in f x = refl

pub data_in : (f : Fragment) (x : List ℕ) → drop 7 (fragment_bytes f ++ x) ≡ data_of f ++ x
unfolding fragment_bytes
data_in f x = refl

no_ending : (room : ℕ) (bytes : List ℕ) (cut : Bool) → 7 ≤ room → 7 ≤ length bytes → (length bytes < 7 + length_said bytes → 7 + length_said bytes ≤ room → ⊥) → IsEnding cut room bytes → ⊥
no_ending room bytes false wide some none (inl h) = omega (arith, some, ap length h)
no_ending room bytes false wide some none (inr h) = omega (arith, wide, h.0)
no_ending room bytes true wide some none (inl h) = omega (arith, wide, h.0)
no_ending room bytes true wide some none (inr (inl h)) = omega (arith, some, h.2)
no_ending room bytes true wide some none (inr (inr h)) = none h.1 h.2

pub stored_at_said : (bytes : List ℕ) → stored_at bytes ≡ sum_said bytes
stored_at_said bytes = omega arith

pub length_at_said : (bytes : List ℕ) → length_at bytes ≡ length_said bytes
length_at_said bytes = omega arith

pub too_long : (room : ℕ) (bytes : List ℕ) → 7 ≤ room → room ≤ 32768 → 7 ≤ length bytes → room < 7 + length_at bytes → NoBlock room bytes
too_long room bytes wide small some long [] cut h =
    no_ending room bytes cut wide some (λ p q. omega (arith, long, q, length_at_said bytes)) h
too_long room bytes wide small some long (f ∷ fs) cut h =
    omega (arith, long, length_at_said bytes, h.2, ap length_said h.1, said f h.0 (omega (arith, h.2, small)))

pub other_number : (room : ℕ) (bytes : List ℕ) → 7 ≤ room → room ≤ 32768 → 7 ≤ length bytes → length_at bytes ≤ length (drop 7 bytes) → ((f : Fragment) → type_of f ≡ get_or bytes 6 0 → ⊥) → NoBlock room bytes
other_number room bytes wide small some whole none [] cut h =
    no_ending room bytes cut wide some (λ p q. omega (arith, p, whole, length-drop 7 bytes, length_at_said bytes)) h
other_number room bytes wide small some whole none (f ∷ fs) cut h =
    none f (sym (number_in f h.0) ∙ ap (λ (x : List ℕ). get_or x 6 0) (sym h.1))

pub other_sum : (room : ℕ) (bytes : List ℕ) → 7 ≤ room → room ≤ 32768 → 7 ≤ length bytes → length_at bytes ≤ length (drop 7 bytes)
    → (stored_at bytes ≡ masked (checksum (get_or bytes 6 0 ∷ take (length_at bytes) (drop 7 bytes))) → ⊥) → NoBlock room bytes
other_sum room bytes wide small some whole none [] cut h =
    no_ending room bytes cut wide some (λ p q. omega (arith, p, whole, length-drop 7 bytes, length_at_said bytes)) h
other_sum room bytes wide small some whole none (f ∷ fs) cut h =
    let x = h.0 in
    let size : length (data_of f) ≡ length_at bytes = sym (said f x (omega (arith, h.2, small))) ∙ ap length_said (sym h.1) ∙ sym (length_at_said bytes) in
    let number : get_or bytes 6 0 ≡ type_of f = ap (λ (v : List ℕ). get_or v 6 0) h.1 ∙ number_in f x in
    let behind : take (length_at bytes) (drop 7 bytes) ≡ data_of f = ap (λ (v : List ℕ). take (length_at bytes) (drop 7 v)) h.1 ∙ ap (take (length_at bytes)) (data_in f x) ∙ take_at (data_of f) x (length_at bytes) size in
    none (ap stored_at h.1 ∙ stored_of f x ∙ sym (ap (λ (n : ℕ). masked (checksum (n ∷ take (length_at bytes) (drop 7 bytes)))) number ∙ ap (λ (v : List ℕ). masked (checksum (type_of f ∷ v))) behind))

-- the type that a fragment has
pub kind_in : (f : Fragment) → (kind : Kind) × (number_of_kind kind ≡ type_of f)
kind_in (full bytes) = (Full, refl)
kind_in (first bytes) = (First, refl)
kind_in (middle bytes) = (Middle, refl)
kind_in (last bytes) = (Last, refl)

-- the parts of a fragment, one after the other
pub put_together : (old one two three new : List ℕ) (kind : Kind) (bytes : List ℕ) → one ≡ old ++ fixed32 (masked (checksum (number_of_kind kind ∷ bytes))) → two ≡ one ++ fixed16 (length bytes) → three ≡ two ++ number_of_kind kind ∷ [] → new ≡ three ++ bytes
    → new ≡ old ++ fragment_bytes (made kind bytes)
put_together old one two three new kind bytes e f g h =
    let s = fixed32 (masked (checksum (number_of_kind kind ∷ bytes))) in
    let l = fixed16 (length bytes) in
    let n = number_of_kind kind in
    h ∙ ap (λ (v : List ℕ). v ++ bytes) (g ∙ ap (λ (v : List ℕ). v ++ n ∷ []) (f ∙ ap (λ (v : List ℕ). v ++ l) e))
    ∙ append_assoc ((old ++ s) ++ l) (n ∷ []) bytes ∙ append_assoc (old ++ s) l (n ∷ bytes) ∙ append_assoc old s (l ++ n ∷ bytes)
    ∙ ap (λ (v : List ℕ). old ++ v) (sym (append_assoc s l (n ∷ bytes)) ∙ sym (bytes_of-made kind bytes))
