-- The numbers that first bytes spell compare as the keys do.
use Rattle.std.proofs.Common.{◌≡◌, ◌+◌, ◌-◌, ◌*◌, ◌^◌, ◌<◌, ◌≤◌, ℕ, zero, suc, List, [], ◌∷◌, ◌++◌, length, take, drop, get_or, refl, sym, ap, subst, ◌∙◌, arith, ◌⊎◌, inl, inr}
use Rattle.std.proofs.Math.Nat.{pow-suc, pow-le-pow_right}
use Rattle.std.proofs.lemmas.Bool.{cases_order}
use Rattle.std.specs.Ordering.{nat_cmp, ordering_then, flip_args}
use Rattle.std.specs.Cmp.Lexicographic.{slice_cmp}
use Rattle.std.specs.declared.cmp.Ordering.{Ordering}
use Rattle.std.specs.declared.cmp.Ordering.TheVariants.{Less, Equal, Greater}
use Rattle.ikey.specs.Fronts.{spelled, Tells, Decides}
use Rattle.ikey.specs.declared.front.Front.{Front}
use Rattle.ikey.specs.Words.{big_endian}
use Rattle.ikey.proofs.Words.{AreBytes, less-is, greater-is, tied-is}

no-bytes : AreBytes []
no-bytes i = omega arith

-- a number that begins smaller stays smaller
rises : (k m n : ℕ) (xs ys : List ℕ) → AreBytes xs → m < n → spelled k m xs < spelled k n ys
rises zero m n xs ys h lt = lt
rises (suc k) m n [] [] h lt = rises k (m * 256) (n * 256) [] [] h (omega (arith, lt))
rises (suc k) m n [] (y ∷ ys) h lt = rises k (m * 256) (n * 256 + y) [] ys h (omega (arith, lt))
rises (suc k) m n (x ∷ xs) [] h lt = rises k (m * 256 + x) (n * 256) xs [] (λ i. h (suc i)) (omega (arith, h 0, lt))
rises (suc k) m n (x ∷ xs) (y ∷ ys) h lt = rises k (m * 256 + x) (n * 256 + y) xs ys (λ i. h (suc i)) (omega (arith, h 0, lt))

-- a number that goes on with zeroes is the least
no-less : (k m n : ℕ) (xs : List ℕ) → m ≤ n → spelled k m [] ≤ spelled k n xs
no-less zero m n xs le = le
no-less (suc k) m n [] le = no-less k (m * 256) (n * 256) [] (omega (arith, le))
no-less (suc k) m n (x ∷ xs) le = no-less k (m * 256) (n * 256 + x) xs (omega (arith, le))

-- a smaller number comes first
pub front-less : (k n : ℕ) (xs ys : List ℕ) → AreBytes xs → AreBytes ys → spelled k n xs < spelled k n ys → slice_cmp nat_cmp xs ys ≡ Less
front-less zero n xs ys h j lt = absurd (omega (arith, lt))
front-less (suc k) n [] [] h j lt = absurd (omega (arith, lt))
front-less (suc k) n [] (y ∷ ys) h j lt = refl
front-less (suc k) n (x ∷ xs) [] h j lt = absurd (omega (arith, lt, no-less k (n * 256) (n * 256 + x) xs (omega arith)))
front-less (suc k) n (x ∷ xs) (y ∷ ys) h j lt =
    by (cases_order x y) (λ e. front-less k (n * 256 + x) xs ys (λ i. h (suc i)) (λ i. j (suc i)) (subst (λ (v : ℕ). spelled k (n * 256 + x) xs < spelled k (n * 256 + v) ys) (sym e) lt))
  where
    by : (x ≡ y) ⊎ ((x < y) ⊎ (y < x)) → (x ≡ y → slice_cmp nat_cmp xs ys ≡ Less) → slice_cmp nat_cmp (x ∷ xs) (y ∷ ys) ≡ Less
    by (inl e) rest = ap (λ (o : Ordering). ordering_then o (slice_cmp nat_cmp xs ys)) (tied-is x y e) ∙ rest e
    by (inr (inl l)) rest = ap (λ (o : Ordering). ordering_then o (slice_cmp nat_cmp xs ys)) (less-is x y l)
    by (inr (inr g)) rest = absurd (omega (arith, lt, rises k (n * 256 + y) (n * 256 + x) ys xs (λ i. j (suc i)) (omega (arith, g))))

-- a greater one comes after
pub front-greater : (k n : ℕ) (xs ys : List ℕ) → AreBytes xs → AreBytes ys → spelled k n ys < spelled k n xs → slice_cmp nat_cmp xs ys ≡ Greater
front-greater zero n xs ys h j lt = absurd (omega (arith, lt))
front-greater (suc k) n [] [] h j lt = absurd (omega (arith, lt))
front-greater (suc k) n (x ∷ xs) [] h j lt = refl
front-greater (suc k) n [] (y ∷ ys) h j lt = absurd (omega (arith, lt, no-less k (n * 256) (n * 256 + y) ys (omega arith)))
front-greater (suc k) n (x ∷ xs) (y ∷ ys) h j lt =
    by (cases_order x y) (λ e. front-greater k (n * 256 + x) xs ys (λ i. h (suc i)) (λ i. j (suc i)) (subst (λ (v : ℕ). spelled k (n * 256 + v) ys < spelled k (n * 256 + x) xs) (sym e) lt))
  where
    by : (x ≡ y) ⊎ ((x < y) ⊎ (y < x)) → (x ≡ y → slice_cmp nat_cmp xs ys ≡ Greater) → slice_cmp nat_cmp (x ∷ xs) (y ∷ ys) ≡ Greater
    by (inl e) rest = ap (λ (o : Ordering). ordering_then o (slice_cmp nat_cmp xs ys)) (tied-is x y e) ∙ rest e
    by (inr (inl l)) rest = absurd (omega (arith, lt, rises k (n * 256 + x) (n * 256 + y) xs ys (λ i. h (suc i)) (omega (arith, l))))
    by (inr (inr g)) rest = ap (λ (o : Ordering). ordering_then o (slice_cmp nat_cmp xs ys)) (greater-is x y g)

-- after the same bytes keys are ordered as they are
pub behind-shared : (shared xs ys : List ℕ) → slice_cmp nat_cmp (shared ++ xs) (shared ++ ys) ≡ slice_cmp nat_cmp xs ys
behind-shared [] xs ys = refl
behind-shared (byte ∷ shared) xs ys =
    ap (λ (o : Ordering). ordering_then o (slice_cmp nat_cmp (shared ++ xs) (shared ++ ys))) (tied-is byte byte refl) ∙ behind-shared shared xs ys

-- the number of a word is that of as many bytes
pub spelled-word : (k n : ℕ) (xs : List ℕ) → k ≤ length xs → spelled k n xs ≡ big_endian n (take k xs)
spelled-word zero n xs h = refl
spelled-word (suc k) n [] h = absurd (omega (arith, h))
spelled-word (suc k) n (x ∷ xs) h = spelled-word k (n * 256 + x) xs (omega (arith, h))

-- ---- a number that is spelled byte by byte

pub spelled-next : (k n i : ℕ) (xs : List ℕ) → spelled (suc k) n (drop i xs) ≡ spelled k (n * 256 + get_or xs i 0) (drop (suc i) xs)
spelled-next k n zero [] = let same : n * 256 ≡ n * 256 + 0 = omega arith in ap (λ (v : ℕ). spelled k v []) same
spelled-next k n (suc i) [] = let same : n * 256 ≡ n * 256 + 0 = omega arith in ap (λ (v : ℕ). spelled k v []) same
spelled-next k n zero (x ∷ xs) = refl
spelled-next k n (suc i) (x ∷ xs) = spelled-next k n i xs

-- so many of sixteen bytes are spelled
pub record IsSpelled (key : List ℕ) (n i : ℕ) : Type 0 where
  pub leads : spelled (16 - i) n (drop i key) ≡ spelled 16 0 key
  pub small : n < 256 ^ i

pub none-spelled : (key : List ℕ) → IsSpelled key 0 0
none-spelled key = record { leads = refl; small = omega arith }

pub byte-spelled : (key : List ℕ) (n i byte : ℕ) → i < 16 → byte < 256 → byte ≡ get_or key i 0 → IsSpelled key n i → IsSpelled key (n * 256 + byte) (i + 1)
byte-spelled key n i byte inside small is h =
    let left : 16 - i ≡ suc (16 - suc i) = omega arith in
    let next : i + 1 ≡ suc i = omega arith in
    let more = pow-suc 256 i in
    record {
      leads = rw (is, next) (sym (spelled-next (16 - suc i) n i key) ∙ ap (λ (k : ℕ). spelled k n (drop i key)) (sym left) ∙ h.leads);
      small = rw next (omega (arith, h.small, more, small));
    }

pub room-for-byte : (key : List ℕ) (n i byte : ℕ) → i < 16 → byte < 256 → IsSpelled key n i → n * 256 + byte < 2 ^ 128
room-for-byte key n i byte inside small h =
    let within : suc i ≤ 16 = omega (arith, inside) in
    let up : 256 ^ suc i ≤ 256 ^ 16 = pow-le-pow_right (omega arith) within in
    omega (arith, h.small, pow-suc 256 i, small, up)

pub all-spelled : (key : List ℕ) (n i : ℕ) → i ≡ 16 → IsSpelled key n i → n ≡ spelled 16 0 key
all-spelled key n i all h = subst (λ (k : ℕ). spelled (16 - k) n (drop k key) ≡ spelled 16 0 key) all h.leads

-- ---- an order turned round

turned-tells : (cmp : List ℕ → List ℕ → Ordering) (x y : List ℕ) (told : Ordering) → Tells cmp y x told → Tells (flip_args cmp) x y told
turned-tells cmp x y Less h = h
turned-tells cmp x y Equal h = h
turned-tells cmp x y Greater h = h

pub turned-decides : (cmp : List ℕ → List ℕ → Ordering) (a b : Front) (told : Ordering) → Decides cmp b a told → Decides (flip_args cmp) a b told
turned-decides cmp a b told h = λ shared x y first second. turned-tells cmp (shared ++ x) (shared ++ y) told (h shared y x second first)
