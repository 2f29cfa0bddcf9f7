-- Words compare as the bytes that they spell.
use Rattle.std.proofs.Common.{◌≡◌, ◌+◌, ◌*◌, ◌<◌, ◌≤◌, ◌==◌, ℕ, zero, suc, Bool, List, [], ◌∷◌, length, take, drop, get_or, refl, sym, ap, subst, ◌∙◌, arith, ◌⊎◌, inl, inr, cond}
use Rattle.std.proofs.lemmas.Bool.{cases_order, lt-ltb}
use Rattle.std.specs.Ordering.{nat_cmp, ordering_then}
use Rattle.std.specs.Cmp.{tied_itself, nat_cmp_total}
use Rattle.std.specs.Cmp.Lexicographic.{slice_cmp}
use Rattle.std.specs.declared.cmp.Ordering.{Ordering}
use Rattle.std.specs.declared.cmp.Ordering.TheVariants.{Less, Equal, Greater}
use Rattle.ikey.specs.Words.{big_endian}

abbrev pub AreBytes : List ℕ → Type 0
AreBytes bytes = (i : ℕ) → get_or bytes i 0 < 256

-- a number that begins smaller stays smaller
rises : (k m n : ℕ) (xs ys : List ℕ) → k ≤ length xs → k ≤ length ys → AreBytes xs → m < n → big_endian m (take k xs) < big_endian n (take k ys)
rises zero m n xs ys p q h lt = lt
rises (suc k) m n [] ys p q h lt = absurd (omega (arith, p))
rises (suc k) m n (x ∷ xs) [] p q h lt = absurd (omega (arith, q))
rises (suc k) m n (x ∷ xs) (y ∷ ys) p q h lt =
    rises k (m * 256 + x) (n * 256 + y) xs ys (omega (arith, p)) (omega (arith, q)) (λ i. h (suc i)) (omega (arith, h 0, lt))

pub less-is : (x y : ℕ) → x < y → nat_cmp x y ≡ Less
less-is x y lt = ap (λ (b : Bool). cond b Less (cond (x == y) Equal Greater)) (lt-ltb x y lt)

pub greater-is : (x y : ℕ) → y < x → nat_cmp x y ≡ Greater
greater-is x y lt = grind (arith, lt)

pub tied-is : (x y : ℕ) → x ≡ y → nat_cmp x y ≡ Equal
tied-is x y e = ap (nat_cmp x) (sym e) ∙ tied_itself nat_cmp_total x

pub bytes-drop : (k : ℕ) (xs : List ℕ) → AreBytes xs → AreBytes (drop k xs)
bytes-drop zero xs h = h
bytes-drop (suc k) [] h = h
bytes-drop (suc k) (x ∷ xs) h = bytes-drop k xs (λ i. h (suc i))

-- a smaller word comes first
pub word-less : (k n : ℕ) (xs ys : List ℕ) → k ≤ length xs → k ≤ length ys → AreBytes xs → AreBytes ys
    → big_endian n (take k xs) < big_endian n (take k ys) → slice_cmp nat_cmp xs ys ≡ Less
word-less zero n xs ys p q h j lt = absurd (omega (arith, lt))
word-less (suc k) n [] ys p q h j lt = absurd (omega (arith, p))
word-less (suc k) n (x ∷ xs) [] p q h j lt = absurd (omega (arith, q))
word-less (suc k) n (x ∷ xs) (y ∷ ys) p q h j lt =
    by (cases_order x y) (λ e. word-less k (n * 256 + x) xs ys (omega (arith, p)) (omega (arith, q)) (λ i. h (suc i)) (λ i. j (suc i))
    (subst (λ (v : ℕ). big_endian (n * 256 + x) (take k xs) < big_endian (n * 256 + v) (take k ys)) (sym e) lt))
  where
    by : (x ≡ y) ⊎ ((x < y) ⊎ (y < x)) → (x ≡ y → slice_cmp nat_cmp xs ys ≡ Less) → slice_cmp nat_cmp (x ∷ xs) (y ∷ ys) ≡ Less
    by (inl e) rest = ap (λ (o : Ordering). ordering_then o (slice_cmp nat_cmp xs ys)) (tied-is x y e) ∙ rest e
    by (inr (inl l)) rest = ap (λ (o : Ordering). ordering_then o (slice_cmp nat_cmp xs ys)) (less-is x y l)
    by (inr (inr g)) rest = absurd (omega (arith, lt, rises k (n * 256 + y) (n * 256 + x) ys xs (omega (arith, q)) (omega (arith, p)) (λ i. j (suc i)) (omega (arith, g))))

-- a greater one comes after
pub word-greater : (k n : ℕ) (xs ys : List ℕ) → k ≤ length xs → k ≤ length ys → AreBytes xs → AreBytes ys
    → big_endian n (take k ys) < big_endian n (take k xs) → slice_cmp nat_cmp xs ys ≡ Greater
word-greater zero n xs ys p q h j lt = absurd (omega (arith, lt))
word-greater (suc k) n [] ys p q h j lt = absurd (omega (arith, p))
word-greater (suc k) n (x ∷ xs) [] p q h j lt = absurd (omega (arith, q))
word-greater (suc k) n (x ∷ xs) (y ∷ ys) p q h j lt =
    by (cases_order x y) (λ e. word-greater k (n * 256 + x) xs ys (omega (arith, p)) (omega (arith, q)) (λ i. h (suc i)) (λ i. j (suc i))
    (subst (λ (v : ℕ). big_endian (n * 256 + v) (take k ys) < big_endian (n * 256 + x) (take k xs)) (sym e) lt))
  where
    by : (x ≡ y) ⊎ ((x < y) ⊎ (y < x)) → (x ≡ y → slice_cmp nat_cmp xs ys ≡ Greater) → slice_cmp nat_cmp (x ∷ xs) (y ∷ ys) ≡ Greater
    by (inl e) rest = ap (λ (o : Ordering). ordering_then o (slice_cmp nat_cmp xs ys)) (tied-is x y e) ∙ rest e
    by (inr (inl l)) rest = absurd (omega (arith, lt, rises k (n * 256 + x) (n * 256 + y) xs ys (omega (arith, p)) (omega (arith, q)) (λ i. h (suc i)) (omega (arith, l))))
    by (inr (inr g)) rest = ap (λ (o : Ordering). ordering_then o (slice_cmp nat_cmp xs ys)) (greater-is x y g)

-- equal words are equal bytes
pub word-agree : (k n : ℕ) (xs ys : List ℕ) → k ≤ length xs → k ≤ length ys → AreBytes xs → AreBytes ys
    → big_endian n (take k xs) ≡ big_endian n (take k ys) → take k xs ≡ take k ys
word-agree zero n xs ys p q h j e = refl
word-agree (suc k) n [] ys p q h j e = absurd (omega (arith, p))
word-agree (suc k) n (x ∷ xs) [] p q h j e = absurd (omega (arith, q))
word-agree (suc k) n (x ∷ xs) (y ∷ ys) p q h j e =
    by (cases_order x y) (λ s. word-agree k (n * 256 + x) xs ys (omega (arith, p)) (omega (arith, q)) (λ i. h (suc i)) (λ i. j (suc i))
    (e ∙ ap (λ (v : ℕ). big_endian (n * 256 + v) (take k ys)) (sym s)))
  where
    by : (x ≡ y) ⊎ ((x < y) ⊎ (y < x)) → (x ≡ y → take k xs ≡ take k ys) → take (suc k) (x ∷ xs) ≡ take (suc k) (y ∷ ys)
    by (inl s) rest = let more = rest s in λ i. s i ∷ more i
    by (inr (inl l)) rest = absurd (omega (arith, e, rises k (n * 256 + x) (n * 256 + y) xs ys (omega (arith, p)) (omega (arith, q)) (λ i. h (suc i)) (omega (arith, l))))
    by (inr (inr g)) rest = absurd (omega (arith, e, rises k (n * 256 + y) (n * 256 + x) ys xs (omega (arith, q)) (omega (arith, p)) (λ i. j (suc i)) (omega (arith, g))))
