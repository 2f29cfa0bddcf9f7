-- Byte strings that begin alike.
use Rattle.std.proofs.Common.{◌≡◌, ◌+◌, ◌<◌, ◌≤◌, ℕ, zero, suc, min, List, [], ◌∷◌, length, take, drop, get_or, refl, sym, ap, subst, ◌∙◌, arith, ◌⊎◌, inl, inr}
use Rattle.std.proofs.lemmas.Bool.{cases_order}
use Rattle.std.proofs.lemmas.List.{take-take, length-drop}
use Rattle.std.specs.Ordering.{nat_cmp, ordering_then}
use Rattle.std.specs.Cmp.Lexicographic.{slice_cmp}
use Rattle.std.specs.declared.cmp.Ordering.{Ordering}
use Rattle.std.specs.declared.cmp.Ordering.TheVariants.{Less, Greater}
use Rattle.ikey.specs.Words.{big_endian}
use Rattle.ikey.proofs.Words.{AreBytes, bytes-drop, word-less, word-greater, word-agree, tied-is, less-is, greater-is}

-- they have the same first bytes
abbrev pub Agree : ℕ → List ℕ → List ℕ → Type 0
Agree k xs ys = take k xs ≡ take k ys

-- less of what agrees
pub agree-less : (j k : ℕ) (xs ys : List ℕ) → j ≤ k → Agree k xs ys → Agree j xs ys
agree-less j k xs ys p e = sym (take-take j k xs p) ∙ ap (take j) e ∙ take-take j k ys p

head-same : (k x y : ℕ) (xs ys : List ℕ) → Agree (suc k) (x ∷ xs) (y ∷ ys) → x ≡ y
head-same k x y xs ys e = ap (λ (v : List ℕ). get_or v 0 0) e

tail-same : (k x y : ℕ) (xs ys : List ℕ) → Agree (suc k) (x ∷ xs) (y ∷ ys) → Agree k xs ys
tail-same k x y xs ys e = ap (drop 1) e

-- what agrees, and goes on with what agrees
agree-more : (m k n : ℕ) (xs ys : List ℕ) → n ≡ m + k → m ≤ length xs → m ≤ length ys → Agree m xs ys → Agree k (drop m xs) (drop m ys) → Agree n xs ys
agree-more zero k n xs ys t p q e f = let s : k ≡ n = omega (arith, t) in subst (λ (v : ℕ). Agree v xs ys) s f
agree-more (suc m) k zero xs ys t p q e f = refl
agree-more (suc m) k (suc n) [] ys t p q e f = absurd (omega (arith, p))
agree-more (suc m) k (suc n) (x ∷ xs) [] t p q e f = absurd (omega (arith, q))
agree-more (suc m) k (suc n) (x ∷ xs) (y ∷ ys) t p q e f =
    let more = agree-more m k n xs ys (omega (arith, t)) (omega (arith, p)) (omega (arith, q)) (tail-same m x y xs ys e) f in
    let head = head-same m x y xs ys e in
    λ i. head i ∷ more i

-- what agrees in front is ordered as the rest is
agree-cmp : (m : ℕ) (xs ys : List ℕ) → m ≤ length xs → m ≤ length ys → Agree m xs ys → slice_cmp nat_cmp (drop m xs) (drop m ys) ≡ slice_cmp nat_cmp xs ys
agree-cmp zero xs ys p q e = refl
agree-cmp (suc m) [] ys p q e = absurd (omega (arith, p))
agree-cmp (suc m) (x ∷ xs) [] p q e = absurd (omega (arith, q))
agree-cmp (suc m) (x ∷ xs) (y ∷ ys) p q e =
    agree-cmp m xs ys (omega (arith, p)) (omega (arith, q)) (tail-same m x y xs ys e)
    ∙ ap (λ (o : Ordering). ordering_then o (slice_cmp nat_cmp xs ys)) (sym (tied-is x y (head-same m x y xs ys e)))

cmp-suc : (m n : ℕ) → nat_cmp m n ≡ nat_cmp (suc m) (suc n)
cmp-suc m n = by (cases_order m n)
  where
    by : (m ≡ n) ⊎ ((m < n) ⊎ (n < m)) → nat_cmp m n ≡ nat_cmp (suc m) (suc n)
    by (inl s) = tied-is m n s ∙ sym (tied-is (suc m) (suc n) (ap suc s))
    by (inr (inl l)) = less-is m n l ∙ sym (less-is (suc m) (suc n) (omega (arith, l)))
    by (inr (inr g)) = greater-is m n g ∙ sym (greater-is (suc m) (suc n) (omega (arith, g)))

-- where one is the front of the other, the lengths decide
pub lengths-decide : (m : ℕ) (xs ys : List ℕ) → m ≡ min (length xs) (length ys) → Agree m xs ys → nat_cmp (length xs) (length ys) ≡ slice_cmp nat_cmp xs ys
lengths-decide zero [] [] s e = refl
lengths-decide zero [] (y ∷ ys) s e = less-is 0 (length (y ∷ ys)) (omega arith)
lengths-decide zero (x ∷ xs) [] s e = greater-is (length (x ∷ xs)) 0 (omega arith)
lengths-decide zero (x ∷ xs) (y ∷ ys) s e = absurd (omega (arith, s))
lengths-decide (suc m) [] ys s e = absurd (omega (arith, s))
lengths-decide (suc m) (x ∷ xs) [] s e = absurd (omega (arith, s))
lengths-decide (suc m) (x ∷ xs) (y ∷ ys) s e =
    sym (cmp-suc (length xs) (length ys))
    ∙ lengths-decide m xs ys (omega (arith, s)) (tail-same m x y xs ys e)
    ∙ ap (λ (o : Ordering). ordering_then o (slice_cmp nat_cmp xs ys)) (sym (tied-is x y (head-same m x y xs ys e)))

room : (m : ℕ) (xs : List ℕ) → m + 8 ≤ length xs → 8 ≤ length (drop m xs)
room m xs p = omega (arith, p, length-drop m xs)

-- a smaller word after the same front
pub less-at : (m : ℕ) (xs ys : List ℕ) → m + 8 ≤ length xs → m + 8 ≤ length ys → AreBytes xs → AreBytes ys → Agree m xs ys
    → big_endian 0 (take 8 (drop m xs)) < big_endian 0 (take 8 (drop m ys)) → slice_cmp nat_cmp xs ys ≡ Less
less-at m xs ys p q h j e lt =
    sym (agree-cmp m xs ys (omega (arith, p)) (omega (arith, q)) e)
    ∙ word-less 8 0 (drop m xs) (drop m ys) (room m xs p) (room m ys q) (bytes-drop m xs h) (bytes-drop m ys j) lt

-- a greater one
pub greater-at : (m : ℕ) (xs ys : List ℕ) → m + 8 ≤ length xs → m + 8 ≤ length ys → AreBytes xs → AreBytes ys → Agree m xs ys
    → big_endian 0 (take 8 (drop m ys)) < big_endian 0 (take 8 (drop m xs)) → slice_cmp nat_cmp xs ys ≡ Greater
greater-at m xs ys p q h j e lt =
    sym (agree-cmp m xs ys (omega (arith, p)) (omega (arith, q)) e)
    ∙ word-greater 8 0 (drop m xs) (drop m ys) (room m xs p) (room m ys q) (bytes-drop m xs h) (bytes-drop m ys j) lt

-- an equal one
pub same-at : (m : ℕ) (xs ys : List ℕ) → m + 8 ≤ length xs → m + 8 ≤ length ys → AreBytes xs → AreBytes ys → Agree m xs ys
    → big_endian 0 (take 8 (drop m xs)) ≡ big_endian 0 (take 8 (drop m ys)) → Agree (m + 8) xs ys
same-at m xs ys p q h j e s =
    agree-more m 8 (m + 8) xs ys refl (omega (arith, p)) (omega (arith, q)) e
    (word-agree 8 0 (drop m xs) (drop m ys) (room m xs p) (room m ys q) (bytes-drop m xs h) (bytes-drop m ys j) s)
