-- Places among the pairs of all blocks.
use Rattle.std.proofs.Common.{◌≡◌, ◌<◌, ◌≤◌, ◌+◌, ◌++◌, ℕ, zero, suc, List, [], ◌∷◌, Some, None, length, refl, ap, ◌∙◌, subst, arith}
use Rattle.std.proofs.lemmas.List.{length-append}
use Rattle.std.specs.List.{slice_get}
use Rattle.cursor.specs.Places.{Cmp}
use Rattle.ikey.specs.Entries.{Pair}
use Rattle.table_access.specs.TablePlaces.{joined, pairs_before}
use Rattle.table.specs.Table.{HasBlock, AreData}
use Rattle.table.specs.declared.handle.Place.{Place}

-- ---- lists

pub some_at : {A : Type 0} (xs : List A) (n : ℕ) → n < length xs → (x : A) × (slice_get xs n ≡ Some x)
some_at [] n h = absurd (omega (arith, h))
some_at (x ∷ xs) zero h = (x, refl)
some_at (x ∷ xs) (suc n) h = some_at xs n (omega (arith, h))

pub in_front : {A : Type 0} (xs ys : List A) (n : ℕ) (x : A) → slice_get xs n ≡ Some x → slice_get (xs ++ ys) n ≡ Some x
in_front [] ys n x e = absurd (let bad : None ≡ Some x = e in cc)
in_front (y ∷ xs) ys zero x e = e
in_front (y ∷ xs) ys (suc n) x e = in_front xs ys n x e

pub behind : {A : Type 0} (xs ys : List A) (n m : ℕ) → m ≡ length xs + n → slice_get (xs ++ ys) m ≡ slice_get ys n
behind [] ys n m e = ap (slice_get ys) (let t : m ≡ n = omega (arith, e) in t)
behind (x ∷ xs) ys n zero e = absurd (omega (arith, e))
behind (x ∷ xs) ys n (suc m) e = behind xs ys n m (omega (arith, e))

-- ---- blocks

pub before_zero : (groups : List (List Pair)) → pairs_before groups 0 ≡ 0
unfolding pairs_before
before_zero [] = refl
before_zero (pairs ∷ groups) = refl

pub before_more : (groups : List (List Pair)) (i : ℕ) (pairs : List Pair) → slice_get groups i ≡ Some pairs → pairs_before groups (suc i) ≡ pairs_before groups i + length pairs
unfolding pairs_before
before_more [] i pairs e = absurd (let bad : None ≡ Some pairs = e in cc)
before_more (x ∷ groups) zero pairs e =
    let s : x ≡ pairs = let t : Some x ≡ Some pairs = e in cc in
    omega (arith, before_zero groups, ap (length {A = Pair}) s)
before_more (x ∷ groups) (suc i) pairs e = let h = before_more groups i pairs e in omega (arith, h)

pub before_all : (groups : List (List Pair)) → pairs_before groups (length groups) ≡ length (joined groups)
unfolding pairs_before
before_all [] = refl
before_all (x ∷ groups) = omega (arith, before_all groups, length-append x (joined groups))

pub item_in : (groups : List (List Pair)) (i : ℕ) (pairs : List Pair) (j : ℕ) (pair : Pair) → slice_get groups i ≡ Some pairs → slice_get pairs j ≡ Some pair
    → slice_get (joined groups) (pairs_before groups i + j) ≡ Some pair
unfolding pairs_before
item_in [] i pairs j pair e f = absurd (let bad : None ≡ Some pairs = e in cc)
item_in (x ∷ groups) zero pairs j pair e f =
    let s : x ≡ pairs = let t : Some x ≡ Some pairs = e in cc in
    let start : 0 + j ≡ j = omega arith in
    ap (slice_get (x ++ joined groups)) start ∙ in_front x (joined groups) j pair (ap (λ (l : List Pair). slice_get l j) s ∙ f)
item_in (x ∷ groups) (suc i) pairs j pair e f =
    behind x (joined groups) (pairs_before groups i + j) (length x + pairs_before groups i + j) (omega arith) ∙ item_in groups i pairs j pair e f

pub before_inside : (groups : List (List Pair)) (i : ℕ) (pairs : List Pair) → slice_get groups i ≡ Some pairs → pairs_before groups i + length pairs ≤ length (joined groups)
unfolding pairs_before
before_inside [] i pairs e = absurd (let bad : None ≡ Some pairs = e in cc)
before_inside (x ∷ groups) zero pairs e =
    let s : x ≡ pairs = let t : Some x ≡ Some pairs = e in cc in
    omega (arith, length-append x (joined groups), ap (length {A = Pair}) s)
before_inside (x ∷ groups) (suc i) pairs e = omega (arith, before_inside groups i pairs e, length-append x (joined groups))

pub before_up : (groups : List (List Pair)) (i j : ℕ) → i ≤ j → pairs_before groups i ≤ pairs_before groups j
unfolding pairs_before
before_up [] i j h = omega arith
before_up (x ∷ groups) zero j h = omega arith
before_up (x ∷ groups) (suc i) zero h = absurd (omega (arith, h))
before_up (x ∷ groups) (suc i) (suc j) h = let k = before_up groups i j (omega (arith, h)) in omega (arith, k)

-- ---- the blocks of a file

pub data_length : (cmp : Cmp) (file : List ℕ) (places : List Place) (groups : List (List Pair)) → AreData cmp file places groups → length places ≡ length groups
data_length cmp file [] [] h = refl
data_length cmp file [] (x ∷ groups) h = absurd h
data_length cmp file (place ∷ places) [] h = absurd h
data_length cmp file (place ∷ places) (x ∷ groups) h = ap suc (data_length cmp file places groups h.1)

pub data_at : (cmp : Cmp) (file : List ℕ) (places : List Place) (groups : List (List Pair)) (i : ℕ) (place : Place) → AreData cmp file places groups → slice_get places i ≡ Some place
    → (pairs : List Pair) × (slice_get groups i ≡ Some pairs) × HasBlock cmp file place.handle pairs
data_at cmp file [] groups i place h e = absurd (let bad : None ≡ Some place = e in cc)
data_at cmp file (x ∷ places) [] i place h e = absurd h
data_at cmp file (x ∷ places) (pairs ∷ groups) zero place h e =
    let s : x ≡ place = let t : Some x ≡ Some place = e in cc in
    (pairs, refl, subst (λ (p : Place). HasBlock cmp file p.handle pairs) s h.0)
data_at cmp file (x ∷ places) (pairs ∷ groups) (suc i) place h e = data_at cmp file places groups i place h.1 e
