-- Nodes that have the numbers from 1 on.
use Rattle.std.proofs.Common.{◌≡◌, ◌≢◌, ◌==◌, ◌+◌, ◌/◌, ◌%◌, ◌<◌, ◌≤◌, ℕ, zero, suc, Bool, cond, List, [], ◌∷◌, ◌++◌, length, reverse, IsPermutation, refl, sym, ap, subst, ◌∙◌, arith, length-append, eqb-true, ⊎_elim}
use Rattle.std.proofs.lemmas.Bool.{cases_Bool, eqb-false}
use Rattle.std.proofs.lemmas.List.{reverse-append, length-reverse}
use Rattle.std.proofs.lemmas.List.Sorted.{IsPermutation-refl, IsPermutation-sym, IsPermutation-middle, IsPermutation-push_more}
use Rattle.std.specs.List.{AllByRecursion}
use Rattle.memtable.specs.Levels.{quarter, AreNumbers, count_to}
use Rattle.memtable.proofs.Orders.{all-map, all-front}
use Rattle.memtable.proofs.Quarters.{quarter-append}
use Rattle.memtable.proofs.TableSteps.{reverse-with}

pub count-more : (n : ℕ) → count_to (n + 1) ≡ count_to n ++ (n + 1) ∷ []
count-more n = let e : n + 1 ≡ suc n = omega arith in subst (λ (m : ℕ). count_to m ≡ count_to n ++ m ∷ []) (sym e) refl

-- ---- which numbers they are

abbrev pub Within : ℕ → ℕ → Type 0
Within n node = (0 < node) × (node ≤ n)

all-insert : (P : ℕ → Type 0) (x : ℕ) (front back : List ℕ) → P x → AllByRecursion P (front ++ back) → AllByRecursion P (front ++ x ∷ back)
all-insert P x [] back p h = (p, h)
all-insert P x (y ∷ front) back p h = (h.0, all-insert P x front back p h.1)

pub numbers-within : (n : ℕ) (nodes : List ℕ) → AreNumbers n nodes → AllByRecursion (Within n) nodes
numbers-within zero nodes h = subst (AllByRecursion (Within zero)) (sym h) tt
numbers-within (suc n) nodes h =
    subst (AllByRecursion (Within (suc n))) (sym h.2)
    (all-insert (Within (suc n)) (suc n) h.0 h.1 (omega arith, omega arith)
    (all-map (Within n) (Within (suc n)) (h.0 ++ h.1) (λ m w. (w.0, omega (arith, w.1))) (numbers-within n (h.0 ++ h.1) h.3)))

pub numbers-long : (n : ℕ) (nodes : List ℕ) → AreNumbers n nodes → length nodes ≡ n
numbers-long zero nodes h = ap (λ (v : List ℕ). length v) h
numbers-long (suc n) nodes h =
    omega (arith, ap (λ (v : List ℕ). length v) h.2, length-append h.0 (suc n ∷ h.1), length-append h.0 h.1, numbers-long n (h.0 ++ h.1) h.3)

-- ---- each once

abbrev pub AreApart : List ℕ → Type 0
AreApart [] = Unit {0}
AreApart (x ∷ xs) = AllByRecursion (λ (y : ℕ). y ≢ x) xs × AreApart xs

apart-insert : (x : ℕ) (front back : List ℕ) → AreApart (front ++ back) → AllByRecursion (λ (y : ℕ). y ≢ x) (front ++ back) → AreApart (front ++ x ∷ back)
apart-insert x [] back h k = (k, h)
apart-insert x (z ∷ front) back h k = (all-insert (λ (y : ℕ). y ≢ z) x front back (λ e. k.0 (sym e)) h.0, apart-insert x front back h.1 k.1)

numbers-apart : (n : ℕ) (nodes : List ℕ) → AreNumbers n nodes → AreApart nodes
numbers-apart zero nodes h = subst AreApart (sym h) tt
numbers-apart (suc n) nodes h =
    subst AreApart (sym h.2)
    (apart-insert (suc n) h.0 h.1 (numbers-apart n (h.0 ++ h.1) h.3)
    (all-map (Within n) (λ (y : ℕ). y ≢ suc n) (h.0 ++ h.1) (λ m w e. omega (arith, w.1, e)) (numbers-within n (h.0 ++ h.1) h.3)))

-- the list's head has none of them
pub head-apart : (n : ℕ) (nodes : List ℕ) → AreNumbers n nodes → AreApart (0 ∷ nodes)
head-apart n nodes h = (all-map (Within n) (λ (y : ℕ). y ≢ 0) nodes (λ m w e. omega (arith, w.0, e)) (numbers-within n nodes h), numbers-apart n nodes h)

pub apart-front : (xs ys : List ℕ) → AreApart (xs ++ ys) → AreApart xs
apart-front [] ys h = tt
apart-front (x ∷ xs) ys h = (all-front (λ (y : ℕ). y ≢ x) xs ys h.0, apart-front xs ys h.1)

-- ---- those of the next level, backwards and in order

pub numbers-quarter : (n : ℕ) (nodes : List ℕ) → AreNumbers n nodes → AreNumbers (n / 4) (quarter nodes)
numbers-quarter zero nodes h = let none : 0 / 4 ≡ 0 = omega arith in subst (λ (m : ℕ). AreNumbers m (quarter nodes)) (sym none) (ap quarter h)
numbers-quarter (suc n) nodes h =
    let front = h.0 in
    let back = h.1 in
    let parts : quarter nodes ≡ quarter front ++ quarter (suc n ∷ back) = ap quarter h.2 ∙ quarter-append front (suc n ∷ back) in
    let more : AreNumbers (n / 4) (quarter front ++ quarter back) = subst (AreNumbers (n / 4)) (quarter-append front back) (numbers-quarter n (front ++ back) h.3) in
    ⊎_elim
    (λ e. let rest = eqb-true (suc n % 4) 0 e in
    let is : suc n / 4 ≡ suc (n / 4) = omega (arith, rest) in
    let nodes-are : quarter nodes ≡ quarter front ++ suc (n / 4) ∷ quarter back =
    parts ∙ ap (λ (b : Bool). quarter front ++ cond b (suc n / 4 ∷ quarter back) (quarter back)) e ∙ ap (λ (m : ℕ). quarter front ++ m ∷ quarter back) is in
    subst (λ (m : ℕ). AreNumbers m (quarter nodes)) (sym is) (quarter front, quarter back, nodes-are, more))
    (λ e. let rest = eqb-false (suc n % 4) 0 e in
    let is : suc n / 4 ≡ n / 4 = omega (arith, rest) in
    let nodes-are : quarter nodes ≡ quarter front ++ quarter back = parts ∙ ap (λ (b : Bool). quarter front ++ cond b (suc n / 4 ∷ quarter back) (quarter back)) e in
    subst (λ (m : ℕ). AreNumbers m (quarter nodes)) (sym is) (subst (AreNumbers (n / 4)) (sym nodes-are) more))
    (cases_Bool (suc n % 4 == 0))

pub numbers-reverse : (n : ℕ) (nodes : List ℕ) → AreNumbers n nodes → AreNumbers n (reverse nodes)
numbers-reverse zero nodes h = ap reverse h
numbers-reverse (suc n) nodes h =
    (reverse h.1, reverse h.0, ap reverse h.2 ∙ reverse-with h.0 h.1 (suc n), subst (AreNumbers n) (reverse-append h.0 h.1) (numbers-reverse n (h.0 ++ h.1) h.3))

-- a row of nodes backwards
pub numbers-backwards : (nodes row : List ℕ) → row ≡ reverse nodes → AreNumbers (length nodes) nodes → AreNumbers (length row) row
numbers-backwards nodes row is h =
    let back : AreNumbers (length (reverse nodes)) (reverse nodes) = subst (λ (n : ℕ). AreNumbers n (reverse nodes)) (sym (length-reverse nodes)) (numbers-reverse (length nodes) nodes h) in
    subst (λ (v : List ℕ). AreNumbers (length v) v) (sym is) back

pub numbers-permute : (n : ℕ) (nodes : List ℕ) → AreNumbers n nodes → IsPermutation (count_to n) nodes
numbers-permute zero nodes h = subst (IsPermutation []) (sym h) (IsPermutation-refl [])
numbers-permute (suc n) nodes h =
    subst (IsPermutation (count_to (suc n))) (sym h.2)
    (IsPermutation-push_more (count_to n) (h.0 ++ h.1) (h.0 ++ suc n ∷ h.1) (suc n) (numbers-permute n (h.0 ++ h.1) h.3)
    (IsPermutation-sym (h.0 ++ suc n ∷ h.1) (suc n ∷ (h.0 ++ h.1)) (IsPermutation-middle h.0 (suc n) h.1)))
