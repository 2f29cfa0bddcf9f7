-- Blocks that are apart, in whatever order they are named.
use Rattle.std.proofs.Common.{◌≡◌, ◌≤◌, ◌<◌, ◌⊎◌, inl, inr, ℕ, zero, suc, List, [], ◌∷◌, length, get_or, refl, sym, ap, ◌∙◌, arith, eqb, Bool, true, false, MatchBool}
use Rattle.std.proofs.lemmas.Bool.{eqb-true, eq-eqb}
use Rattle.std.specs.List.{AllByRecursion, swap}
use Rattle.std.specs.List.Sorted.{IsPermutation}
use Rattle.std.proofs.lemmas.List.Edits.{Swapped, swapped_from_swap, length-swap}
use Rattle.std.proofs.lemmas.List.Sorted.{IsPermutation-keeps, IsPermutation-sym}
use Rattle.table.specs.declared.handle.Handle.{Handle}
use Rattle.table.specs.Stored.{DoNotOverlap, AreApart, AreSeparate, end_of}

-- ---- by places

unfoldable pub ApartAt : List Handle → Type 0
ApartAt hs = (i j : ℕ) (d : Handle) → i < length hs → j < length hs → (i ≡ j → ⊥) → DoNotOverlap (get_or hs i d) (get_or hs j d)

pub turned : (a b : Handle) → DoNotOverlap a b → DoNotOverlap b a
turned a b (inl h) = inr h
turned a b (inr h) = inl h

pub all_at : (P : Handle → Type 0) (hs : List Handle) (i : ℕ) (d : Handle) → AllByRecursion P hs → i < length hs → P (get_or hs i d)
all_at P [] i d h p = absurd (omega arith)
all_at P (x ∷ hs) zero d h p = h.0
all_at P (x ∷ hs) (suc i) d h p = all_at P hs i d h.1 (omega arith)

pub all_from : (P : Handle → Type 0) (hs : List Handle) → ((i : ℕ) (d : Handle) → i < length hs → P (get_or hs i d)) → AllByRecursion P hs
all_from P [] f = tt
all_from P (x ∷ hs) f = (f 0 x (omega arith), all_from P hs (λ i d p. f (suc i) d (omega arith)))

pub to_at : (hs : List Handle) → AreApart hs → ApartAt hs
unfolding ApartAt
to_at [] h i j d p q ne = absurd (omega arith)
to_at (x ∷ hs) h zero zero d p q ne = absurd (ne refl)
to_at (x ∷ hs) h zero (suc j) d p q ne = all_at (DoNotOverlap x) hs j d h.0 (omega arith)
to_at (x ∷ hs) h (suc i) zero d p q ne = turned x (get_or hs i d) (all_at (DoNotOverlap x) hs i d h.0 (omega arith))
to_at (x ∷ hs) h (suc i) (suc j) d p q ne = to_at hs h.1 i j d (omega arith) (omega arith) (λ e. ne (ap suc e))

pub from_at : (hs : List Handle) → ApartAt hs → AreApart hs
unfolding ApartAt
from_at [] f = tt
from_at (x ∷ hs) f = (
  all_from (DoNotOverlap x) hs (λ i d p. f 0 (suc i) d (omega arith) (omega arith) (λ e. absurd (omega (arith, e)))),
  from_at hs (λ i j d p q ne. f (suc i) (suc j) d (omega arith) (omega arith) (λ e. ne (omega (arith, e)))),
)

-- ---- in another order

-- where an element stood before two were exchanged
Before : (ℕ → Handle) → (ℕ → Handle) → ℕ → ℕ → ℕ → Type 0
Before f g a b i = (k : ℕ) × (g i ≡ f k) × (((i ≡ a) × (k ≡ b)) ⊎ ((i ≡ b) × (k ≡ a)) ⊎ ((i ≡ a → ⊥) × (i ≡ b → ⊥) × (k ≡ i)))

differs : (m n : ℕ) → eqb m n ≡ false → m ≡ n → ⊥
differs m n e h = let t : true ≡ false = sym (eq-eqb m n h) ∙ e in cc

before : (f g : ℕ → Handle) (a b i : ℕ) (s : Bool) (t : Bool) → eqb i a ≡ s → eqb i b ≡ t → Swapped f g a b → Before f g a b i
unfolding Before
before f g a b i true t p q h = (b, ap g (eqb-true i a p) ∙ h.0, inl (eqb-true i a p, refl))
before f g a b i false true p q h = (a, ap g (eqb-true i b q) ∙ h.1, inr (inl (eqb-true i b q, refl)))
before f g a b i false false p q h = (i, h.2 i (differs i a p) (differs i b q), inr (inr (differs i a p, differs i b q, refl)))

apart_before : (l : List Handle) (d : Handle) (g : ℕ → Handle) (a b i j : ℕ) → a < length l → b < length l → i < length l → j < length l → (i ≡ j → ⊥)
    → Before (λ k. get_or l k d) g a b i → Before (λ k. get_or l k d) g a b j → ApartAt l → DoNotOverlap (g i) (g j)
unfolding Before ApartAt
apart_before l d g a b i j pa pb pi pj ne (k, e, c) (m, u, v) h =
    let at : k < length l → m < length l → (k ≡ m → ⊥) → DoNotOverlap (g i) (g j) = λ p q n. rw (e, u) (h k m d p q n) in
    elim c [
      | inl x ↦ elim v [
        | inl y ↦ absurd (ne (x.0 ∙ sym y.0))
        | inr (inl y) ↦ at (rw x.1 pb) (rw y.1 pa) (λ z. ne (x.0 ∙ sym (sym x.1 ∙ z ∙ y.1) ∙ sym y.0))
        | inr (inr y) ↦ at (rw x.1 pb) (rw y.2 pj) (λ z. y.1 (sym y.2 ∙ sym z ∙ x.1))
      ]
      | inr (inl x) ↦ elim v [
        | inl y ↦ at (rw x.1 pa) (rw y.1 pb) (λ z. ne (x.0 ∙ sym (sym x.1 ∙ z ∙ y.1) ∙ sym y.0))
        | inr (inl y) ↦ absurd (ne (x.0 ∙ sym y.0))
        | inr (inr y) ↦ at (rw x.1 pa) (rw y.2 pj) (λ z. y.0 (sym y.2 ∙ sym z ∙ x.1))
      ]
      | inr (inr x) ↦ elim v [
        | inl y ↦ at (rw x.2 pi) (rw y.1 pb) (λ z. x.1 (sym x.2 ∙ z ∙ y.1))
        | inr (inl y) ↦ at (rw x.2 pi) (rw y.1 pa) (λ z. x.0 (sym x.2 ∙ z ∙ y.1))
        | inr (inr y) ↦ at (rw x.2 pi) (rw y.2 pj) (λ z. ne (sym x.2 ∙ z ∙ y.2))
      ]
    ]

exchanged : (l : List Handle) (a b : ℕ) → a < length l → b < length l → ApartAt l → ApartAt (swap l a b)
unfolding ApartAt
exchanged l a b pa pb h i j d p q ne =
    let len : length (swap l a b) ≡ length l = length-swap l a b in
    let s = swapped_from_swap l (swap l a b) a b d pa pb refl in
    let g : ℕ → Handle = λ k. get_or (swap l a b) k d in
    apart_before l d g a b i j pa pb (omega (arith, len, p)) (omega (arith, len, q)) ne
    (before (λ k. get_or l k d) g a b i (eqb i a) (eqb i b) refl refl s) (before (λ k. get_or l k d) g a b j (eqb j a) (eqb j b) refl refl s) h

pub apart_moved : (xs ys : List Handle) → IsPermutation xs ys → AreApart xs → AreApart ys
apart_moved xs ys p h = from_at ys (IsPermutation-keeps xs ApartAt (to_at xs h) (λ l i j a b k. exchanged l i j a b k) ys p)

EndsAt : ℕ → List Handle → Type 0
EndsAt end hs = (i : ℕ) (d : Handle) → i < length hs → end_of (get_or hs i d) ≤ end

end_before : (end : ℕ) (l : List Handle) (d : Handle) (g : ℕ → Handle) (a b i : ℕ) → a < length l → b < length l → i < length l → Before (λ k. get_or l k d) g a b i → EndsAt end l → end_of (g i) ≤ end
unfolding Before EndsAt
end_before end l d g a b i pa pb pi (k, e, c) h =
    let at : k < length l → end_of (g i) ≤ end = λ p. rw e (h k d p) in
    elim c [
      | inl x ↦ at (rw x.1 pb)
      | inr (inl x) ↦ at (rw x.1 pa)
      | inr (inr x) ↦ at (rw x.2 pi)
    ]

exchanged_ends : (end : ℕ) (l : List Handle) (a b : ℕ) → a < length l → b < length l → EndsAt end l → EndsAt end (swap l a b)
unfolding EndsAt
exchanged_ends end l a b pa pb h i d p =
    let len : length (swap l a b) ≡ length l = length-swap l a b in
    let s = swapped_from_swap l (swap l a b) a b d pa pb refl in
    let g : ℕ → Handle = λ k. get_or (swap l a b) k d in
    end_before end l d g a b i pa pb (omega (arith, len, p)) (before (λ k. get_or l k d) g a b i (eqb i a) (eqb i b) refl refl s) h

ends_to : (end : ℕ) (hs : List Handle) → AllByRecursion (λ (handle : Handle). end_of handle ≤ end) hs → EndsAt end hs
unfolding EndsAt
ends_to end hs h i d p = all_at (λ (handle : Handle). end_of handle ≤ end) hs i d h p

ends_from : (end : ℕ) (hs : List Handle) → EndsAt end hs → AllByRecursion (λ (handle : Handle). end_of handle ≤ end) hs
unfolding EndsAt
ends_from end hs h = all_from (λ (handle : Handle). end_of handle ≤ end) hs h

pub separate_moved : (end : ℕ) (xs ys : List Handle) → IsPermutation xs ys → AreSeparate end xs → AreSeparate end ys
separate_moved end xs ys p h =
    (ends_from end ys (IsPermutation-keeps xs (EndsAt end) (ends_to end xs h.0) (λ l i j a b k. exchanged_ends end l i j a b k) ys p), apart_moved xs ys p h.1)

pub answer_moved : (r : Bool) (end : ℕ) (xs ys : List Handle) → IsPermutation xs ys → MatchBool r (AreSeparate end ys) (AreSeparate end ys → ⊥) → MatchBool r (AreSeparate end xs) (AreSeparate end xs → ⊥)
answer_moved true end xs ys p h = separate_moved end ys xs (IsPermutation-sym xs ys p) h
answer_moved false end xs ys p h = λ k. h (separate_moved end xs ys p k)
