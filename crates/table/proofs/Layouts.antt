-- Blocks in the order of their offsets.
use Rattle.std.proofs.lemmas.Bool.{cases_lt}
use Rattle.std.proofs.Common.{◌≡◌, ◌≤◌, ◌<◌, ◌+◌, ◌⊎◌, inl, inr, ℕ, List, length, get_or, refl, sym, ap, subst, arith}
use Rattle.std.specs.List.Sorted.{IsNonDecreasingBy}
use Rattle.table.specs.declared.handle.Handle.{Handle}
use Rattle.table.specs.Stored.{DoNotOverlap, AreSeparate, end_of}
use Rattle.table.proofs.Apart.{ApartAt, all_at, all_from, to_at, from_at}

-- The first n blocks end up to here, one after the other, and the last of them ends here.
pub record IsReached (end : ℕ) (hs : List Handle) (n reached : ℕ) : Type 0 where
  pub inside : reached ≤ end
  pub ends : (k : ℕ) (d : Handle) → k < n → end_of (get_or hs k d) ≤ reached
  pub behind : (k m : ℕ) (d : Handle) → k < m → m < n → end_of (get_or hs k d) ≤ (get_or hs m d).offset
  pub last : (d : Handle) → reached ≡ 0 ⊎ ((k : ℕ) × (n ≡ k + 1) × (reached ≡ end_of (get_or hs k d)))

pub none_reached : (end : ℕ) (hs : List Handle) → IsReached end hs 0 0
none_reached end hs = record { inside = omega arith; ends = λ k d p. absurd (omega arith); behind = λ k m d p q. absurd (omega arith); last = λ d. inl refl }

below : (i j : ℕ) → j ≤ i → (i ≡ j → ⊥) → j < i
below i j p ne = omega (arith, ne)

at_most : (hs : List Handle) (n reached : ℕ) (h : Handle) (k : ℕ) (d : Handle) → h ≡ get_or hs n d → reached ≤ h.offset → (k < n → end_of (get_or hs k d) ≤ reached) → (k < n) ⊎ (n ≤ k) → k < n + 1
    → end_of (get_or hs k d) ≤ end_of h
at_most hs n reached h k d e begins r (inl p) q = omega (arith, r p)
at_most hs n reached h k d e begins r (inr p) q =
    let i : k ≡ n = omega arith in
    subst (λ (j : ℕ). end_of (get_or hs j d) ≤ end_of h) (sym i) (subst (λ (g : Handle). end_of g ≤ end_of h) e (omega arith))

at_behind : (hs : List Handle) (n reached : ℕ) (h : Handle) (k m : ℕ) (d : Handle) → h ≡ get_or hs n d → reached ≤ h.offset → (k < n → end_of (get_or hs k d) ≤ reached)
    → (k < m → m < n → end_of (get_or hs k d) ≤ (get_or hs m d).offset) → (m < n) ⊎ (n ≤ m) → k < m → m < n + 1
    → end_of (get_or hs k d) ≤ (get_or hs m d).offset
at_behind hs n reached h k m d e begins r b (inl p) q t = b q p
at_behind hs n reached h k m d e begins r b (inr p) q t =
    let i : n ≡ m = omega arith in
    subst (λ (j : ℕ). end_of (get_or hs k d) ≤ (get_or hs j d).offset) i (subst (λ (g : Handle). end_of (get_or hs k d) ≤ g.offset) e (omega (arith, r (omega arith))))

-- the step of the loop
pub reached_more : (end : ℕ) (hs : List Handle) (n reached : ℕ) (h : Handle) → ((d : Handle) → h ≡ get_or hs n d) → reached ≤ h.offset → end_of h ≤ end → IsReached end hs n reached → IsReached end hs (n + 1) (end_of h)
reached_more end hs n reached h is begins ends r = record {
  inside = ends;
  ends = λ k d p. at_most hs n reached h k d (is d) begins (r.ends k d) (cases_lt k n) p;
  behind = λ k m d p q. at_behind hs n reached h k m d (is d) begins (r.ends k d) (r.behind k m d) (cases_lt m n) p q;
  last = λ d. inr (n, refl, ap end_of (is d));
}

one_behind : (hs : List Handle) (n i j : ℕ) (d : Handle) → ((k m : ℕ) → k < m → m < n → end_of (get_or hs k d) ≤ (get_or hs m d).offset) → (i < j) ⊎ (j ≤ i) → i < n → j < n → (i ≡ j → ⊥) → DoNotOverlap (get_or hs i d) (get_or hs j d)
one_behind hs n i j d b (inl p) q t ne = inl (b i j p t)
one_behind hs n i j d b (inr p) q t ne = inr (b j i (below i j p ne) q)

-- all of them are apart
pub all_reached : (end : ℕ) (hs : List Handle) (n reached : ℕ) → length hs ≤ n → IsReached end hs n reached → AreSeparate end hs
unfolding ApartAt
all_reached end hs n reached p r = (
  all_from (λ (handle : Handle). end_of handle ≤ end) hs (λ i d q. let e = r.ends i d (omega arith) in omega (arith, r.inside, e)),
  from_at hs (λ i j d q t ne. one_behind hs n i j d (λ k m u v. r.behind k m d u v) (cases_lt i j) (omega arith) (omega arith) ne),
)

touching : (a b : Handle) → a.offset ≤ b.offset → b.offset < end_of a → DoNotOverlap a b → ⊥
touching a b p q (inl h) = absurd (omega (arith, h))
touching a b p q (inr h) = absurd (omega (arith, h))

-- one that begins too soon lies in the one before
pub overlaps : (end : ℕ) (hs : List Handle) (n reached : ℕ) (d : Handle) → n < length hs → IsNonDecreasingBy (λ (handle : Handle). handle.offset) hs → IsReached end hs n reached
    → (get_or hs n d).offset < reached → AreSeparate end hs → ⊥
unfolding ApartAt
overlaps end hs n reached d p sorted r before apart =
    elim (r.last d) [
      | inl z ↦ absurd (omega (arith, z, before))
      | inr l ↦
          let order = sorted l.0 n d (omega (arith, l.1)) p in
          touching (get_or hs l.0 d) (get_or hs n d) order (omega (arith, l.2, before))
          (to_at hs apart.1 l.0 n d (omega (arith, l.1, p)) p (λ i. absurd (omega (arith, l.1, i))))
    ]

pub past_the_end : (end : ℕ) (hs : List Handle) (n : ℕ) (d : Handle) → n < length hs → end < end_of (get_or hs n d) → AreSeparate end hs → ⊥
past_the_end end hs n d p past apart =
    let k = all_at (λ (handle : Handle). end_of handle ≤ end) hs n d apart.0 p in absurd (omega (arith, k, past))
