-- Entries in their order: by their user keys, and those of one user key by their sequence numbers,
-- the newest first.
use Rattle.std.proofs.Common.{◌≡◌, ◌⊎◌, ◌<◌, ◌≤◌, ℕ, zero, suc, true, false, List, [], ◌∷◌, Some, refl, sym, ap, ◌∙◌, subst, arith, inl, inr}
use Rattle.std.specs.List.{slice_get}
use Rattle.std.specs.FinMap.{IsAntisymmetric}
use Rattle.std.specs.Ordering.{nat_cmp, ordering_then, ordering_reverse}
use Rattle.std.specs.Cmp.{IsTotalOrder, tied_itself, ranked}
use Rattle.std.specs.declared.cmp.Ordering.{Ordering}
use Rattle.std.specs.declared.cmp.Ordering.TheVariants.{Less, Equal, Greater}
use Rattle.ikey.specs.declared.internal_key.Kind.{Kind}
use Rattle.ikey.specs.declared.internal_key.Kind.TheVariants.{Delete, Put}
use Rattle.ikey.specs.Entries.{InternalEntry}
use Rattle.ikey.specs.Keys.{Key, key_cmp, tag, tag_of}
use Rattle.ikey.specs.Views.{Among}
use Rattle.cursor.specs.Places.{Cmp, Rises, is_less}
use Rattle.cursor.proofs.Orders.{true_or_false, less_is, is_less_of}
use Rattle.cursor.proofs.Fronts.{among_get, all_among}

-- ---- by index

pub get_among : (list : List InternalEntry) (entry : InternalEntry) → Among list entry → (k : ℕ) × (slice_get list k ≡ Some entry)
get_among [] entry m = absurd m
get_among (x ∷ list) entry (inl e) = (zero, ap Some (sym e))
get_among (x ∷ list) entry (inr m) = let h = get_among list entry m in (suc h.0, h.1)

pub same_get : (list : List InternalEntry) (k : ℕ) (x y : InternalEntry) → slice_get list k ≡ Some x → slice_get list k ≡ Some y → x ≡ y
same_get list k x y e f = let g : Some x ≡ Some y = sym e ∙ f in cc

pub rises_get : (cmp : Cmp) (list : List InternalEntry) (i k : ℕ) (x y : InternalEntry) → Rises cmp list → i < k → slice_get list i ≡ Some x → slice_get list k ≡ Some y → key_cmp cmp x.key y.key ≡ Less
rises_get cmp [] i k x y r less e f = absurd cc
rises_get cmp (z ∷ list) i zero x y r less e f = absurd (omega arith)
rises_get cmp (z ∷ list) zero (suc k) x y r less e f =
    let same : z ≡ x = cc in
    subst (λ (w : InternalEntry). key_cmp cmp w.key y.key ≡ Less) same (all_among (λ (later : InternalEntry). key_cmp cmp z.key later.key ≡ Less) list y r.0 (among_get list k y f))
rises_get cmp (z ∷ list) (suc i) (suc k) x y r less e f = rises_get cmp list i k x y r.1 (omega arith) e f

-- ---- by key

less_at : (o : Ordering) (m n : ℕ) → ordering_then o (nat_cmp n m) ≡ Less → (o ≡ Less) ⊎ ((o ≡ Equal) × (n < m))
less_at Less m n e = inl refl
less_at Equal m n e = inr (refl, ranked n m Less (sym e))
less_at Greater m n e = absurd cc

same_kind_tag : (m n : ℕ) (k l : Kind) → tag n l < tag m k → n ≤ m
same_kind_tag m n Delete Delete h = omega (arith, h)
same_kind_tag m n Delete Put h = omega (arith, h)
same_kind_tag m n Put Delete h = omega (arith, h)
same_kind_tag m n Put Put h = omega (arith, h)

module _ (cmp : Cmp) (total : IsTotalOrder cmp) (exact : IsAntisymmetric cmp) where
  -- of two keys the second has a higher user key, or the same and an older write
  pub before_cases : (k l : Key) → key_cmp cmp k l ≡ Less → (cmp k.user l.user ≡ Less) ⊎ ((k.user ≡ l.user) × (tag_of l < tag_of k))
  before_cases k l e = elim (less_at (cmp k.user l.user) (tag_of k) (tag_of l) e) [
    | inl h ↦ inl h
    | inr h ↦ inr (exact k.user l.user h.0, h.1)
  ]

  pub itself : (a : List ℕ) → cmp a a ≡ Less → ⊥
  itself a e = let t : Equal ≡ Less = sym (tied_itself total a) ∙ e in cc

  pub no_less_itself : (a : List ℕ) → is_less (cmp a a) ≡ false
  no_less_itself a = ap is_less (tied_itself total a)

  -- of one user key, the later entry is no newer
  pub later_older : (k l : Key) → key_cmp cmp k l ≡ Less → k.user ≡ l.user → l.sequence ≤ k.sequence
  later_older k l e same = elim (before_cases k l e) [
    | inl h ↦ absurd (itself l.user (subst (λ (a : List ℕ). cmp a l.user ≡ Less) same h))
    | inr h ↦ same_kind_tag k.sequence l.sequence k.kind l.kind h.1
  ]

  -- a put after a delete is older
  pub put_behind_delete : (k l : Key) → key_cmp cmp k l ≡ Less → k.user ≡ l.user → k.kind ≡ Delete → l.kind ≡ Put → l.sequence < k.sequence
  put_behind_delete k l e same d p = elim (before_cases k l e) [
    | inl h ↦ absurd (itself l.user (subst (λ (a : List ℕ). cmp a l.user ≡ Less) same h))
    | inr h ↦
        let t : tag l.sequence Put < tag k.sequence Delete = subst (λ (x : Kind). tag l.sequence x < tag k.sequence Delete) p (subst (λ (x : Kind). tag l.sequence l.kind < tag k.sequence x) d h.1) in
        omega (arith, t)
  ]

  -- its user key is no lower
  pub later_no_lower : (k l : Key) → key_cmp cmp k l ≡ Less → is_less (cmp l.user k.user) ≡ false
  later_no_lower k l e = elim (true_or_false (is_less (cmp l.user k.user))) [
    | inr f ↦ f
    | inl t ↦ absurd (elim (before_cases k l e) [
      | inl h ↦ itself k.user (total.trans k.user l.user k.user h (less_is (cmp l.user k.user) t))
      | inr h ↦ itself k.user (subst (λ (a : List ℕ). cmp a k.user ≡ Less) (sym h.0) (less_is (cmp l.user k.user) t))
    ])
  ]

  -- two keys that aren't below each other are one
  pub neither_below : (a b : List ℕ) → is_less (cmp a b) ≡ false → is_less (cmp b a) ≡ false → a ≡ b
  neither_below a b p q = by (cmp a b) (cmp b a) refl refl
    where
      by : (o r : Ordering) → cmp a b ≡ o → cmp b a ≡ r → a ≡ b
      by Less r e f = let bad : true ≡ false = sym (ap is_less e) ∙ p in absurd cc
      by Equal r e f = exact a b e
      by Greater Less e f = let bad : true ≡ false = sym (ap is_less f) ∙ q in absurd cc
      by Greater Equal e f = sym (exact b a f)
      by Greater Greater e f = let t : Greater ≡ Less = sym e ∙ (total.antisymm a b ∙ ap ordering_reverse f) in absurd cc

  -- a key that is no lower is the same or higher
  pub no_lower_cases : (a b : List ℕ) → is_less (cmp b a) ≡ false → (a ≡ b) ⊎ (cmp a b ≡ Less)
  no_lower_cases a b q = elim (true_or_false (is_less (cmp a b))) [
    | inl t ↦ inr (less_is (cmp a b) t)
    | inr f ↦ inl (neither_below a b f q)
  ]

  pub no_lower_then : (a b c : List ℕ) → is_less (cmp b a) ≡ false → is_less (cmp c b) ≡ false → is_less (cmp c a) ≡ false
  no_lower_then a b c p q = elim (true_or_false (is_less (cmp c a))) [
    | inr f ↦ f
    | inl t ↦ absurd (elim (no_lower_cases a b p) [
      | inl s ↦ let bad : true ≡ false = sym t ∙ (ap (λ (x : List ℕ). is_less (cmp c x)) s ∙ q) in cc
      | inr l ↦ let u = total.trans c a b (less_is (cmp c a) t) l in let bad : true ≡ false = sym (is_less_of (cmp c b) u) ∙ q in cc
    ])
  ]

  pub less_or_not : (a b : List ℕ) → cmp a b ≡ Less → is_less (cmp b a) ≡ false
  less_or_not a b e = elim (true_or_false (is_less (cmp b a))) [
    | inr f ↦ f
    | inl t ↦ absurd (itself a (total.trans a b a e (less_is (cmp b a) t)))
  ]
