-- When one key stands below another.
use Rattle.std.specs.Prelude.{◌≡◌, ◌<◌, ◌^◌, ℕ, List, [], ◌++◌, length}
use Rattle.std.proofs.Common.{refl, sym, ap, ◌∙◌, arith, subst}
use Rattle.std.specs.declared.cmp.Ordering.{Ordering}
use Rattle.std.specs.declared.cmp.Ordering.TheVariants.{Less, Equal, Greater}
use Rattle.std.specs.Ordering.{nat_cmp}
use Rattle.std.specs.Cmp.{IsTotalOrder, tied_itself, then_total, on_total, back_total, nat_cmp_total}
use Rattle.std.specs.Cmp.Lexicographic.{slice_cmp, nat_list_cmp_total}
use Rattle.std.proofs.lemmas.List.{length-append}
use Rattle.coding.specs.Fixed.{fixed64}
use Rattle.coding.proofs.Fronts.{same_front, fixed64_front}
use Rattle.ikey.specs.declared.internal_key.Kind.{Kind}
use Rattle.ikey.specs.declared.internal_key.Kind.TheVariants.{Delete, Put}
use Rattle.ikey.specs.Keys.{Key, IsKey, key_cmp, tag, tag_of}

-- ---- plain byte strings

abbrev pub IsBelowPlain : List ℕ → List ℕ → Type 0
IsBelowPlain a b = slice_cmp nat_cmp a b ≡ Less

pub plain_transitive : (a b c : List ℕ) → IsBelowPlain a b → IsBelowPlain b c → IsBelowPlain a c
plain_transitive = nat_list_cmp_total.trans

not_below : (cmp : List ℕ → List ℕ → Ordering) → IsTotalOrder cmp → (a : List ℕ) → cmp a a ≡ Less → ⊥
not_below cmp o a e = let t : Equal ≡ Less = sym (tied_itself o a) ∙ e in cc

pub plain_irreflexive : (a : List ℕ) → IsBelowPlain a a → ⊥
plain_irreflexive a e = not_below (slice_cmp nat_cmp) nat_list_cmp_total a e

-- ---- internal keys

-- both are internal keys, and the first comes before the second
abbrev pub IsBelowInternal : (List ℕ → List ℕ → Ordering) → List ℕ → List ℕ → Type 0
IsBelowInternal cmp a b = (k l : Key) × IsKey a k × IsKey b l × (key_cmp cmp k l ≡ Less)

pub key_total : (cmp : List ℕ → List ℕ → Ordering) → IsTotalOrder cmp → IsTotalOrder (key_cmp cmp)
key_total cmp o = then_total (on_total (λ (k : Key). k.user) o) (back_total (on_total tag_of nat_cmp_total))

same_tag : (m n : ℕ) (k l : Kind) → tag m k ≡ tag n l → (m ≡ n) × (k ≡ l)
same_tag m n Delete Delete e = (omega (arith, e), refl)
same_tag m n Put Put e = (omega (arith, e), refl)
same_tag m n Delete Put e = absurd (omega (arith, e))
same_tag m n Put Delete e = absurd (omega (arith, e))

tag_fits : (m : ℕ) (k : Kind) → m < 2 ^ 56 → tag m k < 2 ^ 64
tag_fits m Delete h = omega (arith, h)
tag_fits m Put h = omega (arith, h)

pub same_key : (bytes : List ℕ) (k l : Key) → IsKey bytes k → IsKey bytes l → k ≡ l
same_key bytes k l h j =
    let whole : k.user ++ fixed64 (tag_of k) ≡ l.user ++ fixed64 (tag_of l) = sym h.parts ∙ j.parts in
    let long : length k.user ≡ length l.user = omega (arith, ap length whole, length-append k.user (fixed64 (tag_of k)), length-append l.user (fixed64 (tag_of l))) in
    let s = same_front k.user l.user (fixed64 (tag_of k)) (fixed64 (tag_of l)) long whole in
    let t = fixed64_front (tag_of k) (tag_of l) [] [] (tag_fits k.sequence k.kind h.sequence_fits) (tag_fits l.sequence l.kind j.sequence_fits) (ap (λ (v : List ℕ). v ++ []) s.1) in
    let parts = same_tag k.sequence l.sequence k.kind l.kind t.0 in
    λ i. record { user = s.0 i; sequence = parts.0 i; kind = parts.1 i }

pub internal_transitive : (cmp : List ℕ → List ℕ → Ordering) → IsTotalOrder cmp → (a b c : List ℕ) → IsBelowInternal cmp a b → IsBelowInternal cmp b c → IsBelowInternal cmp a c
internal_transitive cmp o a b c p q =
    let same : q.0 ≡ p.1 = same_key b q.0 p.1 q.2 p.3 in
    (p.0, q.1, p.2, q.3, (key_total cmp o).trans p.0 p.1 q.1 p.4 (subst (λ (k : Key). key_cmp cmp k q.1 ≡ Less) same q.4))

pub internal_irreflexive : (cmp : List ℕ → List ℕ → Ordering) → IsTotalOrder cmp → (a : List ℕ) → IsBelowInternal cmp a a → ⊥
internal_irreflexive cmp o a p =
    let same : p.1 ≡ p.0 = same_key a p.1 p.0 p.3 p.2 in
    let t : Equal ≡ Less = sym (tied_itself (key_total cmp o) p.0) ∙ subst (λ (k : Key). key_cmp cmp p.0 k ≡ Less) same p.4 in
    cc

-- what a comparison that isn't `Less` says
not_below_internal : (cmp : List ℕ → List ℕ → Ordering) (a b : List ℕ) (order : Ordering) → ((k l : Key) × IsKey a k × IsKey b l × (order ≡ key_cmp cmp k l)) → (order ≡ Less → ⊥) → IsBelowInternal cmp a b → ⊥
not_below_internal cmp a b order p other q =
    let left : p.0 ≡ q.0 = same_key a p.0 q.0 p.2 q.2 in
    let right : p.1 ≡ q.1 = same_key b p.1 q.1 p.3 q.3 in
    other (p.4 ∙ (λ i. key_cmp cmp (left i) (right i)) ∙ q.4)

pub not_below_equal : (cmp : List ℕ → List ℕ → Ordering) (a b : List ℕ) → ((k l : Key) × IsKey a k × IsKey b l × (Equal ≡ key_cmp cmp k l)) → IsBelowInternal cmp a b → ⊥
not_below_equal cmp a b p = not_below_internal cmp a b Equal p (λ e. cc)

pub not_below_greater : (cmp : List ℕ → List ℕ → Ordering) (a b : List ℕ) → ((k l : Key) × IsKey a k × IsKey b l × (Greater ≡ key_cmp cmp k l)) → IsBelowInternal cmp a b → ⊥
not_below_greater cmp a b p = not_below_internal cmp a b Greater p (λ e. cc)
