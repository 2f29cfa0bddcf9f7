-- Sorted lists that share no key have a union.
use Rattle.std.proofs.Common.{◌≡◌, ◌⊎◌, ℕ, zero, suc, List, [], ◌∷◌, Some, refl, sym, ap, ◌∙◌, subst, arith, inl, inr}
use Rattle.std.specs.List.{slice_get, AllByRecursion}
use Rattle.std.specs.FinMap.{IsAntisymmetric}
use Rattle.std.specs.Ordering.{nat_cmp, ordering_then, ordering_reverse}
use Rattle.std.specs.Cmp.{IsTotalOrder, ranked}
use Rattle.std.specs.declared.cmp.Ordering.{Ordering}
use Rattle.std.specs.declared.cmp.Ordering.TheVariants.{Less, Equal, Greater}
use Rattle.ikey.specs.declared.internal_key.Kind.{Kind}
use Rattle.ikey.specs.declared.internal_key.Kind.TheVariants.{Delete, Put}
use Rattle.ikey.specs.Below.{key_total}
use Rattle.ikey.specs.Entries.{InternalEntry}
use Rattle.ikey.specs.Keys.{Key, key_cmp, tag, tag_of}
use Rattle.ikey.specs.Views.{Among}
use Rattle.cursor.specs.Places.{Cmp, Rises}
use Rattle.cursor.specs.Merging.{IsUnion}
use Rattle.cursor.proofs.Orders.{never_below_itself}
use Rattle.cursor.proofs.Fronts.{all_among}

-- ---- equal keys

both_equal : (o : Ordering) (m n : ℕ) → ordering_then o (nat_cmp n m) ≡ Equal → (o ≡ Equal) × (n ≡ m)
both_equal Less m n e = absurd cc
both_equal Equal m n e = (refl, ranked n m Equal (sym e))
both_equal Greater m n e = absurd cc

tag_is : (m n : ℕ) (k l : Kind) → tag m k ≡ tag n l → (m ≡ n) × (k ≡ l)
tag_is m n Delete Delete e = (omega (arith, e), refl)
tag_is m n Put Put e = (omega (arith, e), refl)
tag_is m n Delete Put e = absurd (omega (arith, e))
tag_is m n Put Delete e = absurd (omega (arith, e))

-- every entry of a list passes, one by one
all_here : (P : InternalEntry → Type 0) (list : List InternalEntry) → ((entry : InternalEntry) → Among list entry → P entry) → AllByRecursion P list
all_here P [] h = tt
all_here P (x ∷ list) h = (h x (inl refl), all_here P list (λ entry m. h entry (inr m)))

-- a sorted list that has the entries of another and one more, or all those of two
record HasMore (cmp : Cmp) (x : InternalEntry) (list new : List InternalEntry) : Type 0 where
  rises : Rises cmp new
  has : Among new x
  keeps : (entry : InternalEntry) → Among list entry → Among new entry
  only : (entry : InternalEntry) → Among new entry → (entry ≡ x) ⊎ Among list entry

record HasBoth (cmp : Cmp) (first second new : List InternalEntry) : Type 0 where
  rises : Rises cmp new
  from_first : (entry : InternalEntry) → Among first entry → Among new entry
  from_second : (entry : InternalEntry) → Among second entry → Among new entry
  only : (entry : InternalEntry) → Among new entry → Among first entry ⊎ Among second entry

module _ (cmp : Cmp) (total : IsTotalOrder cmp) (exact : IsAntisymmetric cmp) where
  same_key : (k l : Key) → key_cmp cmp k l ≡ Equal → k ≡ l
  same_key k l e =
      let h = both_equal (cmp k.user l.user) (tag_of k) (tag_of l) e in
      let t = tag_is l.sequence k.sequence l.kind k.kind h.1 in
      let user = exact k.user l.user h.0 in
      λ i. record { user = user i; sequence = sym t.0 i; kind = sym t.1 i }

  -- ---- an entry more

  in_front : (x y : InternalEntry) (list : List InternalEntry) → Rises cmp (y ∷ list) → key_cmp cmp x.key y.key ≡ Less → HasMore cmp x (y ∷ list) (x ∷ y ∷ list)
  in_front x y list r less = record {
    rises = (
      all_here (λ (later : InternalEntry). key_cmp cmp x.key later.key ≡ Less) (y ∷ list) (λ entry m. elim m [
        | inl e ↦ subst (λ (z : InternalEntry). key_cmp cmp x.key z.key ≡ Less) (sym e) less
        | inr n ↦ (key_total cmp total).trans x.key y.key entry.key less (all_among (λ (later : InternalEntry). key_cmp cmp y.key later.key ≡ Less) list entry r.0 n)
      ]),
      r,
    );
    has = inl refl;
    keeps = λ entry m. inr m;
    only = λ entry m. m;
  }

  further : (x y : InternalEntry) (list new : List InternalEntry) → Rises cmp (y ∷ list) → key_cmp cmp y.key x.key ≡ Less → HasMore cmp x list new → HasMore cmp x (y ∷ list) (y ∷ new)
  further x y list new r less h = record {
    rises = (
      all_here (λ (later : InternalEntry). key_cmp cmp y.key later.key ≡ Less) new (λ entry m. elim (h.only entry m) [
        | inl e ↦ subst (λ (z : InternalEntry). key_cmp cmp y.key z.key ≡ Less) (sym e) less
        | inr n ↦ all_among (λ (later : InternalEntry). key_cmp cmp y.key later.key ≡ Less) list entry r.0 n
      ]),
      h.rises,
    );
    has = inr h.has;
    keeps = λ entry m. elim m [ inl e ↦ inl e | inr n ↦ inr (h.keeps entry n) ];
    only = λ entry m. elim m [
      | inl e ↦ inr (inl e)
      | inr n ↦ elim (h.only entry n) [ inl e ↦ inl e | inr o ↦ inr (inr o) ]
    ];
  }

  one_more : (x : InternalEntry) (list : List InternalEntry) → Rises cmp list → ((entry : InternalEntry) → Among list entry → x.key ≡ entry.key → ⊥) → (new : List InternalEntry) × HasMore cmp x list new
  one_more x [] r apart = (x ∷ [], record { rises = (tt, tt); has = inl refl; keeps = λ entry m. absurd m; only = λ entry m. m })
  one_more x (y ∷ list) r apart =
      let rest = one_more x list r.1 (λ entry m. apart entry (inr m)) in
      by rest.0 rest.1 (key_cmp cmp x.key y.key) refl
    where
      by : (more : List InternalEntry) → HasMore cmp x list more → (o : Ordering) → key_cmp cmp x.key y.key ≡ o → (new : List InternalEntry) × HasMore cmp x (y ∷ list) new
      by more h Less e = (x ∷ y ∷ list, in_front x y list r e)
      by more h Equal e = absurd (apart y (inl refl) (same_key x.key y.key e))
      by more h Greater e = (y ∷ more, further x y list more r ((key_total cmp total).antisymm y.key x.key ∙ ap ordering_reverse e) h)

  -- ---- two lists

  both : (first second : List InternalEntry) → Rises cmp first → Rises cmp second → ((entry twin : InternalEntry) → Among first entry → Among second twin → entry.key ≡ twin.key → ⊥)
      → (new : List InternalEntry) × HasBoth cmp first second new
  both [] second r q apart = (second, record { rises = q; from_first = λ entry m. absurd m; from_second = λ entry m. m; only = λ entry m. inr m })
  both (x ∷ first) second r q apart =
      let rest = both first second r.1 q (λ entry twin m n. apart entry twin (inr m) n) in
      let more = one_more x rest.0 rest.1.rises (λ entry m same. elim (rest.1.only entry m) [
        | inl n ↦ never_below_itself cmp total entry.key (subst (λ (k : Key). key_cmp cmp k entry.key ≡ Less) same (all_among (λ (later : InternalEntry). key_cmp cmp x.key later.key ≡ Less) first entry r.0 n))
        | inr n ↦ apart x entry (inl refl) n same
      ]) in (
        more.0,
        record {
          rises = more.1.rises;
          from_first = λ entry m. elim m [ inl e ↦ subst (Among more.0) (sym e) more.1.has | inr n ↦ more.1.keeps entry (rest.1.from_first entry n) ];
          from_second = λ entry m. more.1.keeps entry (rest.1.from_second entry m);
          only = λ entry m. elim (more.1.only entry m) [
            | inl e ↦ inl (inl e)
            | inr n ↦ elim (rest.1.only entry n) [ inl o ↦ inl (inr o) | inr o ↦ inr o ]
          ];
        },
      )

  -- ---- all lists

  cover : (first : List InternalEntry) (all : List (List InternalEntry)) (union : List InternalEntry) → ((entry : InternalEntry) → Among first entry → Among union entry)
      → ((i : ℕ) (list : List InternalEntry) (entry : InternalEntry) → slice_get all i ≡ Some list → Among list entry → Among union entry)
      → (i : ℕ) (list : List InternalEntry) (entry : InternalEntry) → slice_get (first ∷ all) i ≡ Some list → Among list entry → Among union entry
  cover first all union here there zero list entry li m = let s : first ≡ list = cc in here entry (subst (λ (l : List InternalEntry). Among l entry) (sym s) m)
  cover first all union here there (suc i) list entry li m = there i list entry li m

  pub has_union : (all : List (List InternalEntry)) → ((i : ℕ) (list : List InternalEntry) → slice_get all i ≡ Some list → Rises cmp list)
      → ((i j : ℕ) (list other : List InternalEntry) (entry twin : InternalEntry) → slice_get all i ≡ Some list → slice_get all j ≡ Some other → Among list entry → Among other twin → entry.key ≡ twin.key → i ≡ j)
      → (union : List InternalEntry) × IsUnion cmp all union
  has_union [] rise apart = (
    [],
    record {
      rises = tt;
      each_rises = rise;
      found = λ entry m. absurd m;
      covers = λ i list entry li m. absurd cc;
      apart = apart;
    },
  )
  has_union (first ∷ all) rise apart =
      let rest = has_union all (λ i list li. rise (suc i) list li)
      (λ i j list other entry twin li lj m n same. let s : suc i ≡ suc j = apart (suc i) (suc j) list other entry twin li lj m n same in omega (arith, s)) in
      let h = both first rest.0 (rise zero first refl) rest.1.rises (λ entry twin m n same.
      let place = rest.1.found twin n in
      let s : zero ≡ suc place.0 = apart zero (suc place.0) first place.1 entry twin refl place.2 m place.3 same in omega (arith, s)) in (
        h.0,
        record {
          rises = h.1.rises;
          each_rises = rise;
          found = λ entry m. elim (h.1.only entry m) [
            | inl n ↦ (zero, first, refl, n)
            | inr n ↦ let place = rest.1.found entry n in (suc place.0, place.1, place.2, place.3)
          ];
          covers = cover first all h.0 h.1.from_first (λ i list entry li m. h.1.from_second entry (rest.1.covers i list entry li m));
          apart = apart;
        },
      )
