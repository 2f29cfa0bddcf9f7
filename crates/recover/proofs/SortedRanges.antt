-- Of ranges in a row that are sorted by level and smallest key, neighbours tell of each two.
use Rattle.std.proofs.Common.{◌≡◌, ◌⊎◌, inl, inr, ℕ, zero, suc, ◌<◌, ◌≤◌, ◌+◌, ◌-◌, Bool, true, false, MatchBool, List, [], ◌∷◌, length, get_or, set, swap, refl, sym, ap, ◌∙◌, subst, arith, IsPermutation, All, IsSortedBy}
use Rattle.std.proofs.lemmas.Bool.{cases_lt, cases_eq}
use Rattle.std.proofs.lemmas.List.{length-set, get_or-set_same, get_or-set_other}
use Rattle.std.proofs.lemmas.List.Edits.{swap_is}
use Rattle.std.proofs.lemmas.List.Sorted.{IsPermutation-keeps, IsPermutation-sym, All-permutation, sorted_far, ranks_by}
use Rattle.std.proofs.lemmas.List.Elements.{All-from_recursion, recursion_from_All}
use Rattle.std.specs.List.{AllByRecursion, AllAdjacentBelow}
use Rattle.std.specs.Cmp.{IsTotalOrder, IsStrictWeakOrder, tied_itself, then_total, on_total, back_total, nat_cmp_total, nat_cmp_is}
use Rattle.std.specs.Ordering.{nat_cmp, is_lt, ordering_then}
use Rattle.std.specs.declared.cmp.Ordering.{Ordering}
use Rattle.std.specs.declared.cmp.Ordering.TheVariants.{Less, Equal}
use Rattle.ikey.specs.Orders.{Order}
use Rattle.ikey.specs.Keys.{Key, IsKey}
use Rattle.ikey.specs.KeyViews.{key_of}
use Rattle.ikey.specs.Below.{same_key}
use Rattle.edits.specs.declared.field.PlacedTable.{PlacedTable}
use Rattle.recover.specs.Ranges.{IsKeyBefore, IsBeforeInternal, HasRange, RangesDoNotOverlap, HaveRanges}
use Rattle.recover.specs.internal.RangeOrder.{IsRangeOf, AreRangesOf, EndsBefore, range_cmp}
use Rattle.recover.specs.declared.ranges.KeyRange.{KeyRange}

-- ---- each two of a list, in whichever order it stands

module _ {X : Type 0} (R : X → X → Type 0) where
  abbrev EachTwo : List X → Type 0
  EachTwo xs = (i j : ℕ) (d : X) → (i ≡ j → ⊥) → i < length xs → j < length xs → R (get_or xs i d) (get_or xs j d)

  -- where the element at k of the swapped list stood
  abbrev StoodAt : ℕ → ℕ → ℕ → ℕ → Type 0
  StoodAt i j k m = ((k ≡ j) × (m ≡ i)) ⊎ ((k ≡ j → ⊥) × (((k ≡ i) × (m ≡ j)) ⊎ ((k ≡ i → ⊥) × (m ≡ k))))

  stood : (xs : List X) (i j k : ℕ) (d : X) → i < length xs → j < length xs → k < length xs
      → (m : ℕ) × (m < length xs) × (get_or (swap xs i j) k d ≡ get_or xs m d) × StoodAt i j k m
  stood xs i j k d p q r =
      let ys = set xs i (get_or xs j d) in
      let long = length-set xs i (get_or xs j d) in
      let is : set ys j (get_or xs i d) ≡ swap xs i j = swap_is xs i j d p q in
      let at : (n : ℕ) → get_or (swap xs i j) n d ≡ get_or (set ys j (get_or xs i d)) n d = λ n. ap (λ l. get_or l n d) (sym is) in
      elim (cases_eq k j) [
        | inl e ↦ (i, p, at k ∙ ap (λ n. get_or (set ys j (get_or xs i d)) n d) e ∙ get_or-set_same ys j (get_or xs i d) d (omega (arith, long, q)), inl (e, refl))
        | inr other ↦ elim (cases_eq k i) [
          | inl e ↦ (j, q, at k ∙ get_or-set_other ys j k (get_or xs i d) d other ∙ ap (λ n. get_or ys n d) e ∙ get_or-set_same xs i (get_or xs j d) d p, inr (other, inl (e, refl)))
          | inr none ↦ (k, r, at k ∙ get_or-set_other ys j k (get_or xs i d) d other ∙ get_or-set_other xs i k (get_or xs j d) d none, inr (other, inr (none, refl)))
        ]
      ]

  stood_apart : (i j k l m n : ℕ) → (k ≡ l → ⊥) → StoodAt i j k m → StoodAt i j l n → m ≡ n → ⊥
  stood_apart i j k l m n other (inl x) (inl y) e = other (omega (arith, x.0, y.0))
  stood_apart i j k l m n other (inl x) (inr (p, inl y)) e = p (omega (arith, x.0, x.1, y.0, y.1, e))
  stood_apart i j k l m n other (inl x) (inr (p, inr y)) e = y.0 (omega (arith, x.0, x.1, y.1, e))
  stood_apart i j k l m n other (inr (p, inl x)) (inl y) e = p (omega (arith, x.0, x.1, y.0, y.1, e))
  stood_apart i j k l m n other (inr (p, inl x)) (inr (q, inl y)) e = other (omega (arith, x.0, y.0))
  stood_apart i j k l m n other (inr (p, inl x)) (inr (q, inr y)) e = q (omega (arith, x.1, y.1, e))
  stood_apart i j k l m n other (inr (p, inr x)) (inl y) e = x.0 (omega (arith, x.1, y.1, e))
  stood_apart i j k l m n other (inr (p, inr x)) (inr (q, inl y)) e = p (omega (arith, x.1, y.1, e))
  stood_apart i j k l m n other (inr (p, inr x)) (inr (q, inr y)) e = other (omega (arith, x.1, y.1, e))

  two_swapped : (xs : List X) (i j : ℕ) → i < length xs → j < length xs → EachTwo xs → EachTwo (swap xs i j)
  two_swapped xs i j p q two k l d other r s =
      let long : length (swap xs i j) ≡ length xs =
      ap length (sym (swap_is xs i j d p q)) ∙ length-set (set xs i (get_or xs j d)) j (get_or xs i d) ∙ length-set xs i (get_or xs j d) in
      let a = stood xs i j k d p q (omega (arith, r, long)) in
      let b = stood xs i j l d p q (omega (arith, s, long)) in
      let T : X → Type 0 = λ x. R x (get_or (swap xs i j) l d) in
      let U : X → Type 0 = λ y. R (get_or xs a.0 d) y in
      subst T (sym a.2) (subst U (sym b.2) (two a.0 b.0 d (stood_apart i j k l a.0 b.0 other a.3 b.3) a.1 b.1))

  two_permuted : (xs ys : List X) → IsPermutation xs ys → EachTwo xs → EachTwo ys
  two_permuted xs ys same two = IsPermutation-keeps xs EachTwo two two_swapped ys same

  -- ---- the same by recursion

  abbrev ForTwo : List X → Type 0
  ForTwo [] = Unit {0}
  ForTwo (x ∷ xs) = AllByRecursion (R x) xs × ForTwo xs

  two_at : (xs : List X) (i j : ℕ) (d : X) → ForTwo xs → i < j → j < length xs → R (get_or xs i d) (get_or xs j d)
  two_at [] i j d h lt le = absurd (omega (arith, le))
  two_at (x ∷ xs) zero zero d h lt le = absurd (omega (arith, lt))
  two_at (x ∷ xs) zero (suc j) d h lt le = All-from_recursion (R x) xs h.0 j d (omega (arith, le))
  two_at (x ∷ xs) (suc i) zero d h lt le = absurd (omega (arith, lt))
  two_at (x ∷ xs) (suc i) (suc j) d h lt le = two_at xs i j d h.1 (omega (arith, lt)) (omega (arith, le))

  each_two : ((a b : X) → R a b → R b a) → (xs : List X) → ForTwo xs → EachTwo xs
  each_two turn xs h i j d other p q = elim (cases_lt i j) [
    | inl lt ↦ two_at xs i j d h lt q
    | inr ge ↦ turn (get_or xs j d) (get_or xs i d) (two_at xs j i d h (omega (arith, ge, other)) p)
  ]

  for_two : (xs : List X) → EachTwo xs → ForTwo xs
  for_two [] h = tt
  for_two (x ∷ xs) h = (
    recursion_from_All (R x) xs (λ k d lt. h 0 (suc k) d (λ e. omega (arith, e)) (omega arith) (omega (arith, lt))),
    for_two xs (λ i j d other p q. h (suc i) (suc j) d (λ e. other (omega (arith, e))) (omega (arith, p)) (omega (arith, q))),
  )

-- ---- keys

module _ (order : Order) (total : IsTotalOrder order.cmp) where
  key_transitive : (j k l : Key) → IsKeyBefore order j k → IsKeyBefore order k l → IsKeyBefore order j l
  key_transitive j k l (inl p) (inl q) = inl (total.trans j.user k.user l.user p q)
  key_transitive j k l (inl p) (inr q) = inl (ap (order.cmp j.user) (sym q.0) ∙ p)
  key_transitive j k l (inr p) (inl q) = inl (ap (λ u. order.cmp u l.user) p.0 ∙ q)
  key_transitive j k l (inr p) (inr q) = inr (p.0 ∙ q.0, omega (arith, p.1, q.1))

  -- ---- ranges

  abbrev InOrder : KeyRange → Type 0
  InOrder r = (key_of r.smallest ≡ key_of r.largest) ⊎ IsKeyBefore order (key_of r.smallest) (key_of r.largest)

  abbrev Apart : KeyRange → KeyRange → Type 0
  Apart a b = a.level ≡ b.level → 0 < a.level → IsKeyBefore order (key_of a.largest) (key_of b.smallest) ⊎ IsKeyBefore order (key_of b.largest) (key_of a.smallest)

  turned : (a b : KeyRange) → Apart a b → Apart b a
  turned a b apart e deep = elim (apart (sym e) (omega (arith, e, deep))) [ inl x ↦ inr x | inr y ↦ inl y ]

  abbrev less : KeyRange → KeyRange → Bool
  less a b = is_lt (range_cmp order.cmp a b)

  range_total : IsTotalOrder (range_cmp order.cmp)
  range_total = then_total (on_total (λ (r : KeyRange). r.level) nat_cmp_total) (then_total (on_total (λ (r : KeyRange). r.smallest.user.now) total) (back_total (on_total (λ (r : KeyRange). r.smallest.sequence) nat_cmp_total)))

  pub is_lawful : IsStrictWeakOrder less
  is_lawful = ranks_by range_total (λ (r : KeyRange). r)

  lower_level : (a b : KeyRange) → a.level < b.level → less a b ≡ true
  lower_level a b lt =
      let rest = ordering_then (order.cmp a.smallest.user.now b.smallest.user.now) (nat_cmp b.smallest.sequence a.smallest.sequence) in
      ap (λ (x : Ordering). is_lt (ordering_then x rest)) (sym (nat_cmp_is a.level b.level Less lt))

  lower_key : (a b : KeyRange) → a.level ≡ b.level → IsKeyBefore order (key_of a.smallest) (key_of b.smallest) → less a b ≡ true
  lower_key a b e before =
      let rest = ordering_then (order.cmp a.smallest.user.now b.smallest.user.now) (nat_cmp b.smallest.sequence a.smallest.sequence) in
      ap (λ (x : Ordering). is_lt (ordering_then x rest)) (sym (nat_cmp_is a.level b.level Equal e)) ∙ ap is_lt (by before)
    where
      by : IsKeyBefore order (key_of a.smallest) (key_of b.smallest) → ordering_then (order.cmp a.smallest.user.now b.smallest.user.now) (nat_cmp b.smallest.sequence a.smallest.sequence) ≡ Less
      by (inl x) = ap (λ (o : Ordering). ordering_then o (nat_cmp b.smallest.sequence a.smallest.sequence)) x
      by (inr x) =
          ap (λ (o : Ordering). ordering_then o (nat_cmp b.smallest.sequence a.smallest.sequence)) (ap (λ u. order.cmp u b.smallest.user.now) x.0 ∙ tied_itself total b.smallest.user.now)
          ∙ sym (nat_cmp_is b.smallest.sequence a.smallest.sequence Less x.1)

  level_of : (a b : KeyRange) → less b a ≡ false → a.level ≤ b.level
  level_of a b sorted = elim (cases_lt b.level a.level) [
    | inl lt ↦ (let t : false ≡ true = sym sorted ∙ lower_level b a lt in absurd cc)
    | inr ge ↦ omega (arith, ge)
  ]

  -- of two that are sorted only the first can end before the other begins
  first_ends : (a b : KeyRange) → less b a ≡ false → InOrder b → Apart a b → EndsBefore order a b
  first_ends a b sorted range apart e deep = elim (apart e deep) [
    | inl before ↦ before
    | inr behind ↦ (let t : false ≡ true = sym sorted ∙ lower_key b a (sym e) (begins range behind) in absurd cc)
  ]
    where
      begins : InOrder b → IsKeyBefore order (key_of b.largest) (key_of a.smallest) → IsKeyBefore order (key_of b.smallest) (key_of a.smallest)
      begins (inl one) behind = subst (λ (k : Key). IsKeyBefore order k (key_of a.smallest)) (sym one) behind
      begins (inr before) behind = key_transitive (key_of b.smallest) (key_of b.largest) (key_of a.smallest) before behind

  ends_further : (a b c : KeyRange) → a.level ≤ b.level → b.level ≤ c.level → InOrder b → EndsBefore order a b → EndsBefore order b c → EndsBefore order a c
  ends_further a b c p q range first second e deep =
      let before = first (omega (arith, p, q, e)) deep in
      let behind = second (omega (arith, p, q, e)) (omega (arith, p, deep)) in
      elim range [
        | inl one ↦ key_transitive (key_of a.largest) (key_of b.smallest) (key_of c.smallest) before (subst (λ (k : Key). IsKeyBefore order k (key_of c.smallest)) (sym one) behind)
        | inr inside ↦ key_transitive (key_of a.largest) (key_of b.smallest) (key_of c.smallest) before (key_transitive (key_of b.smallest) (key_of b.largest) (key_of c.smallest) inside behind)
      ]

  -- ---- a sorted row

  module _ (sorted : List KeyRange) (in_order : IsSortedBy less sorted) (ranges : All InOrder sorted) where
    rises : (i j : ℕ) (d : KeyRange) → i ≤ j → j < length sorted → (get_or sorted i d).level ≤ (get_or sorted j d).level
    rises i j d le lt = level_of (get_or sorted i d) (get_or sorted j d) (sorted_far less is_lawful sorted in_order i j d le lt)

    far : AllAdjacentBelow (EndsBefore order) sorted (length sorted) → (i m : ℕ) (d : KeyRange) → i + m + 1 < length sorted → EndsBefore order (get_or sorted i d) (get_or sorted (i + m + 1) d)
    far next i zero d lt = (let e : i + 1 ≡ i + zero + 1 = omega arith in subst (λ k. EndsBefore order (get_or sorted i d) (get_or sorted k d)) e (next i d (omega (arith, lt))))
    far next i (suc m) d lt =
        let e : i + m + 1 + 1 ≡ i + suc m + 1 = omega arith in
        let k = i + m + 1 in
        subst (λ n. EndsBefore order (get_or sorted i d) (get_or sorted n d)) e
        (ends_further (get_or sorted i d) (get_or sorted k d) (get_or sorted (k + 1) d) (rises i k d (omega arith) (omega (arith, lt))) (rises k (k + 1) d (omega arith) (omega (arith, lt)))
        (ranges k d (omega (arith, lt))) (far next i m d (omega (arith, lt))) (next k d (omega (arith, lt))))

    far_apart : AllAdjacentBelow (EndsBefore order) sorted (length sorted) → (i j : ℕ) (d : KeyRange) → i < j → j < length sorted → Apart (get_or sorted i d) (get_or sorted j d)
    far_apart next i j d lt below e deep =
        let same : i + (j - i - 1) + 1 ≡ j = omega (arith, lt) in
        inl (subst (λ k. EndsBefore order (get_or sorted i d) (get_or sorted k d)) same (far next i (j - i - 1) d (omega (arith, lt, below))) e deep)

    two_from_next : AllAdjacentBelow (EndsBefore order) sorted (length sorted) → EachTwo Apart sorted
    two_from_next next i j d other p q = elim (cases_lt i j) [
      | inl lt ↦ far_apart next i j d lt q
      | inr ge ↦ turned (get_or sorted j d) (get_or sorted i d) (far_apart next j i d (omega (arith, ge, other)) p)
    ]

    next_from_two : EachTwo Apart sorted → AllAdjacentBelow (EndsBefore order) sorted (length sorted)
    next_from_two two k d lt =
        first_ends (get_or sorted k d) (get_or sorted (k + 1) d) (in_order k d (omega arith) lt) (ranges (k + 1) d lt)
        (two k (k + 1) d (λ e. omega (arith, e)) (omega (arith, lt)) lt)

  -- ---- the tables

  before_keys : (a b : List ℕ) (k l : Key) → IsKey a k → IsKey b l → IsBeforeInternal order a b → IsKeyBefore order k l
  before_keys a b k l p q before =
      let first : before.0 ≡ k = same_key a before.0 k before.2 p in
      let second : before.1 ≡ l = same_key b before.1 l before.3 q in
      let P : Key → Type 0 = λ x. IsKeyBefore order x before.1 in
      let Q : Key → Type 0 = λ y. IsKeyBefore order k y in
      subst Q second (subst P first before.4)

  in_order_of : (placed : PlacedTable) (range : KeyRange) → IsRangeOf order placed range → InOrder range
  in_order_of placed range h = by h.3
    where
      by : HasRange order placed.table → InOrder range
      by (inl one) = inl (same_key placed.table.largest (key_of range.smallest) (key_of range.largest) (subst (λ bytes. IsKey bytes (key_of range.smallest)) one.2 h.1) h.2)
      by (inr before) = inr (before_keys placed.table.smallest placed.table.largest (key_of range.smallest) (key_of range.largest) h.1 h.2 before)

  apart_of : (p q : PlacedTable) (r s : KeyRange) → IsRangeOf order p r → IsRangeOf order q s → RangesDoNotOverlap order p q → Apart r s
  apart_of p q r s h k apart e deep = elim (apart (sym h.0 ∙ e ∙ k.0) (omega (arith, deep, h.0))) [
    | inl before ↦ inl (before_keys p.table.largest q.table.smallest (key_of r.largest) (key_of s.smallest) h.2 k.1 before)
    | inr behind ↦ inr (before_keys q.table.largest p.table.smallest (key_of s.largest) (key_of r.smallest) k.2 h.1 behind)
  ]

  tables_apart : (p q : PlacedTable) (r s : KeyRange) → IsRangeOf order p r → IsRangeOf order q s → Apart r s → RangesDoNotOverlap order p q
  tables_apart p q r s h k apart e deep = elim (apart (h.0 ∙ e ∙ sym k.0) (omega (arith, deep, h.0))) [
    | inl before ↦ inl (key_of r.largest, key_of s.smallest, h.2, k.1, before)
    | inr behind ↦ inr (key_of s.largest, key_of r.smallest, k.2, h.1, behind)
  ]

  ranges_in_order : (tables : List PlacedTable) (ranges : List KeyRange) → AreRangesOf order tables ranges → AllByRecursion InOrder ranges
  ranges_in_order [] [] h = tt
  ranges_in_order [] (r ∷ ranges) h = absurd h
  ranges_in_order (p ∷ tables) [] h = absurd h
  ranges_in_order (p ∷ tables) (r ∷ ranges) h = (in_order_of p r h.0, ranges_in_order tables ranges h.1)

  all_apart : (p : PlacedTable) (r : KeyRange) (tables : List PlacedTable) (ranges : List KeyRange) → IsRangeOf order p r → AreRangesOf order tables ranges
      → AllByRecursion (RangesDoNotOverlap order p) tables → AllByRecursion (Apart r) ranges
  all_apart p r [] [] here h g = tt
  all_apart p r [] (s ∷ ranges) here h g = absurd h
  all_apart p r (q ∷ tables) [] here h g = absurd h
  all_apart p r (q ∷ tables) (s ∷ ranges) here h g = (apart_of p q r s here h.0 g.0, all_apart p r tables ranges here h.1 g.1)

  none_overlap : (p : PlacedTable) (r : KeyRange) (tables : List PlacedTable) (ranges : List KeyRange) → IsRangeOf order p r → AreRangesOf order tables ranges
      → AllByRecursion (Apart r) ranges → AllByRecursion (RangesDoNotOverlap order p) tables
  none_overlap p r [] [] here h g = tt
  none_overlap p r [] (s ∷ ranges) here h g = absurd h
  none_overlap p r (q ∷ tables) [] here h g = absurd h
  none_overlap p r (q ∷ tables) (s ∷ ranges) here h g = (tables_apart p q r s here h.0 g.0, none_overlap p r tables ranges here h.1 g.1)

  two_of : (tables : List PlacedTable) (ranges : List KeyRange) → AreRangesOf order tables ranges → HaveRanges order tables → ForTwo Apart ranges
  two_of [] [] h g = tt
  two_of [] (r ∷ ranges) h g = absurd h
  two_of (p ∷ tables) [] h g = absurd h
  two_of (p ∷ tables) (r ∷ ranges) h g = (all_apart p r tables ranges h.0 h.1 g.1, two_of tables ranges h.1 g.2)

  have_ranges : (tables : List PlacedTable) (ranges : List KeyRange) → AreRangesOf order tables ranges → ForTwo Apart ranges → HaveRanges order tables
  have_ranges [] [] h g = tt
  have_ranges [] (r ∷ ranges) h g = absurd h
  have_ranges (p ∷ tables) [] h g = absurd h
  have_ranges (p ∷ tables) (r ∷ ranges) h g = (h.0.3, none_overlap p r tables ranges h.0 h.1 g.0, have_ranges tables ranges h.1 g.1)

  -- whether neighbours are apart says whether each two tables are
  pub decided : (tables : List PlacedTable) (ranges sorted : List KeyRange) (answer : Bool) → AreRangesOf order tables ranges → IsPermutation ranges sorted → IsSortedBy less sorted
      → MatchBool answer (AllAdjacentBelow (EndsBefore order) sorted (length sorted)) (AllAdjacentBelow (EndsBefore order) sorted (length sorted) → ⊥)
      → MatchBool answer (HaveRanges order tables) (HaveRanges order tables → ⊥)
  decided tables ranges sorted true h same in_order next =
      let proper = All-permutation InOrder ranges sorted same (All-from_recursion InOrder ranges (ranges_in_order tables ranges h)) in
      have_ranges tables ranges h (for_two Apart ranges (two_permuted Apart sorted ranges (IsPermutation-sym ranges sorted same) (two_from_next sorted in_order proper next)))
  decided tables ranges sorted false h same in_order none = λ g.
      let proper = All-permutation InOrder ranges sorted same (All-from_recursion InOrder ranges (ranges_in_order tables ranges h)) in
      none (next_from_two sorted in_order proper (two_permuted Apart ranges sorted same (each_two Apart turned ranges (two_of tables ranges h g))))
