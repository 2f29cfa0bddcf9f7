-- The tables that wait by their smallest keys, and how a merge begins them one by one.
use Rattle.std.proofs.Common.{◌≡◌, ◌≢◌, ◌⊎◌, inl, inr, ◌<◌, ◌≤◌, ◌+◌, ℕ, Bool, true, false, List, [], ◌∷◌, ◌++◌, length, Some, None, get_or, map, sym, ap, ◌∙◌, subst, arith, All, AllPairs, IsPermutation}
use Rattle.std.proofs.lemmas.Bool.{cases_eq, cases_lt, eq-eqb, ne_eqb}
use Rattle.std.proofs.lemmas.Bool.Decides.{Decides-eqb, eqb_tells}
use Rattle.std.proofs.lemmas.List.{get_or-map, length-map, map-append}
use Rattle.std.proofs.lemmas.List.Elements.{All-push, Contains-push, Contains-append_left}
use Rattle.std.proofs.lemmas.List.Quantifiers.{all_pairs_push}
use Rattle.std.proofs.lemmas.List.Sorted.{All-permutation, Contains-permutation, IsPermutation-map, sorted_far, ranks_by}
use Rattle.std.proofs.lemmas.Map.Keys.{IsDistinct-IsPermutation}
use Rattle.std.proofs.lemmas.Map.Made.{AllPairs-from_IsDistinct, IsDistinct-from_AllPairs}
use Rattle.std.proofs.lemmas.Option.{get_or_from_slice_get, slice_get-get_or, slice_get_within}
use Rattle.std.specs.Prelude.{eqb, slice_get, slice_set}
use Rattle.std.specs.Cmp.{IsTotalOrder, IsStrictWeakOrder, tied_itself, then_total, on_total, back_total, nat_cmp_total, nat_cmp_is}
use Rattle.std.specs.Ordering.{nat_cmp, is_lt, ordering_then}
use Rattle.std.specs.declared.cmp.Ordering.{Ordering}
use Rattle.std.specs.declared.cmp.Ordering.TheVariants.{Less}
use Rattle.edits.specs.declared.field.PlacedTable.{PlacedTable}
use Rattle.ikey.specs.Below.{same_key}
use Rattle.ikey.specs.Keys.{Key, IsKey}
use Rattle.ikey.specs.KeyViews.{key_of}
use Rattle.ikey.specs.Orders.{Order}
use Rattle.ikey.specs.Sources.{ComesBefore}
use Rattle.recover.specs.declared.waiting.Waiting.{Waiting}
use Rattle.recover.specs.internal.Merging.{DoesWait}
use Rattle.recover.specs.internal.MergeSteps.{AllBeginFrom, CanBegin}
use Rattle.recover.specs.internal.Waiting.{AreBegun, AreSorted, AreWaiting, IsWaiting, waiting_cmp}
use Rattle.recover.specs.internal.Walking.{stamp}
use Rattle.recover.proofs.Merged.{set_same, set_other}

abbrev places : List Waiting → List ℕ
places waiting = map (λ w. w.place) waiting

-- ---- gathered from the row

pub none_waits : (tables : List PlacedTable) → AreWaiting tables 0 []
none_waits tables = record {
  each = λ i d lt. absurd (omega (arith, lt));
  all = λ place placed key lt is key_is. absurd (omega (arith, lt));
  within = λ i d lt. absurd (omega (arith, lt));
  apart = λ i j d lt less. absurd (omega (arith, less));
}

module _ (tables : List PlacedTable) (count : ℕ) (placed : PlacedTable) (is : slice_get tables count ≡ Some placed) (waiting : List Waiting) (h : AreWaiting tables count waiting) where
  further : (place : ℕ) → place < count + 1 → (place ≡ count) ⊎ (place < count)
  further place lt = elim (cases_eq place count) [ inl same ↦ inl same | inr other ↦ inr (omega (arith, lt, other)) ]

  key_here : (place : ℕ) (other : PlacedTable) (key : Key) → place ≡ count → slice_get tables place ≡ Some other → IsKey other.table.smallest key → IsKey placed.table.smallest key
  key_here place other key same at key_is =
      let both : Some other ≡ Some placed = sym at ∙ ap (slice_get tables) same ∙ is in
      let one : other ≡ placed = cc in
      let P : PlacedTable → Type 0 = λ t. IsKey t.table.smallest key in subst P one key_is

  still_within : All (λ w. w.place < count + 1) waiting
  still_within i d lt = let below = h.within i d lt in omega (arith, below)

  -- its smallest key is none
  pub keyless : ((key : Key) → IsKey placed.table.smallest key → ⊥) → AreWaiting tables (count + 1) waiting
  keyless none = record {
    each = h.each;
    all = λ place other key lt at key_is. elim (further place lt) [
      | inl same ↦ absurd (none key (key_here place other key same at key_is))
      | inr below ↦ h.all place other key below at key_is
    ];
    within = still_within;
    apart = h.apart;
  }

  -- it waits after the others
  pub one_more : (w : Waiting) → w.place ≡ count → IsKey placed.table.smallest (key_of w.smallest) → AreWaiting tables (count + 1) (waiting ++ w ∷ [])
  one_more w here key_is = record {
    each = All-push (IsWaiting tables) waiting w h.each (placed, ap (slice_get tables) here ∙ is, key_is);
    all = λ place other key lt at other_is. elim (further place lt) [
      | inl same ↦ (w, Contains-push waiting w, here ∙ sym same)
      | inr below ↦ (let x = h.all place other key below at other_is in (x.0, Contains-append_left waiting (w ∷ []) x.0 x.1, x.2))
    ];
    within = All-push (λ v. v.place < count + 1) waiting w still_within (omega (arith, here));
    apart = subst (AllPairs (λ a b. a ≢ b)) (sym (map-append (λ v. v.place) waiting (w ∷ []))) (all_pairs_push (λ a b. a ≢ b) (places waiting) w.place h.apart (differ w here));
  }
    where
      differ : (w : Waiting) → w.place ≡ count → (k d : ℕ) → k < length (places waiting) → get_or (places waiting) k d ≢ w.place
      differ w here k d lt e =
          let inside : k < length waiting = omega (arith, lt, length-map waiting (λ (v : Waiting). v.place)) in
          let below = h.within k w inside in
          let at = get_or-map (λ (v : Waiting). v.place) waiting k w d inside in
          omega (arith, below, sym at ∙ e, here)

-- ---- in another order

flips : (x y : ℕ) → eqb x y ≡ eqb y x
flips x y = elim (eqb_tells x y) [ inl same ↦ same.0 ∙ sym (eq-eqb y x (sym same.1)) | inr other ↦ other.0 ∙ sym (ne_eqb y x (λ e. other.1 (sym e))) ]

still_apart : (xs ys : List ℕ) → IsPermutation xs ys → AllPairs (λ a b. a ≢ b) xs → AllPairs (λ a b. a ≢ b) ys
still_apart xs ys same pairs = AllPairs-from_IsDistinct Decides-eqb ys (IsDistinct-IsPermutation eqb flips xs ys same (IsDistinct-from_AllPairs Decides-eqb xs pairs))

pub reordered : (tables : List PlacedTable) (count : ℕ) (waiting sorted : List Waiting) → IsPermutation waiting sorted → AreWaiting tables count waiting → AreWaiting tables count sorted
reordered tables count waiting sorted same h = record {
  each = All-permutation (IsWaiting tables) waiting sorted same h.each;
  all = λ place placed key lt is key_is. let x = h.all place placed key lt is key_is in (x.0, Contains-permutation waiting sorted x.0 same x.1, x.2);
  within = All-permutation (λ w. w.place < count) waiting sorted same h.within;
  apart = still_apart (places waiting) (places sorted) (IsPermutation-map (λ w. w.place) waiting sorted same) h.apart;
}

-- ---- the order

module _ (order : Order) (total : IsTotalOrder order.cmp) where
  abbrev less : Waiting → Waiting → Bool
  less a b = is_lt (waiting_cmp order.cmp a b)

  waiting_total : IsTotalOrder (waiting_cmp order.cmp)
  waiting_total = then_total (on_total (λ (w : Waiting). w.smallest.user.now) total) (back_total (on_total (λ (w : Waiting). w.smallest.sequence) nat_cmp_total))

  pub is_lawful : IsStrictWeakOrder less
  is_lawful = ranks_by waiting_total (λ (w : Waiting). w)

  abbrev Before : Waiting → Waiting → Type 0
  Before a b = ComesBefore order (stamp a.smallest.user.now a.smallest.sequence) (stamp b.smallest.user.now b.smallest.sequence)

  lower : (a b : Waiting) → Before a b → less a b ≡ true
  lower a b before = ap is_lt (by before)
    where
      by : Before a b → ordering_then (order.cmp a.smallest.user.now b.smallest.user.now) (nat_cmp b.smallest.sequence a.smallest.sequence) ≡ Less
      by (inl x) = ap (λ (o : Ordering). ordering_then o (nat_cmp b.smallest.sequence a.smallest.sequence)) x
      by (inr x) =
          ap (λ (o : Ordering). ordering_then o (nat_cmp b.smallest.sequence a.smallest.sequence)) (ap (λ u. order.cmp u b.smallest.user.now) x.0 ∙ tied_itself total b.smallest.user.now)
          ∙ sym (nat_cmp_is b.smallest.sequence a.smallest.sequence Less x.1)

  module _ (tables : List PlacedTable) (waiting : List Waiting) (h : AreWaiting tables (length tables) waiting) (begun : List Bool) where
    -- where a table that waits stands
    stands_at : (index place : ℕ) (key : Key) → AreBegun waiting index begun → DoesWait tables begun place key
        → (i : ℕ) × (w : Waiting) × (index ≤ i) × (slice_get waiting i ≡ Some w) × (key ≡ key_of w.smallest)
    stands_at index place key state (placed, at, waits, key_is) =
        let x = h.all place placed key (slice_get_within tables place placed at) at key_is in
        let i = x.1.0 in
        let w = x.0 in
        let here : slice_get waiting i ≡ Some w = slice_get-get_or waiting i w x.1.1 ∙ ap Some x.1.2 in
        let own = subst (IsWaiting tables) x.1.2 (h.each i w x.1.1) in
        let both : Some own.0 ≡ Some placed = sym own.1 ∙ ap (slice_get tables) x.2 ∙ at in
        let one : own.0 ≡ placed = cc in
        let P : PlacedTable → Type 0 = λ t. IsKey t.table.smallest (key_of w.smallest) in
        (i, w, behind i w here x.2, here, same_key placed.table.smallest key (key_of w.smallest) key_is (subst P one own.2))
      where
        behind : (i : ℕ) (w : Waiting) → slice_get waiting i ≡ Some w → w.place ≡ place → index ≤ i
        behind i w here same = elim (cases_lt i index) [
          | inl lt ↦ (let both : Some true ≡ Some false = sym (state.gone i w lt here) ∙ ap (slice_get begun) same ∙ waits in let bad : true ≡ false = cc in absurd cc)
          | inr ge ↦ omega (arith, ge)
        ]

    -- after all of them none waits
    pub all_begun : AreBegun waiting (length waiting) begun → AllBeginFrom order tables begun None
    all_begun state place key waits =
        let x = stands_at (length waiting) place key state waits in
        let within = slice_get_within waiting x.0 x.1 x.3 in omega (arith, within, x.2)

    -- none that waits begins before the next one
    pub next_is_first : AreSorted order.cmp waiting → (index : ℕ) (next : Waiting) → slice_get waiting index ≡ Some next → AreBegun waiting index begun → AllBeginFrom order tables begun (Some next.smallest)
    next_is_first up index next at state place key waits before =
        let x = stands_at index place key state waits in
        let w = x.1 in
        let P : Key → Type 0 = λ k. ComesBefore order (stamp k.user k.sequence) (stamp next.smallest.user.now next.smallest.sequence) in
        let far = sorted_far less is_lawful waiting up index x.0 w x.2 (slice_get_within waiting x.0 w x.3) in
        let first : get_or waiting x.0 w ≡ w = get_or_from_slice_get waiting x.0 w w x.3 in
        let second : get_or waiting index w ≡ next = get_or_from_slice_get waiting index next w at in
        let told : less w next ≡ false = subst (λ b. less w b ≡ false) second (subst (λ a. less a (get_or waiting index w) ≡ false) first far) in
        let t : false ≡ true = sym told ∙ lower w next (subst P x.4 before) in absurd cc

    pub can_begin : (index : ℕ) (d : Waiting) → index < length waiting → AreBegun waiting index begun → (now : List Bool) → now ≡ begun → CanBegin tables now (get_or waiting index d).place
    can_begin index d lt state now same =
        let own = h.each index d lt in
        (own.0, own.1, ap (λ (bs : List Bool). slice_get bs (get_or waiting index d).place) same ∙ state.left index (get_or waiting index d) (omega arith) (slice_get-get_or waiting index d lt))

    -- ---- one was begun

    two_apart : (i j : ℕ) (v w : Waiting) → i < j → slice_get waiting i ≡ Some v → slice_get waiting j ≡ Some w → v.place ≢ w.place
    two_apart i j v w lt at next e =
        let inside = slice_get_within waiting j w next in
        let long = length-map waiting (λ (x : Waiting). x.place) in
        let here : (k : ℕ) (x : Waiting) → slice_get waiting k ≡ Some x → get_or (places waiting) k 0 ≡ x.place =
        λ k x is. get_or-map (λ (y : Waiting). y.place) waiting k x 0 (slice_get_within waiting k x is) ∙ ap (λ (y : Waiting). y.place) (get_or_from_slice_get waiting k x x is) in
        h.apart i j 0 lt (omega (arith, inside, long)) (here i v at ∙ e ∙ sym (here j w next))

    begun_here : (index : ℕ) (next : Waiting) → slice_get waiting index ≡ Some next → AreBegun waiting index begun → AreBegun waiting (index + 1) (slice_set begun next.place true)
    begun_here index next at state = record {
      gone = λ i w lt is. elim (cases_eq i index) [
        | inl same ↦ (let both : Some w ≡ Some next = sym is ∙ ap (slice_get waiting) same ∙ at in
            let one : w ≡ next = cc in
            ap (λ (x : Waiting). slice_get (slice_set begun next.place true) x.place) one
            ∙ set_same begun next.place true (slice_get_within begun next.place false (state.left index next (omega arith) at)))
        | inr other ↦ (let front : i < index = omega (arith, lt, other) in
            set_other begun next.place w.place true (two_apart i index w next front is at) ∙ state.gone i w front is)
      ];
      left = λ i w le is.
          set_other begun next.place w.place true (λ e. two_apart index i next w (omega (arith, le)) at is (sym e)) ∙ state.left i w (omega (arith, le)) is;
    }

    pub one_begun : (index : ℕ) (d : Waiting) → index < length waiting → AreBegun waiting index begun → (now new : List Bool) → now ≡ begun → new ≡ slice_set now (get_or waiting index d).place true
        → AreBegun waiting (index + 1) new
    one_begun index d lt state now new same set =
        let next = get_or waiting index d in
        let is : new ≡ slice_set begun next.place true = set ∙ ap (λ (bs : List Bool). slice_set bs next.place true) same in
        subst (AreBegun waiting (index + 1)) (sym is) (begun_here index next (slice_get-get_or waiting index d lt) state)

    pub fresh_begun : ((place : ℕ) → place < length tables → slice_get begun place ≡ Some false) → AreBegun waiting 0 begun
    fresh_begun fresh = record {
      gone = λ i w lt is. absurd (omega (arith, lt));
      left = λ i w le is. fresh w.place (subst (λ (x : Waiting). x.place < length tables) (get_or_from_slice_get waiting i w w is) (h.within i w (slice_get_within waiting i w is)));
    }
