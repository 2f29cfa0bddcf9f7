-- Pairs of a range: those at the front of what doesn't come before it.
use Rattle.std.proofs.Common.{◌≡◌, ◌⊎◌, ℕ, ◌+◌, Bool, true, false, not, ◌&&◌, cond, List, [], ◌∷◌, length, drop, Option, Some, None, inl, inr, refl, sym, ap, ◌∙◌, add-one, drop-cons}
use mathlib.Core.Bool.{true≢false}
use Rattle.std.specs.Cmp.{IsTotalOrder}
use Rattle.std.specs.List.{AllByRecursion, slice_get}
use Rattle.std.specs.List.Sorted.{IsStrictlySortedBy}
use Rattle.std.specs.Map.{keys_of}
use Rattle.std.specs.Ordering.{is_lt}
use Rattle.std.specs.declared.cmp.Ordering.{Ordering}
use Rattle.std.specs.declared.cmp.Ordering.TheVariants.{Less, Equal, Greater}
use Rattle.std.proofs.lemmas.Bool.{lt-ltb, le-ltb}
use Rattle.std.proofs.lemmas.List.{drop_all}
use Rattle.std.proofs.lemmas.Option.{slice_get_cases}
use Rattle.machine.specs.Walks.{count_below, place_at}
use Rattle.engine.specs.declared.ranges.KeyRange.{KeyRange}
use Rattle.engine.specs.Ranges.{Cmp, Pair, is_from, is_before_end, pairs_within, start_of, up_to}

-- ---- a sorted list

abbrev Pairs : List Pair → List Pair → Type 0
Pairs xs ys = xs ≡ ys

abbrev SameBool : Bool → Bool → Type 0
SameBool b c = b ≡ c

less_is : (o : Ordering) → is_lt o ≡ true → o ≡ Less
less_is Less is = refl
less_is Equal is = absurd (true≢false (sym is))
less_is Greater is = absurd (true≢false (sym is))

abbrev AllAbove : Cmp → List ℕ → List Pair → Type 0
AllAbove cmp key pairs = AllByRecursion (λ (y : List ℕ). cmp key y ≡ Less) (keys_of pairs)

module _ (cmp : Cmp) (total : IsTotalOrder cmp) where
  -- what comes after a key that isn't below another isn't either
  not_below : (a b bound : List ℕ) → cmp a b ≡ Less → is_lt (cmp a bound) ≡ false → is_lt (cmp b bound) ≡ false
  not_below a b bound above is = at (is_lt (cmp b bound)) refl
    where
      at : (t : Bool) → is_lt (cmp b bound) ≡ t → t ≡ false
      at false at_b = refl
      at true at_b = absurd (true≢false (sym (ap is_lt (total.trans a b bound above (less_is (cmp b bound) at_b))) ∙ is))

  behind_end : (to : Option (List ℕ)) (a b : List ℕ) → cmp a b ≡ Less → is_before_end cmp to a ≡ false → is_before_end cmp to b ≡ false
  behind_end None a b above is = absurd (true≢false is)
  behind_end (Some to) a b above is = not_below a b to above is

  stays_from : (from : Option (List ℕ)) (a b : List ℕ) → cmp a b ≡ Less → is_from cmp from a ≡ true → is_from cmp from b ≡ true
  stays_from None a b above is = refl
  stays_from (Some from) a b above is = ap not (not_below a b from above (at (is_lt (cmp a from)) is))
    where
      at : (t : Bool) → not t ≡ true → t ≡ false
      at true is' = absurd (true≢false (sym is'))
      at false is' = refl

  module _ (keys : KeyRange) where
    abbrev kept : List Pair → List Pair
    kept pairs = pairs_within cmp keys pairs

    -- after a key that isn't before the end there are none
    none_behind : (key : List ℕ) (pairs : List Pair) → is_before_end cmp keys.to key ≡ false → AllAbove cmp key pairs → Pairs (kept pairs) []
    none_behind key [] is all = refl
    none_behind key (pair ∷ pairs) is all = at (is_from cmp keys.from pair.0) (is_before_end cmp keys.to pair.0) (behind_end keys.to key pair.0 all.0 is) (none_behind key pairs is all.1)
      where
        at : (from before : Bool) → before ≡ false → Pairs (kept pairs) [] → Pairs (cond (from && before) (pair ∷ kept pairs) (kept pairs)) []
        at true true past rest = absurd (true≢false past)
        at true false past rest = rest
        at false before past rest = rest

    -- of what doesn't come before the range, those before its end
    front_is : (pairs : List Pair) → IsStrictlySortedBy cmp (keys_of pairs) → AllByRecursion (λ (p : Pair). is_from cmp keys.from p.0 ≡ true) pairs → Pairs (kept pairs) (up_to cmp keys.to pairs)
    unfolding IsStrictlySortedBy
    front_is [] sorted all = refl
    front_is (pair ∷ pairs) sorted all = at (is_from cmp keys.from pair.0) (is_before_end cmp keys.to pair.0) all.0 (λ past. none_behind pair.0 pairs past sorted.0) (front_is pairs sorted.1 all.1)
      where
        at : (from before : Bool) → from ≡ true → (before ≡ false → Pairs (kept pairs) []) → Pairs (kept pairs) (up_to cmp keys.to pairs)
            → Pairs (cond (from && before) (pair ∷ kept pairs) (kept pairs)) (cond before (pair ∷ up_to cmp keys.to pairs) [])
        at true true is none rest = λ i. pair ∷ rest i
        at true false is none rest = none refl
        at false before is none rest = absurd (true≢false (sym is))

    all_from : (key : List ℕ) (pairs : List Pair) → is_from cmp keys.from key ≡ true → AllAbove cmp key pairs → AllByRecursion (λ (p : Pair). is_from cmp keys.from p.0 ≡ true) pairs
    all_from key [] is all = tt
    all_from key (pair ∷ pairs) is all = (stays_from keys.from key pair.0 all.0 is, all_from key pairs is all.1)

  drop_more : (n : ℕ) (pair : Pair) (pairs : List Pair) → Pairs (drop (n + 1) (pair ∷ pairs)) (drop n pairs)
  drop_more n pair pairs = ap (λ (k : ℕ). drop k (pair ∷ pairs)) (add-one n)

  any_from : (to : Option (List ℕ)) (pairs : List Pair) → AllByRecursion (λ (p : Pair). is_from cmp None p.0 ≡ true) pairs
  any_from to [] = tt
  any_from to (pair ∷ pairs) = (refl, any_from to pairs)

  abbrev starting : List ℕ → Option (List ℕ) → KeyRange
  starting from to = record { from = Some from; to = to }

  within_from : (from : List ℕ) (to : Option (List ℕ)) (pairs : List Pair) → IsStrictlySortedBy cmp (keys_of pairs)
      → Pairs (pairs_within cmp (starting from to) pairs) (up_to cmp to (drop (count_below cmp from pairs) pairs))
  unfolding IsStrictlySortedBy
  within_from from to [] sorted = refl
  within_from from to (pair ∷ pairs) sorted = at (is_lt (cmp pair.0 from)) refl (within_from from to pairs sorted.1)
    where
      at : (b : Bool) → is_lt (cmp pair.0 from) ≡ b → Pairs (pairs_within cmp (starting from to) pairs) (up_to cmp to (drop (count_below cmp from pairs) pairs))
          → Pairs (cond (not b && is_before_end cmp to pair.0) (pair ∷ pairs_within cmp (starting from to) pairs) (pairs_within cmp (starting from to) pairs)) (up_to cmp to (drop (cond b (count_below cmp from pairs + 1) 0) (pair ∷ pairs)))
      at true is rest = rest ∙ ap (up_to cmp to) (sym (drop_more (count_below cmp from pairs) pair pairs))
      at false is rest =
          ap (λ (b : Bool). cond (not b && is_before_end cmp to pair.0) (pair ∷ pairs_within cmp (starting from to) pairs) (pairs_within cmp (starting from to) pairs)) (sym is)
          ∙ front_is (starting from to) (pair ∷ pairs) sorted (ap not is, all_from (starting from to) pair.0 pairs (ap not is) sorted.0)

  within_all : (to : Option (List ℕ)) (pairs : List Pair) → IsStrictlySortedBy cmp (keys_of pairs) → Pairs (pairs_within cmp (record { from = None; to = to }) pairs) (up_to cmp to (drop 0 pairs))
  within_all to pairs sorted = front_is (record { from = None; to = to }) pairs sorted (any_from to pairs)

  within_is : (from to : Option (List ℕ)) (pairs : List Pair) → IsStrictlySortedBy cmp (keys_of pairs)
      → Pairs (pairs_within cmp (record { from = from; to = to }) pairs) (up_to cmp to (drop (start_of cmp from pairs) pairs))
  within_is None to pairs sorted = within_all to pairs sorted
  within_is (Some from) to pairs sorted = within_from from to pairs sorted

  -- The pairs of a range are those from its start up to its end.
  pub pairs_of_range : (keys : KeyRange) (pairs : List Pair) → IsStrictlySortedBy cmp (keys_of pairs) → pairs_within cmp keys pairs ≡ up_to cmp keys.to (drop (start_of cmp keys.from pairs) pairs)
  pairs_of_range keys pairs sorted = within_is keys.from keys.to pairs sorted

-- ---- the pair at an index

-- There is none, and nothing from it on; or it is the first of those from it on.
pub place_split : (pairs : List Pair) (c : ℕ) → ((place_at pairs c ≡ None) × Pairs (drop c pairs) [])
    ⊎ ((pair : Pair) × (place_at pairs c ≡ Some c) × (slice_get pairs c ≡ Some pair) × Pairs (drop c pairs) (pair ∷ drop (c + 1) pairs))
place_split pairs c = elim (slice_get_cases pairs c).1 [
  | inl h ↦ inr (
    h.0,
    ap (λ (b : Bool). cond b (Some c) None) (lt-ltb c (length pairs) h.1),
    h.2,
    drop-cons pairs c h.0 h.1 ∙ (λ i. h.3 i ∷ drop (sym (add-one c) i) pairs),
  )
  | inr h ↦ inl (ap (λ (b : Bool). cond b (Some c) None) (le-ltb c (length pairs) h.0), drop_all c pairs h.0)
]
