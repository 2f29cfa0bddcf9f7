-- Pairs of a range, in the order of their keys and backwards.
use Rattle.std.proofs.Common.{◌≡◌, ◌⊎◌, ◌<◌, ◌≤◌, ℕ, zero, suc, ◌+◌, ◌-◌, Bool, true, false, not, ◌&&◌, cond, List, [], ◌∷◌, ◌++◌, length, take, drop, Option, Some, None, inl, inr, refl, sym, ap, ◌∙◌, add-one, subst, arith, length-drop}
use mathlib.Core.Bool.{true≢false}
use mathlib.Core.List.{reverse-cons}
use Rattle.std.specs.Prelude.{reverse}
use Rattle.std.specs.Bool.{nat_lt}
use Rattle.std.specs.Cmp.{IsTotalOrder}
use Rattle.std.specs.List.{AllByRecursion, slice_get}
use Rattle.std.specs.List.Sorted.{IsStrictlySortedBy}
use Rattle.std.specs.Map.{keys_of}
use Rattle.std.specs.Ordering.{is_lt}
use Rattle.std.specs.declared.cmp.Ordering.{Ordering}
use Rattle.std.specs.declared.cmp.Ordering.TheVariants.{Less, Equal, Greater}
use Rattle.std.proofs.lemmas.Bool.{ltb-true, lt-ltb, ne_eqb}
use Rattle.std.proofs.lemmas.List.{take_all}
use Rattle.machine.specs.Walks.{count_below, place_at, place_before}
use Rattle.engine.specs.declared.ranges.KeyRange.{KeyRange}
use Rattle.engine.specs.Ranges.{Cmp, Pair, is_from, is_before_end, pairs_within, start_of, up_to}
use Rattle.engine.proofs.RangePairs.{pairs_of_range, place_split}
use Rattle.browse.specs.declared.choice.Choice.{Choice}
use Rattle.browse.specs.Choices.{turned}
use Rattle.browse.specs.internal.Lists.{behind, end_of, reach, starting}

abbrev Pairs : List Pair → List Pair → Type 0
Pairs xs ys = xs ≡ ys

reversed_none : Pairs (reverse []) []
reversed_none = refl

reversed_push : (xs : List Pair) (x : Pair) → Pairs (reverse (xs ++ x ∷ [])) (x ∷ reverse xs)
reversed_push [] x = reverse-cons x [] ∙ ap (λ (t : List Pair). t ++ x ∷ []) reversed_none ∙ ap (λ (t : List Pair). x ∷ t) (sym reversed_none)
reversed_push (y ∷ xs) x = reverse-cons y (xs ++ x ∷ []) ∙ ap (λ (t : List Pair). t ++ y ∷ []) (reversed_push xs x) ∙ ap (λ (t : List Pair). x ∷ t) (sym (reverse-cons y xs))

less_is : (o : Ordering) → is_lt o ≡ true → o ≡ Less
less_is Less is = refl
less_is Equal is = absurd (true≢false (sym is))
less_is Greater is = absurd (true≢false (sym is))

-- ---- those in front of an end

-- as many as come before it are those that do
front_some : (cmp : Cmp) (to : List ℕ) (pairs : List Pair) → Pairs (take (count_below cmp to pairs) pairs) (up_to cmp (Some to) pairs)
front_some cmp to [] = refl
front_some cmp to (pair ∷ pairs) = at (is_lt (cmp pair.0 to)) (front_some cmp to pairs)
  where
    at : (b : Bool) → Pairs (take (count_below cmp to pairs) pairs) (up_to cmp (Some to) pairs)
        → Pairs (take (cond b (count_below cmp to pairs + 1) 0) (pair ∷ pairs)) (cond b (pair ∷ up_to cmp (Some to) pairs) [])
    at true rest = ap (λ (n : ℕ). take n (pair ∷ pairs)) (add-one (count_below cmp to pairs)) ∙ ap (λ (t : List Pair). pair ∷ t) rest
    at false rest = refl

all_up_to : (cmp : Cmp) (pairs : List Pair) → Pairs pairs (up_to cmp None pairs)
all_up_to cmp [] = refl
all_up_to cmp (pair ∷ pairs) = ap (λ (t : List Pair). pair ∷ t) (all_up_to cmp pairs)

front_is : (cmp : Cmp) (to : Option (List ℕ)) (pairs : List Pair) → Pairs (take (end_of cmp to pairs) pairs) (up_to cmp to pairs)
front_is cmp None pairs = take_all (length pairs) pairs (omega arith) ∙ all_up_to cmp pairs
front_is cmp (Some to) pairs = front_some cmp to pairs

-- ---- those at the front that aren't in front of a start

down_to : Cmp → Option (List ℕ) → List Pair → List Pair
down_to cmp from [] = []
down_to cmp from (pair ∷ pairs) = cond (is_from cmp from pair.0) (pair ∷ down_to cmp from pairs) []

abbrev AllFrom : Cmp → Option (List ℕ) → List Pair → Type 0
AllFrom cmp from pairs = AllByRecursion (λ (p : Pair). is_from cmp from p.0 ≡ true) pairs

module _ (cmp : Cmp) (from : Option (List ℕ)) where
  all_pass : (pairs more : List Pair) → AllFrom cmp from pairs → Pairs (down_to cmp from (pairs ++ more)) (pairs ++ down_to cmp from more)
  unfolding down_to
  all_pass [] more all = refl
  all_pass (pair ∷ pairs) more all =
      ap (λ (b : Bool). cond b (pair ∷ down_to cmp from (pairs ++ more)) []) all.0 ∙ ap (λ (t : List Pair). pair ∷ t) (all_pass pairs more all.1)

  last_passes : (pair : Pair) → is_from cmp from pair.0 ≡ true → Pairs (down_to cmp from (pair ∷ [])) (pair ∷ [])
  unfolding down_to
  last_passes pair is = ap (λ (b : Bool). cond b (pair ∷ []) []) is

  last_fails : (pairs : List Pair) (pair : Pair) → is_from cmp from pair.0 ≡ false → Pairs (down_to cmp from (pairs ++ pair ∷ [])) (down_to cmp from pairs)
  unfolding down_to
  last_fails [] pair is = ap (λ (b : Bool). cond b (pair ∷ []) []) is
  last_fails (first ∷ pairs) pair is = ap (λ (t : List Pair). cond (is_from cmp from first.0) (first ∷ t) []) (last_fails pairs pair is)

  all_down : (pairs : List Pair) → AllFrom cmp from pairs → Pairs (down_to cmp from pairs) pairs
  unfolding down_to
  all_down [] all = refl
  all_down (pair ∷ pairs) all = ap (λ (b : Bool). cond b (pair ∷ down_to cmp from pairs) []) all.0 ∙ ap (λ (t : List Pair). pair ∷ t) (all_down pairs all.1)

  all_both : (xs ys : List Pair) → AllFrom cmp from xs → AllFrom cmp from ys → AllFrom cmp from (xs ++ ys)
  all_both [] ys h g = g
  all_both (x ∷ xs) ys h g = (h.0, all_both xs ys h.1 g)

  all_reversed : (xs : List Pair) → AllFrom cmp from xs → AllFrom cmp from (reverse xs)
  all_reversed [] h = subst (AllFrom cmp from) (sym reversed_none) tt
  all_reversed (x ∷ xs) h = subst (AllFrom cmp from) (sym (reverse-cons x xs)) (all_both (reverse xs) (x ∷ []) (all_reversed xs h.1) (h.0, tt))

-- ---- a sorted list

abbrev AllAbove : Cmp → List ℕ → List Pair → Type 0
AllAbove cmp key pairs = AllByRecursion (λ (y : List ℕ). cmp key y ≡ Less) (keys_of pairs)

module _ (cmp : Cmp) (total : IsTotalOrder cmp) where
  -- what comes behind a key that isn't below another isn't either
  not_below : (a b bound : List ℕ) → cmp a b ≡ Less → is_lt (cmp a bound) ≡ false → is_lt (cmp b bound) ≡ false
  not_below a b bound above is = at (is_lt (cmp b bound)) refl
    where
      at : (t : Bool) → is_lt (cmp b bound) ≡ t → t ≡ false
      at false at_b = refl
      at true at_b = absurd (true≢false (sym (ap is_lt (total.trans a b bound above (less_is (cmp b bound) at_b))) ∙ is))

  behind_end : (to : Option (List ℕ)) (a b : List ℕ) → cmp a b ≡ Less → is_before_end cmp to a ≡ false → is_before_end cmp to b ≡ false
  behind_end None a b above is = absurd (true≢false is)
  behind_end (Some to) a b above is = not_below a b to above is

  stays_from : (from : Option (List ℕ)) (a b : List ℕ) → cmp a b ≡ Less → is_from cmp from a ≡ true → is_from cmp from b ≡ true
  stays_from None a b above is = refl
  stays_from (Some from) a b above is = ap not (not_below a b from above (at (is_lt (cmp a from)) is))
    where
      at : (t : Bool) → not t ≡ true → t ≡ false
      at true is' = absurd (true≢false (sym is'))
      at false is' = refl

  module _ (keys : KeyRange) where
    abbrev kept : List Pair → List Pair
    kept pairs = pairs_within cmp keys pairs

    -- behind a key that isn't in front of the end there are none
    none_behind : (key : List ℕ) (pairs : List Pair) → is_before_end cmp keys.to key ≡ false → AllAbove cmp key pairs → Pairs (kept pairs) []
    none_behind key [] is all = refl
    none_behind key (pair ∷ pairs) is all = at (is_from cmp keys.from pair.0) (is_before_end cmp keys.to pair.0) (behind_end keys.to key pair.0 all.0 is) (none_behind key pairs is all.1)
      where
        at : (from before : Bool) → before ≡ false → Pairs (kept pairs) [] → Pairs (cond (from && before) (pair ∷ kept pairs) (kept pairs)) []
        at true true past rest = absurd (true≢false past)
        at true false past rest = rest
        at false before past rest = rest

    -- all behind one that isn't in front of the start are from there on
    all_front : (key : List ℕ) (pairs : List Pair) → is_from cmp keys.from key ≡ true → AllAbove cmp key pairs → AllFrom cmp keys.from (up_to cmp keys.to pairs)
    all_front key [] is all = tt
    all_front key (pair ∷ pairs) is all = at (is_before_end cmp keys.to pair.0) (stays_from keys.from key pair.0 all.0 is) (all_front key pairs is all.1)
      where
        at : (before : Bool) → is_from cmp keys.from pair.0 ≡ true → AllFrom cmp keys.from (up_to cmp keys.to pairs) → AllFrom cmp keys.from (cond before (pair ∷ up_to cmp keys.to pairs) [])
        at true first rest = (first, rest)
        at false first rest = tt

    -- the pairs of the range backwards: of those in front of its end, from the last one down to its
    -- start
    turned_is : (pairs : List Pair) → IsStrictlySortedBy cmp (keys_of pairs) → Pairs (reverse (kept pairs)) (down_to cmp keys.from (reverse (up_to cmp keys.to pairs)))
    unfolding IsStrictlySortedBy down_to
    turned_is [] sorted = reversed_none ∙ sym (ap (down_to cmp keys.from) reversed_none)
    turned_is (pair ∷ pairs) sorted = at (is_from cmp keys.from pair.0) (is_before_end cmp keys.to pair.0) refl (λ past. none_behind pair.0 pairs past sorted.0) (λ is. all_front pair.0 pairs is sorted.0) refl (turned_is pairs sorted.1)
      where
        front : List Pair
        front = up_to cmp keys.to pairs

        at : (from before : Bool) → is_before_end cmp keys.to pair.0 ≡ before → (is_before_end cmp keys.to pair.0 ≡ false → Pairs (kept pairs) []) → (is_from cmp keys.from pair.0 ≡ true → AllFrom cmp keys.from (up_to cmp keys.to pairs))
            → is_from cmp keys.from pair.0 ≡ from → Pairs (reverse (kept pairs)) (down_to cmp keys.from (reverse (up_to cmp keys.to pairs)))
            → Pairs (reverse (cond (from && before) (pair ∷ kept pairs) (kept pairs))) (down_to cmp keys.from (reverse (cond before (pair ∷ up_to cmp keys.to pairs) [])))
        at true true is none all first rest =
            let passing = all_reversed cmp keys.from (up_to cmp keys.to pairs) (all first) in
            reverse-cons pair (kept pairs)
            ∙ ap (λ (t : List Pair). t ++ pair ∷ []) (rest ∙ all_down cmp keys.from (reverse (up_to cmp keys.to pairs)) passing)
            ∙ ap (λ (t : List Pair). reverse (up_to cmp keys.to pairs) ++ t) (sym (last_passes cmp keys.from pair first))
            ∙ sym (all_pass cmp keys.from (reverse (up_to cmp keys.to pairs)) (pair ∷ []) passing)
            ∙ sym (ap (down_to cmp keys.from) (reverse-cons pair (up_to cmp keys.to pairs)))
        at false true is none all first rest =
            rest ∙ sym (last_fails cmp keys.from (reverse (up_to cmp keys.to pairs)) pair first) ∙ sym (ap (down_to cmp keys.from) (reverse-cons pair (up_to cmp keys.to pairs)))
        at true false is none all first rest = ap reverse (none is) ∙ reversed_none ∙ sym (ap (down_to cmp keys.from) reversed_none)
        at false false is none all first rest = ap reverse (none is) ∙ reversed_none ∙ sym (ap (down_to cmp keys.from) reversed_none)

-- ---- what a walk comes to

module _ (cmp : Cmp) (choice : Choice) where
  reach_back : choice.backwards ≡ true → (pairs : List Pair) → Pairs (reach cmp choice pairs) (down_to cmp choice.keys.from pairs)
  unfolding down_to
  reach_back is [] = refl
  reach_back is (pair ∷ pairs) =
      ap (λ (b : Bool). cond (cond b (is_from cmp choice.keys.from pair.0) (is_before_end cmp choice.keys.to pair.0)) (pair ∷ reach cmp choice pairs) []) is
      ∙ ap (λ (t : List Pair). cond (is_from cmp choice.keys.from pair.0) (pair ∷ t) []) (reach_back is pairs)

  reach_on : choice.backwards ≡ false → (pairs : List Pair) → Pairs (reach cmp choice pairs) (up_to cmp choice.keys.to pairs)
  reach_on is [] = refl
  reach_on is (pair ∷ pairs) =
      ap (λ (b : Bool). cond (cond b (is_from cmp choice.keys.from pair.0) (is_before_end cmp choice.keys.to pair.0)) (pair ∷ reach cmp choice pairs) []) is
      ∙ ap (λ (t : List Pair). cond (is_before_end cmp choice.keys.to pair.0) (pair ∷ t) []) (reach_on is pairs)

  -- What is asked for is what a walk comes to from its start, as far as it isn't past the range.
  pub reaches_range : IsTotalOrder cmp → (pairs : List Pair) → IsStrictlySortedBy cmp (keys_of pairs) → Pairs (turned choice.backwards (pairs_within cmp choice.keys pairs)) (reach cmp choice (starting cmp choice pairs))
  reaches_range total pairs sorted = at choice.backwards refl
    where
      within : List Pair
      within = pairs_within cmp choice.keys pairs

      at : (b : Bool) → choice.backwards ≡ b → Pairs (cond choice.backwards (reverse (pairs_within cmp choice.keys pairs)) (pairs_within cmp choice.keys pairs)) (reach cmp choice (starting cmp choice pairs))
      at true is =
          ap (λ (b : Bool). cond b (reverse (pairs_within cmp choice.keys pairs)) (pairs_within cmp choice.keys pairs)) is
          ∙ turned_is cmp total choice.keys pairs sorted
          ∙ ap (λ (t : List Pair). down_to cmp choice.keys.from (reverse t)) (sym (front_is cmp choice.keys.to pairs))
          ∙ sym (reach_back is (reverse (take (end_of cmp choice.keys.to pairs) pairs)))
          ∙ ap (λ (b : Bool). reach cmp choice (cond b (reverse (take (end_of cmp choice.keys.to pairs) pairs)) (drop (start_of cmp choice.keys.from pairs) pairs))) (sym is)
      at false is =
          ap (λ (b : Bool). cond b (reverse (pairs_within cmp choice.keys pairs)) (pairs_within cmp choice.keys pairs)) is
          ∙ pairs_of_range cmp total choice.keys pairs sorted
          ∙ sym (reach_on is (drop (start_of cmp choice.keys.from pairs) pairs))
          ∙ ap (λ (b : Bool). reach cmp choice (cond b (reverse (take (end_of cmp choice.keys.to pairs) pairs)) (drop (start_of cmp choice.keys.from pairs) pairs))) (sym is)

-- ---- places

-- no pair is ahead, and the place is none; or the place is that of the first one ahead, and the
-- others are behind it
abbrev pub Splits : Bool → List Pair → Option ℕ → List Pair → Type 0
Splits backwards pairs place ahead = ((place ≡ None) × (ahead ≡ []))
    ⊎ ((pair : Pair) × (i : ℕ) × (place ≡ Some i) × (i < length pairs) × (slice_get pairs i ≡ Some pair) × (ahead ≡ pair ∷ behind backwards i pairs))

pub splits_on : (pairs : List Pair) (c : ℕ) → Splits false pairs (place_at pairs c) (drop c pairs)
splits_on pairs c = elim (place_split pairs c) [
  | inl h ↦ inl (h.0, h.1)
  | inr h ↦ inr (h.0, c, h.1, within h.1, h.2, h.3)
]
  where
    within : place_at pairs c ≡ Some c → c < length pairs
    within is = at (nat_lt c (length pairs)) refl is
      where
        at : (b : Bool) → nat_lt c (length pairs) ≡ b → cond b (Some c) None ≡ Some c → c < length pairs
        at true t is' = ltb-true c (length pairs) t
        at false t is' = absurd (cc)

taken_one : (pairs : List Pair) (i : ℕ) → i < length pairs → (pair : Pair) × (slice_get pairs i ≡ Some pair) × Pairs (take (suc i) pairs) (take i pairs ++ pair ∷ [])
taken_one [] i lt = absurd (omega (arith, lt))
taken_one (pair ∷ pairs) zero lt = (pair, refl, ap (λ (t : List Pair). pair ∷ t) (taken_none pairs))
  where
    taken_none : (ps : List Pair) → Pairs (take zero ps) []
    taken_none ps = refl
taken_one (pair ∷ pairs) (suc i) lt = let rest = taken_one pairs i (omega (arith, lt)) in (rest.0, rest.1, ap (λ (t : List Pair). pair ∷ t) rest.2)

pub splits_back : (pairs : List Pair) (c : ℕ) → c ≤ length pairs → Splits true pairs (place_before c) (reverse (take c pairs))
splits_back pairs zero le = inl (refl, reversed_none)
splits_back pairs (suc c) le =
    let one = taken_one pairs c (omega (arith, le)) in
    inr (
      one.0,
      c,
      ap (λ (b : Bool). cond b None (Some (suc c - 1))) (ne_eqb (suc c) 0 (λ is. omega (arith, is))) ∙ (let less : suc c - 1 ≡ c = omega arith in ap (λ (n : ℕ). Some n) less),
      omega (arith, le),
      one.1,
      ap reverse one.2 ∙ reversed_push (take c pairs) one.0,
    )

-- the last pair is in front of the end
pub last_is : (pairs : List Pair) → place_at pairs (length pairs - 1) ≡ place_before (length pairs)
last_is [] = refl
last_is (pair ∷ pairs) =
    let n = length (pair ∷ pairs) in
    ap (λ (b : Bool). cond b (Some (n - 1)) None) (lt-ltb (n - 1) n (omega arith)) ∙ sym (ap (λ (b : Bool). cond b None (Some (n - 1))) (ne_eqb n 0 (λ is. omega (arith, is))))

pub count_within : (cmp : Cmp) (key : List ℕ) (pairs : List Pair) → count_below cmp key pairs ≤ length pairs
count_within cmp key [] = omega arith
count_within cmp key (pair ∷ pairs) = at (is_lt (cmp pair.0 key)) (count_within cmp key pairs)
  where
    at : (b : Bool) → count_below cmp key pairs ≤ length pairs → cond b (count_below cmp key pairs + 1) 0 ≤ length (pair ∷ pairs)
    at true le = omega (arith, le)
    at false le = omega arith

-- ---- where moves lead

pub lands : (pairs : List Pair) (c i : ℕ) → place_at pairs c ≡ Some i → i ≡ c
lands pairs c i is = at (nat_lt c (length pairs)) is
  where
    at : (b : Bool) → cond b (Some c) None ≡ Some i → i ≡ c
    at true is' = cc
    at false is' = absurd (cc)

-- nothing is ahead of a place behind all
pub ends_there : (pairs : List Pair) (c : ℕ) → c ≤ length pairs → drop c pairs ≡ [] → c ≡ length pairs
ends_there pairs c le none = (let n : length pairs - c ≡ 0 = sym (length-drop c pairs) ∙ ap length none in omega (arith, n, le))
