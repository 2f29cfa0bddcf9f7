-- Searches on, block by block.
use Rattle.std.proofs.Common.{◌≡◌, ◌<◌, ◌≤◌, ◌+◌, ◌-◌, ℕ, zero, suc, List, [], ◌∷◌, Some, None, length, take, drop, sym, ap, ◌∙◌, subst, arith, inl, inr}
use Rattle.std.proofs.lemmas.Bool.{cases_lt}
use Rattle.std.proofs.lemmas.Option.{slice_get_within}
use Rattle.std.specs.List.{slice_get, AllByRecursion}
use Rattle.block.specs.Places.{IsFirstNotBelow}
use Rattle.ikey.specs.Entries.{Pair}
use Rattle.table_access.specs.TablePlaces.{joined, pairs_before, StopsAt}
use Rattle.table_access.proofs.Placing.{some_at, before_more, before_all, before_inside, before_up, item_in}

-- ---- in a block

all_in_front : (P : Pair → Type 0) (pairs : List Pair) (n k : ℕ) (pair : Pair) → AllByRecursion P (take n pairs) → k < n → slice_get pairs k ≡ Some pair → P pair
all_in_front P [] n k pair h less e = absurd (let bad : None ≡ Some pair = e in cc)
all_in_front P (x ∷ pairs) zero k pair h less e = absurd (omega (arith, less))
all_in_front P (x ∷ pairs) (suc n) zero pair h less e = let s : x ≡ pair = let t : Some x ≡ Some pair = e in cc in subst P s h.0
all_in_front P (x ∷ pairs) (suc n) (suc k) pair h less e = all_in_front P pairs n k pair h.1 (omega (arith, less)) e

first_behind : (P : Pair → Type 0) (pairs : List Pair) (n : ℕ) (pair : Pair) → AllByRecursion P (drop n pairs) → slice_get pairs n ≡ Some pair → P pair
first_behind P [] n pair h e = absurd (let bad : None ≡ Some pair = e in cc)
first_behind P (x ∷ pairs) zero pair h e = let s : x ≡ pair = let t : Some x ≡ Some pair = e in cc in subst P s h.0
first_behind P (x ∷ pairs) (suc n) pair h e = first_behind P pairs n pair h e

pub stops_from : (below : List ℕ → List ℕ → Type 0) (target : List ℕ) (pairs : List Pair) (index : ℕ) → IsFirstNotBelow below target pairs index → StopsAt (λ (key : List ℕ). below key target) pairs 0 index
stops_from below target pairs index h = record {
  inside = h.inside;
  reached = omega arith;
  front = λ k pair from less e. all_in_front (λ (p : Pair). below p.key target) pairs index k pair h.front less e;
  stop = λ pair e. first_behind (λ (p : Pair). below p.key target → ⊥) pairs index pair h.rest e;
}

module _ (passed : List ℕ → Type 0) where
  pub stops_first : ((key : List ℕ) → passed key → ⊥) → (pairs : List Pair) → StopsAt passed pairs 0 0
  stops_first none pairs = record {
    inside = omega arith;
    reached = omega arith;
    front = λ k pair from less e. absurd (omega (arith, less));
    stop = λ pair e p. none pair.key p;
  }

  -- where nothing is passed, it stops where it began
  pub stops_there : ((key : List ℕ) → passed key → ⊥) → (pairs : List Pair) (from index : ℕ) → StopsAt passed pairs from index → index ≡ from
  stops_there none pairs from index h = elim (cases_lt from index) [
    | inl less ↦
        let inside = h.inside in
        let x = some_at pairs from (omega (arith, less, inside)) in
        absurd (none x.0.key (h.front from x.0 (omega arith) less x.1))
    | inr ge ↦ let r = h.reached in omega (arith, ge, r)
  ]

  -- ---- over the blocks

  -- the pairs of the blocks from one index up to another are passed
  pub record HasPassed (groups : List (List Pair)) (start index : ℕ) : Type 0 where
    pub up : start ≤ index
    pub all : (k : ℕ) (pair : Pair) → pairs_before groups start ≤ k → k < pairs_before groups index → slice_get (joined groups) k ≡ Some pair → passed pair.key

  pub passed_none : (groups : List (List Pair)) (start : ℕ) → HasPassed groups start start
  passed_none groups start = record { up = omega arith; all = λ k pair from less e. absurd (omega (arith, from, less)) }

  -- a pair of the block of this index
  pub here : (groups : List (List Pair)) (index : ℕ) (pairs : List Pair) (k : ℕ) (pair : Pair) → slice_get groups index ≡ Some pairs → pairs_before groups index ≤ k → k < pairs_before groups index + length pairs
      → slice_get (joined groups) k ≡ Some pair → slice_get pairs (k - pairs_before groups index) ≡ Some pair
  here groups index pairs k pair e from less at =
      let j : ℕ = k - pairs_before groups index in
      let x = some_at pairs j (omega (arith, from, less)) in
      let there = item_in groups index pairs j x.0 e x.1 in
      let same : pairs_before groups index + j ≡ k = omega (arith, from) in
      x.1 ∙ sym (ap (slice_get (joined groups)) (sym same) ∙ there) ∙ at

  pub passed_more : (groups : List (List Pair)) (start index : ℕ) (pairs : List Pair) → HasPassed groups start index → slice_get groups index ≡ Some pairs
      → ((k : ℕ) (pair : Pair) → slice_get pairs k ≡ Some pair → passed pair.key) → HasPassed groups start (suc index)
  passed_more groups start index pairs h e each =
      let up = h.up in
      let more = before_more groups index pairs e in
      record {
        up = omega (arith, up);
        all = λ k pair from less at. elim (cases_lt k (pairs_before groups index)) [
          | inl l ↦ h.all k pair from l at
          | inr ge ↦ each (k - pairs_before groups index) pair (here groups index pairs k pair e ge (omega (arith, less, more)) at)
        ];
      }

  -- no pair of the block stops it
  pub passed_block : (groups : List (List Pair)) (start index : ℕ) (pairs : List Pair) (stop : ℕ) → HasPassed groups start index → slice_get groups index ≡ Some pairs → StopsAt passed pairs 0 stop → length pairs ≤ stop
      → HasPassed groups start (suc index)
  passed_block groups start index pairs stop h e stops end =
      passed_more groups start index pairs h e (λ k pair at. let w = slice_get_within pairs k pair at in stops.front k pair (omega arith) (omega (arith, w, end)) at)

  -- one does
  pub stops_in : (groups : List (List Pair)) (start index : ℕ) (pairs : List Pair) (stop : ℕ) → HasPassed groups start index → slice_get groups index ≡ Some pairs → StopsAt passed pairs 0 stop → stop < length pairs
      → StopsAt passed (joined groups) (pairs_before groups start) (pairs_before groups index + stop)
  stops_in groups start index pairs stop h e stops less =
      let fits = before_inside groups index pairs e in
      let up = before_up groups start index h.up in
      record {
        inside = omega (arith, fits, less);
        reached = omega (arith, up);
        front = λ k pair from under at. elim (cases_lt k (pairs_before groups index)) [
          | inl l ↦ h.all k pair from l at
          | inr ge ↦ stops.front (k - pairs_before groups index) pair (omega arith) (omega (arith, ge, under)) (here groups index pairs k pair e ge (omega (arith, under, less)) at)
        ];
        stop = λ pair at.
            let same : pairs_before groups index + stop - pairs_before groups index ≡ stop = omega arith in
            stops.stop pair (ap (slice_get pairs) (sym same) ∙ here groups index pairs (pairs_before groups index + stop) pair e (omega arith) (omega (arith, less)) at);
      }

  -- none of the blocks has one that does
  pub stops_nowhere : (groups : List (List Pair)) (start index : ℕ) → HasPassed groups start index → start ≤ length groups → length groups ≤ index
      → StopsAt passed (joined groups) (pairs_before groups start) (length (joined groups))
  stops_nowhere groups start index h fits end =
      let all = before_all groups in
      let up = before_up groups start (length groups) fits in
      let over = before_up groups (length groups) index end in
      record {
        inside = omega arith;
        reached = omega (arith, up, all);
        front = λ k pair from less at. h.all k pair from (omega (arith, less, all, over)) at;
        stop = λ pair at. let w = slice_get_within (joined groups) (length (joined groups)) pair at in absurd (omega (arith, w));
      }
