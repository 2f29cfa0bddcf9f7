-- A walk over a block with a cursor.
use Rattle.std.proofs.Common.{Bool, true, false, is_some, slice_get, option_and_then, Option, ◌-◌, ◌≡◌, ◌≤◌, ◌<◌, ℕ, zero, suc, List, [], ◌∷◌, ◌++◌, Some, None, length, take, refl, sym, ap, ◌∙◌, subst, arith, nat_lt, cond}
use Rattle.std.proofs.lemmas.List.{length-append}
use Rattle.std.specs.List.{AllByRecursion}
use Rattle.ikey.specs.Entries.{Pair}
use Rattle.std.proofs.lemmas.Bool.{ltb-true, ltb-false, cond_below}
use Rattle.block.specs.Places.{Placed, within, index_behind}

-- the cursor is over these pairs, as many as are found are the first of them, and it stands on the
-- next
pub record IsWalked (pairs : List Pair) (cursor : Placed) (found : List Pair) : Type 0 where
  pub pairs_are : cursor.pairs ≡ pairs
  pub inside : length found ≤ length pairs
  pub found_are : found ≡ take (length found) pairs
  pub place_is : cursor.place ≡ within pairs (length found)

pub stood : (pairs : List Pair) (n : ℕ) → is_some (within pairs n) ≡ true → n < length pairs
stood pairs n h = by_cases (nat_lt n (length pairs)) refl h where
  by_cases : (b : Bool) → nat_lt n (length pairs) ≡ b → is_some (within pairs n) ≡ true → n < length pairs
  by_cases true e h = ltb-true n (length pairs) e
  by_cases false e h = let none : within pairs n ≡ None = ap (λ (t : Bool). cond t (Some n) None) e in
      let t : false ≡ true = sym (ap is_some none) ∙ h in cc

pub not_stood : (pairs : List Pair) (n : ℕ) → is_some (within pairs n) ≡ false → length pairs ≤ n
not_stood pairs n h = by_cases (nat_lt n (length pairs)) refl h where
  by_cases : (b : Bool) → nat_lt n (length pairs) ≡ b → is_some (within pairs n) ≡ false → length pairs ≤ n
  by_cases false e h = ltb-false n (length pairs) e
  by_cases true e h = let some : within pairs n ≡ Some n = ap (λ (t : Bool). cond t (Some n) None) e in
      let t : true ≡ false = sym (ap is_some some) ∙ h in cc

pub within_yes : (pairs : List Pair) (n : ℕ) → n < length pairs → within pairs n ≡ Some n
within_yes pairs n p = sym (cond_below n (length pairs) (Some n) None p)

pub full : (pairs : List Pair) (n : ℕ) → length pairs ≤ n → take n pairs ≡ pairs
full [] zero p = refl
full [] (suc n) p = refl
full (pair ∷ pairs) zero p = absurd (omega arith)
full (pair ∷ pairs) (suc n) p = ap (λ (t : List Pair). pair ∷ t) (full pairs n (omega arith))

pub walked_none : (pairs : List Pair) (cursor : Placed) → cursor.pairs ≡ pairs → cursor.place ≡ within pairs 0 → IsWalked pairs cursor []
walked_none pairs cursor e h = record { pairs_are = e; inside = omega arith; found_are = refl; place_is = h }

pub one_at : (pairs : List Pair) (n : ℕ) → n < length pairs → (pair : Pair) × (slice_get pairs n ≡ Some pair) × (take (suc n) pairs ≡ take n pairs ++ pair ∷ [])
one_at [] n p = absurd (omega arith)
one_at (pair ∷ pairs) zero p = (pair, refl, refl)
one_at (other ∷ pairs) (suc n) p = let h = one_at pairs n (omega arith) in (h.0, h.1, ap (λ (t : List Pair). other ∷ t) h.2)

pub all_walked : (pairs : List Pair) (cursor : Placed) (found : List Pair) → IsWalked pairs cursor found → is_some cursor.place ≡ false → found ≡ pairs
all_walked pairs cursor found h none =
    h.found_are ∙ full pairs (length found) (not_stood pairs (length found) (sym (ap is_some h.place_is) ∙ none))

-- the pair at hand is the next one
pub walked_at : (pairs : List Pair) (cursor : Placed) (found : List Pair) → IsWalked pairs cursor found → is_some cursor.place ≡ true
    → (pair : Pair) × (cursor.place ≡ Some (length found)) × (slice_get cursor.pairs (length found) ≡ Some pair) × (take (suc (length found)) pairs ≡ take (length found) pairs ++ pair ∷ [])
walked_at pairs cursor found h some =
    let n : ℕ = length found in
    let p : n < length pairs = stood pairs n (sym (ap is_some h.place_is) ∙ some) in
    let here = one_at pairs n p in
    (here.0, h.place_is ∙ within_yes pairs n p, ap (λ (t : List Pair). slice_get t n) h.pairs_are ∙ here.1, here.2)

-- a step passes it
pub walked_on : (pairs : List Pair) (cursor next : Placed) (found : List Pair) (h : IsWalked pairs cursor found) (some : is_some cursor.place ≡ true) → next ≡ record cursor { place = option_and_then (index_behind cursor.pairs) cursor.place }
    → IsWalked pairs next (found ++ (walked_at pairs cursor found h some).0 ∷ [])
walked_on pairs cursor next found h some step =
    let n : ℕ = length found in
    let p : n < length pairs = stood pairs n (sym (ap is_some h.place_is) ∙ some) in
    let here = walked_at pairs cursor found h some in
    let len : length (found ++ here.0 ∷ []) ≡ suc n = omega (arith, length-append found (here.0 ∷ [])) in
    let taken : found ++ here.0 ∷ [] ≡ take n pairs ++ here.0 ∷ [] = let are = h.found_are in λ i. are i ++ here.0 ∷ [] in
    record {
      pairs_are = ap (λ (c : Placed). c.pairs) step ∙ h.pairs_are;
      inside = omega (arith, len, p);
      found_are = taken ∙ sym here.3 ∙ ap (λ (m : ℕ). take m pairs) (sym len);
      place_is = ap (λ (c : Placed). c.place) step ∙ ap (option_and_then (index_behind cursor.pairs)) here.1 ∙ (λ i. within (h.pairs_are i) (sym len i));
    }

-- how many pairs are left
abbrev pub left_at : List Pair → Option ℕ → ℕ
left_at pairs None = 0
left_at pairs (Some n) = length pairs - n

left_within : (pairs : List Pair) (n : ℕ) → n < length pairs → left_at pairs (within pairs (suc n)) < length pairs - n
left_within pairs n p = by_cases (nat_lt (suc n) (length pairs)) refl where
  by_cases : (b : Bool) → nat_lt (suc n) (length pairs) ≡ b → left_at pairs (within pairs (suc n)) < length pairs - n
  by_cases true e = let some : within pairs (suc n) ≡ Some (suc n) = ap (λ (t : Bool). cond t (Some (suc n)) None) e in
      let lt : suc n < length pairs = ltb-true (suc n) (length pairs) e in
      subst (λ (o : Option ℕ). left_at pairs o < length pairs - n) (sym some) (omega (arith, lt))
  by_cases false e = let none : within pairs (suc n) ≡ None = ap (λ (t : Bool). cond t (Some (suc n)) None) e in
      subst (λ (o : Option ℕ). left_at pairs o < length pairs - n) (sym none) (omega (arith, p))

pub fewer_left : (pairs : List Pair) (cursor next : Placed) (found : List Pair) → IsWalked pairs cursor found → is_some cursor.place ≡ true → next ≡ record cursor { place = option_and_then (index_behind cursor.pairs) cursor.place }
    → left_at next.pairs next.place < left_at cursor.pairs cursor.place
fewer_left pairs cursor next found h some step =
    let n : ℕ = length found in
    let p : n < length pairs = stood pairs n (sym (ap is_some h.place_is) ∙ some) in
    let place : cursor.place ≡ Some n = h.place_is ∙ within_yes pairs n p in
    let q : n < length cursor.pairs = subst (λ (ps : List Pair). n < length ps) (sym h.pairs_are) p in
    subst (λ (c : Placed). left_at c.pairs c.place < left_at cursor.pairs cursor.place) (sym step)
    (subst (λ (o : Option ℕ). left_at cursor.pairs (option_and_then (index_behind cursor.pairs) o) < left_at cursor.pairs o) (sym place) (left_within cursor.pairs n q))

pub all_push : (P : Pair → Type 0) (found : List Pair) (pair : Pair) → AllByRecursion P found → P pair → AllByRecursion P (found ++ pair ∷ [])
all_push P [] pair all here = (here, tt)
all_push P (x ∷ found) pair all here = (all.0, all_push P found pair all.1 here)

pub all_at : (P : Pair → Type 0) (pairs : List Pair) (n : ℕ) (pair : Pair) → slice_get pairs n ≡ Some pair → AllByRecursion P pairs → P pair
all_at P [] n pair at all = let bad : None ≡ Some pair = at in absurd cc
all_at P (x ∷ pairs) zero pair at all = let same : x ≡ pair = let both : Some x ≡ Some pair = at in cc in subst P same all.0
all_at P (x ∷ pairs) (suc n) pair at all = all_at P pairs n pair at all.1

pub walked_more : (pairs : List Pair) (cursor next : Placed) (found new : List Pair) (key value : List ℕ) → IsWalked pairs cursor found → is_some cursor.place ≡ true
    → ((index : ℕ) (pair : Pair) → cursor.place ≡ Some index → slice_get cursor.pairs index ≡ Some pair → key ≡ pair.key)
    → ((index : ℕ) (pair : Pair) → cursor.place ≡ Some index → slice_get cursor.pairs index ≡ Some pair → value ≡ pair.value)
    → new ≡ found ++ record { key = key; value = value } ∷ [] → next ≡ record cursor { place = option_and_then (index_behind cursor.pairs) cursor.place }
    → IsWalked pairs next new
walked_more pairs cursor next found new key value h some keys values e step =
    let n : ℕ = length found in
    let p : n < length pairs = stood pairs n (sym (ap is_some h.place_is) ∙ some) in
    let here = one_at pairs n p in
    let place : cursor.place ≡ Some n = h.place_is ∙ within_yes pairs n p in
    let there : slice_get cursor.pairs n ≡ Some here.0 = ap (λ (t : List Pair). slice_get t n) h.pairs_are ∙ here.1 in
    let k = keys n here.0 place there in
    let v = values n here.0 place there in
    let same : record { key = key; value = value } ≡ here.0 = λ i. record { key = k i; value = v i } in
    let len : length new ≡ suc n = omega (arith, ap length e, length-append found (record { key = key; value = value } ∷ [])) in
    record {
      pairs_are = ap (λ (c : Placed). c.pairs) step ∙ h.pairs_are;
      inside = omega (arith, len, p);
      found_are = e ∙ (λ i. h.found_are i ++ same i ∷ []) ∙ sym here.2 ∙ ap (λ (m : ℕ). take m pairs) (sym len);
      place_is = ap (λ (c : Placed). c.place) step ∙ ap (option_and_then (index_behind cursor.pairs)) place ∙ (λ i. within (h.pairs_are i) (sym len i));
    }
