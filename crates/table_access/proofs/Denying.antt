-- That a table's filter and index rule out a user key.
use Rattle.std.proofs.Common.{◌≡◌, ◌<◌, ◌≤◌, ◌+◌, ◌-◌, ◌++◌, ℕ, zero, suc, List, [], ◌∷◌, Option, Some, None, length, sym, ap, ◌∙◌, subst, arith, inl, inr}
use Rattle.std.specs.Cmp.{IsTotalOrder}
use Rattle.std.specs.List.{slice_get, AllByRecursion}
use Rattle.std.proofs.lemmas.Bool.{cases_lt}
use Rattle.std.proofs.lemmas.Option.{get_or_from_slice_get}
use Rattle.block.specs.Block.{AreAbove}
use Rattle.cursor.specs.Places.{Cmp}
use Rattle.filter.specs.Hash.{hash_of}
use Rattle.ikey.specs.Below.{IsBelowInternal, internal_transitive}
use Rattle.ikey.specs.Entries.{Pair}
use Rattle.ikey.specs.Keys.{Key, IsKey}
use Rattle.table_access.specs.TablePlaces.{joined, pairs_before}
use Rattle.table_access.proofs.Placing.{behind, before_zero, some_at}
use Rattle.table.specs.declared.handle.Place.{Place}
use Rattle.table.specs.Frame.{ArePlaces, TableAdmits}
use Rattle.table.specs.Refusals.{IsFirstPlace}
use Rattle.table.specs.Table.{AreAdmitted, AreBounds, IsBound}

pub all_at : {X : Type 0} (P : X → Type 0) (xs : List X) (n : ℕ) (x : X) → AllByRecursion P xs → slice_get xs n ≡ Some x → P x
all_at P [] n x h e = absurd (let bad : None ≡ Some x = e in cc)
all_at P (y ∷ xs) zero x h e = let s : y ≡ x = let t : Some y ≡ Some x = e in cc in subst P s h.0
all_at P (y ∷ xs) (suc n) x h e = all_at P xs n x h.1 e

all_both : (P : Pair → Type 0) (xs ys : List Pair) → AllByRecursion P xs → AllByRecursion P ys → AllByRecursion P (xs ++ ys)
all_both P [] ys h k = k
all_both P (x ∷ xs) ys h k = (h.0, all_both P xs ys h.1 k)

-- ---- the filter

pub admitted_at : (filter : Option (List ℕ)) (places : List Place) (groups : List (List Pair)) (i : ℕ) (place : Place) (pairs : List Pair) → AreAdmitted filter places groups → slice_get places i ≡ Some place
    → slice_get groups i ≡ Some pairs → (j : ℕ) (pair : Pair) (key : Key) → slice_get pairs j ≡ Some pair → IsKey pair.key key → TableAdmits filter place.handle.offset (hash_of key.user)
admitted_at None places groups i place pairs h e f j pair key at is = tt
admitted_at (Some filter) [] groups i place pairs h e f j pair key at is = absurd (let bad : None ≡ Some place = e in cc)
admitted_at (Some filter) (p ∷ places) [] i place pairs h e f j pair key at is = absurd (let bad : None ≡ Some pairs = f in cc)
admitted_at (Some filter) (p ∷ places) (g ∷ groups) zero place pairs h e f j pair key at is =
    let s : p ≡ place = let t : Some p ≡ Some place = e in cc in
    let r : g ≡ pairs = let t : Some g ≡ Some pairs = f in cc in
    subst (λ (q : Place). TableAdmits (Some filter) q.handle.offset (hash_of key.user)) s
    (all_at (λ (x : Pair). (k : Key) → IsKey x.key k → TableAdmits (Some filter) p.handle.offset (hash_of k.user)) g j pair h.0 (ap (λ (l : List Pair). slice_get l j) r ∙ at) key is)
admitted_at (Some filter) (p ∷ places) (g ∷ groups) (suc i) place pairs h e f j pair key at is = admitted_at (Some filter) places groups i place pairs h.1 e f j pair key at is

-- ---- bounds

module _ (cmp : Cmp) (total : IsTotalOrder cmp) where
  abbrev IsAbove : List ℕ → List ℕ → Type 0
  IsAbove a b = IsBelowInternal cmp a b

  -- each key of the index is below those after it
  pub BoundsRise : List Place → Type 0
  BoundsRise [] = Unit {0}
  BoundsRise (place ∷ places) = AllByRecursion (λ (later : Place). IsBelowInternal cmp place.key later.key) places × BoundsRise places

  places_above : (a b : List ℕ) (places : List Place) → IsBelowInternal cmp a b → AllByRecursion (λ (later : Place). IsBelowInternal cmp b later.key) places
      → AllByRecursion (λ (later : Place). IsBelowInternal cmp a later.key) places
  places_above a b [] less h = tt
  places_above a b (p ∷ places) less h = (internal_transitive cmp total a b p.key less h.0, places_above a b places less h.1)

  pairs_above : (a b : List ℕ) (pairs : List Pair) → IsBelowInternal cmp a b → AllByRecursion (λ (pair : Pair). IsBelowInternal cmp b pair.key) pairs → AllByRecursion (λ (pair : Pair). IsBelowInternal cmp a pair.key) pairs
  pairs_above a b [] less h = tt
  pairs_above a b (p ∷ pairs) less h = (internal_transitive cmp total a b p.key less h.0, pairs_above a b pairs less h.1)

  rise_behind : (first : List ℕ) (pairs : List Pair) (places : List Place) → AreAbove (IsBelowInternal cmp) (Some first) pairs → ArePlaces pairs places
      → AllByRecursion (λ (later : Place). IsBelowInternal cmp first later.key) places × BoundsRise places
  unfolding BoundsRise
  rise_behind first [] [] up are = (tt, tt)
  rise_behind first [] (p ∷ places) up are = absurd are
  rise_behind first (x ∷ pairs) [] up are = absurd are
  rise_behind first (x ∷ pairs) (p ∷ places) up are =
      let rest = rise_behind x.key pairs places up.1 are.2 in
      let less : IsBelowInternal cmp first p.key = subst (IsBelowInternal cmp first) are.0 up.0 in
      let above = subst (λ (k : List ℕ). AllByRecursion (λ (later : Place). IsBelowInternal cmp k later.key) places) are.0 rest.0 in
      ((less, places_above first p.key places less above), (above, rest.1))

  pub bounds_rise : (pairs : List Pair) (places : List Place) → AreAbove (IsBelowInternal cmp) None pairs → ArePlaces pairs places → BoundsRise places
  unfolding BoundsRise
  bounds_rise [] [] up are = tt
  bounds_rise [] (p ∷ places) up are = absurd are
  bounds_rise (x ∷ pairs) [] up are = absurd are
  bounds_rise (x ∷ pairs) (p ∷ places) up are =
      let rest = rise_behind x.key pairs places up are.2 in
      (subst (λ (k : List ℕ). AllByRecursion (λ (later : Place). IsBelowInternal cmp k later.key) places) are.0 rest.0, rest.1)

  pub later_above : (places : List Place) (i j : ℕ) (a b : Place) → BoundsRise places → i < j → slice_get places i ≡ Some a → slice_get places j ≡ Some b → IsBelowInternal cmp a.key b.key
  unfolding BoundsRise
  later_above [] i j a b rise less e f = absurd (let bad : None ≡ Some a = e in cc)
  later_above (p ∷ places) i zero a b rise less e f = absurd (omega (arith, less))
  later_above (p ∷ places) zero (suc j) a b rise less e f =
      let s : p ≡ a = let t : Some p ≡ Some a = e in cc in
      subst (λ (q : Place). IsBelowInternal cmp q.key b.key) s (all_at (λ (later : Place). IsBelowInternal cmp p.key later.key) places j b rise.0 f)
  later_above (p ∷ places) (suc i) (suc j) a b rise less e f = later_above places i j a b rise.1 (omega (arith, less)) e f

  -- the first block that can have a key is one
  no_later : (target : List ℕ) (places : List Place) (i j : ℕ) → BoundsRise places → IsFirstPlace cmp target places i → IsFirstPlace cmp target places j → i < j → ⊥
  no_later target places i j rise first later less =
      let inside = later.inside in
      let within : i < length places = omega (arith, less, inside) in
      let a = some_at places i within in
      let b = some_at places (j - 1) (omega (arith, less, inside)) in
      elim (cases_lt i (j - 1)) [
        | inl l ↦
            let below = subst (λ (q : Place). IsBelowInternal cmp q.key target) (get_or_from_slice_get places (j - 1) b.0 b.0 b.1) (later.front (j - 1) b.0 (omega (arith, less))) in
            let under = internal_transitive cmp total a.0.key b.0.key target (later_above places i (j - 1) a.0 b.0 rise l a.1 b.1) below in
            first.found a.0 within (subst (λ (q : Place). IsBelowInternal cmp q.key target) (sym (get_or_from_slice_get places i a.0 a.0 a.1)) under)
        | inr ge ↦ first.found a.0 within (later.front i a.0 (omega (arith, ge, less)))
      ]

  pub one_first_place : (target : List ℕ) (places : List Place) (i j : ℕ) → BoundsRise places → IsFirstPlace cmp target places i → IsFirstPlace cmp target places j → i ≡ j
  one_first_place target places i j rise first other = elim (cases_lt i j) [
    | inl l ↦ absurd (no_later target places i j rise first other l)
    | inr ge ↦ elim (cases_lt j i) [
      | inl l ↦ absurd (no_later target places j i rise other first l)
      | inr le ↦ omega (arith, ge, le)
    ]
  ]

  -- the first of these blocks is above
  FirstAbove : List ℕ → List (List Pair) → Type 0
  FirstAbove b [] = Unit {0}
  FirstAbove b (pairs ∷ groups) = AllByRecursion (λ (pair : Pair). IsBelowInternal cmp b pair.key) pairs

  next_above : (b bound : List ℕ) (pairs : List Pair) (groups : List (List Pair)) → IsBelowInternal cmp b bound → IsBound cmp bound pairs groups → FirstAbove b groups
  unfolding FirstAbove
  next_above b bound pairs [] less h = tt
  next_above b bound pairs (next ∷ groups) less h = pairs_above b bound next less h.1

  next_there : (bound : List ℕ) (pairs : List Pair) (groups : List (List Pair)) → IsBound cmp bound pairs groups → FirstAbove bound groups
  unfolding FirstAbove
  next_there bound pairs [] h = tt
  next_there bound pairs (next ∷ groups) h = h.1

  all_above : (b : List ℕ) (places : List Place) (groups : List (List Pair)) → AreBounds cmp places groups → AllByRecursion (λ (later : Place). IsBelowInternal cmp b later.key) places → FirstAbove b groups
      → AllByRecursion (λ (pair : Pair). IsBelowInternal cmp b pair.key) (joined groups)
  unfolding FirstAbove
  all_above b [] [] bounds keys first = tt
  all_above b [] (g ∷ groups) bounds keys first = absurd bounds
  all_above b (p ∷ places) [] bounds keys first = absurd bounds
  all_above b (p ∷ places) (g ∷ groups) bounds keys first =
      all_both (λ (pair : Pair). IsBelowInternal cmp b pair.key) g (joined groups) first (all_above b places groups bounds.1 keys.1 (next_above b p.key g groups keys.0 bounds.0))

  -- the pairs after a block are above its bound
  pub above_bound : (places : List Place) (groups : List (List Pair)) (i : ℕ) (place : Place) → AreBounds cmp places groups → BoundsRise places → slice_get places i ≡ Some place
      → (k : ℕ) (pair : Pair) → pairs_before groups (suc i) ≤ k → slice_get (joined groups) k ≡ Some pair → IsBelowInternal cmp place.key pair.key
  unfolding BoundsRise pairs_before
  above_bound [] groups i place bounds rise e k pair from at = absurd (let bad : None ≡ Some place = e in cc)
  above_bound (p ∷ places) [] i place bounds rise e k pair from at = absurd bounds
  above_bound (p ∷ places) (g ∷ groups) zero place bounds rise e k pair from at =
      let s : p ≡ place = let t : Some p ≡ Some place = e in cc in
      let z = before_zero groups in
      let shift : k ≡ length g + (k - length g) = omega (arith, from, z) in
      subst (λ (q : Place). IsBelowInternal cmp q.key pair.key) s
      (all_at (λ (x : Pair). IsBelowInternal cmp p.key x.key) (joined groups) (k - length g) pair (all_above p.key places groups bounds.1 rise.0 (next_there p.key g groups bounds.0))
      (sym (behind g (joined groups) (k - length g) k shift) ∙ at))
  above_bound (p ∷ places) (g ∷ groups) (suc i) place bounds rise e k pair from at =
      let shift : k ≡ length g + (k - length g) = omega (arith, from) in
      above_bound places groups i place bounds.1 rise.1 e (k - length g) pair (omega (arith, from)) (sym (behind g (joined groups) (k - length g) k shift) ∙ at)
