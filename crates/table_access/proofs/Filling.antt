-- Groups of pairs that lie within the bounds of their blocks.
use Rattle.std.proofs.Common.{◌≡◌, ◌<◌, ◌-◌, ◌+◌, ℕ, zero, suc, List, [], ◌∷◌, Some, None, length, refl, sym, ap, ◌∙◌, subst, arith, inl, inr}
use Rattle.std.specs.Cmp.{IsTotalOrder}
use Rattle.std.specs.List.{slice_get, AllByRecursion}
use Rattle.std.proofs.lemmas.Bool.{cases_lt}
use Rattle.std.proofs.lemmas.Option.{get_or_from_slice_get}
use Rattle.block.specs.Block.{AreAbove}
use Rattle.cursor.specs.Places.{Cmp}
use Rattle.edits.specs.declared.field.PlacedTable.{PlacedTable}
use Rattle.ikey.specs.Below.{IsBelowInternal, internal_transitive}
use Rattle.ikey.specs.Entries.{InternalEntry, Pair}
use Rattle.table_access.specs.Possible.{MayHave}
use Rattle.table_access.specs.TablePlaces.{joined, pairs_before}
use Rattle.table_access.proofs.Denying.{BoundsRise, all_at, bounds_rise, later_above}
use Rattle.table_access.proofs.Placing.{behind, data_length, in_front, some_at}
use Rattle.table.specs.declared.handle.Place.{Place}
use Rattle.table.specs.Frame.{Frame, IsFrame}
use Rattle.table.specs.Refusals.{IsFirstPlace}
use Rattle.table.specs.Table.{AreAdmitted, AreBounds, ArePairs, IsAtMost, IsBound, IsFilled}

-- what the groups of a table have, and those of each list that a table may be
pub record IsFilling (cmp : Cmp) (frame : Frame) (groups : List (List Pair)) (entries : List InternalEntry) : Type 0 where
  pub same_length : length frame.places ≡ length groups
  pub bounds : AreBounds cmp frame.places groups
  pub entries_are : ArePairs (joined groups) entries
  pub rises : AreAbove (IsBelowInternal cmp) None (joined groups)
  pub admitted : AreAdmitted frame.filter frame.places groups

pub filling_of : (cmp : Cmp) (file : List ℕ) (frame : Frame) (entries : List InternalEntry) → (filled : IsFilled cmp file frame entries) → IsFilling cmp frame filled.blocks entries
filling_of cmp file frame entries filled = record {
  same_length = data_length cmp file frame.places filled.blocks filled.data_is;
  bounds = filled.bounds;
  entries_are = filled.entries_are;
  rises = filled.rises;
  admitted = filled.admitted;
}

pub filling_may : (cmp : Cmp) (placed : PlacedTable) (file : List ℕ) (frame : Frame) (entries : List InternalEntry) → (may : MayHave cmp placed file frame entries) → IsFilling cmp frame may.groups entries
filling_may cmp placed file frame entries may = record { same_length = may.same_length; bounds = may.bounds; entries_are = may.entries_are; rises = may.rises; admitted = may.admitted }

-- ---- the blocks before the first that can have a key

bounded : (cmp : Cmp) (bound : List ℕ) (pairs : List Pair) (groups : List (List Pair)) → IsBound cmp bound pairs groups → AllByRecursion (λ (pair : Pair). IsAtMost cmp pair.key bound) pairs
bounded cmp bound pairs [] h = h
bounded cmp bound pairs (next ∷ groups) h = h.0

module _ (cmp : Cmp) (total : IsTotalOrder cmp) (target : List ℕ) where
  at_most_below : (a b : List ℕ) → IsAtMost cmp a b → IsBelowInternal cmp b target → IsBelowInternal cmp a target
  at_most_below a b (inl same) h = subst (λ (k : List ℕ). IsBelowInternal cmp k target) (sym same) h
  at_most_below a b (inr less) h = internal_transitive cmp total a b target less h

  -- the pairs of so many blocks are below it where their bounds are
  front_under : (places : List Place) (groups : List (List Pair)) (n : ℕ) → AreBounds cmp places groups → ((i : ℕ) (place : Place) → i < n → slice_get places i ≡ Some place → IsBelowInternal cmp place.key target)
      → (k : ℕ) (pair : Pair) → k < pairs_before groups n → slice_get (joined groups) k ≡ Some pair → IsBelowInternal cmp pair.key target
  unfolding pairs_before
  front_under [] [] n bounds h k pair less at = absurd (let bad : None ≡ Some pair = at in cc)
  front_under [] (g ∷ groups) n bounds h k pair less at = absurd bounds
  front_under (p ∷ places) [] n bounds h k pair less at = absurd bounds
  front_under (p ∷ places) (g ∷ groups) zero bounds h k pair less at = absurd (omega (arith, less))
  front_under (p ∷ places) (g ∷ groups) (suc n) bounds h k pair less at = elim (cases_lt k (length g)) [
    | inl l ↦
        let x = some_at g k l in
        let both : Some x.0 ≡ Some pair = sym (in_front g (joined groups) k x.0 x.1) ∙ at in
        let same : x.0 ≡ pair = cc in
        let most = all_at (λ (q : Pair). IsAtMost cmp q.key p.key) g k x.0 (bounded cmp p.key g groups bounds.0) x.1 in
        at_most_below pair.key p.key (subst (λ (q : Pair). IsAtMost cmp q.key p.key) same most) (h 0 p (omega arith) refl)
    | inr ge ↦
        let shift : k ≡ length g + (k - length g) = omega (arith, ge) in
        front_under places groups n bounds.1 (λ i place l e. h (suc i) place (omega (arith, l)) e) (k - length g) pair (omega (arith, less, ge)) (sym (behind g (joined groups) (k - length g) k shift) ∙ at)
  ]

  -- the same for the bounds of all before the first that isn't
  places_under : (places : List Place) (start : ℕ) → BoundsRise cmp total places → IsFirstPlace cmp target places start → (i : ℕ) (place : Place) → i < start → slice_get places i ≡ Some place → IsBelowInternal cmp place.key target
  places_under places start rise first i place less at =
      let inside = first.inside in
      let last = some_at places (start - 1) (omega (arith, less, inside)) in
      let below = subst (λ (q : Place). IsBelowInternal cmp q.key target) (get_or_from_slice_get places (start - 1) last.0 last.0 last.1) (first.front (start - 1) last.0 (omega (arith, less))) in
      elim (cases_lt i (start - 1)) [
        | inl l ↦ internal_transitive cmp total place.key last.0.key target (later_above cmp total places i (start - 1) place last.0 rise l at last.1) below
        | inr ge ↦
            let same : start - 1 ≡ i = omega (arith, ge, less) in
            let both : Some last.0 ≡ Some place = sym last.1 ∙ (ap (slice_get places) same ∙ at) in
            let s : last.0 ≡ place = cc in
            subst (λ (q : Place). IsBelowInternal cmp q.key target) s below
      ]

  pub bounds_front : (file : List ℕ) (frame : Frame) (groups : List (List Pair)) (start : ℕ) → IsFrame cmp file frame → IsFirstPlace cmp target frame.places start → AreBounds cmp frame.places groups
      → (k : ℕ) (pair : Pair) → k < pairs_before groups start → slice_get (joined groups) k ≡ Some pair → IsBelowInternal cmp pair.key target
  bounds_front file frame groups start is first bounds =
      let rise = bounds_rise cmp total is.index_is.1 frame.places is.index_is.3.2.rises is.index_is.4 in
      front_under frame.places groups start bounds (places_under frame.places start rise first)

  pub filling_front : (file : List ℕ) (frame : Frame) (groups : List (List Pair)) (entries : List InternalEntry) (start : ℕ) → IsFrame cmp file frame → IsFirstPlace cmp target frame.places start → IsFilling cmp frame groups entries
      → (k : ℕ) (pair : Pair) → k < pairs_before groups start → slice_get (joined groups) k ≡ Some pair → IsBelowInternal cmp pair.key target
  filling_front file frame groups entries start is first filling = bounds_front file frame groups start is first filling.bounds
