-- Where a seek over a table leads.
use Rattle.std.proofs.Common.{◌≡◌, ◌<◌, ℕ, zero, suc, true, false, List, [], ◌∷◌, Option, Some, None, IsTrue, sym, ap, ◌∙◌, subst, arith, inl, inr}
use Rattle.std.specs.Cmp.{IsTotalOrder}
use Rattle.std.specs.List.{slice_get, AllByRecursion}
use Rattle.std.proofs.lemmas.Bool.{cases_lt}
use Rattle.std.proofs.lemmas.Option.{slice_get_within}
use Rattle.block.specs.Places.{Placed}
use Rattle.cursor.specs.Places.{Cmp, Listed, first_from, is_below, to_key, within}
use Rattle.cursor.proofs.Comparing.{below_is}
use Rattle.cursor.proofs.Singles.{leading_at, pairs_length, within_inside}
use Rattle.edits.specs.declared.field.PlacedTable.{PlacedTable}
use Rattle.ikey.specs.Below.{IsBelowInternal}
use Rattle.ikey.specs.Entries.{InternalEntry, Pair}
use Rattle.ikey.specs.Keys.{Key, IsKey}
use Rattle.table_access.specs.declared.in_block.InBlock.{InBlock}
use Rattle.table_access.specs.TablePlaces.{IsPlacedIn, ListsTable, StopsAt, joined, pairs_before}
use Rattle.table_access.specs.Tables.{Seen, Carries}
use Rattle.table_access.proofs.Arrivals.{lists_moved, same_within}
use Rattle.table_access.proofs.Entering.{pair_at}
use Rattle.table_access.proofs.Filling.{bounds_front}
use Rattle.table_access.proofs.Placing.{some_at}
use Rattle.table.specs.Frame.{Frame, IsFrame}
use Rattle.table.specs.Refusals.{IsFirstPlace}
use Rattle.table.specs.Table.{AreBounds, ArePairs}

pub all_at : (P : Pair → Type 0) (pairs : List Pair) (n : ℕ) (pair : Pair) → AllByRecursion P pairs → slice_get pairs n ≡ Some pair → P pair
all_at P [] n pair h e = absurd (let bad : None ≡ Some pair = e in cc)
all_at P (x ∷ pairs) zero pair h e = let s : x ≡ pair = let t : Some x ≡ Some pair = e in cc in subst P s h.0
all_at P (x ∷ pairs) (suc n) pair h e = all_at P pairs n pair h.1 e

module _ (cmp : Cmp) (total : IsTotalOrder cmp) (target file : List ℕ) (frame : Frame) (start : ℕ) (groups : List (List Pair)) (is : IsFrame cmp file frame) (first : IsFirstPlace cmp target frame.places start) (bounds : AreBounds cmp frame.places groups) where
  -- the pairs of the blocks before the first that can have the target
  pub below_front : (k : ℕ) (pair : Pair) → k < pairs_before groups start → slice_get (joined groups) k ≡ Some pair → IsBelowInternal cmp pair.key target
  below_front = bounds_front cmp total target file frame groups start is first bounds

  pub first_is : (entries : List InternalEntry) (key : Key) (place : ℕ) → ArePairs (joined groups) entries → IsKey target key → StopsAt (λ (other : List ℕ). IsBelowInternal cmp other target) (joined groups) (pairs_before groups start) place
      → place ≡ first_from cmp key entries
  first_is entries key place are is_key stops =
      let count = pairs_length (joined groups) entries are in
      let inside = stops.inside in
      leading_at (is_below cmp key) entries place
      (λ k entry less e.
      let x = some_at (joined groups) k (let w = slice_get_within entries k entry e in omega (arith, w, count)) in
      let p = pair_at (joined groups) entries k x.0 entry are x.1 e in
      let below : IsBelowInternal cmp x.0.key target = elim (cases_lt k (pairs_before groups start)) [
        | inl l ↦ below_front k x.0 l x.1
        | inr ge ↦ stops.front k x.0 ge less x.1
      ] in
      sym (below_is cmp x.0.key target entry.key key true below p.key is_key))
      (λ entry e.
      let x = some_at (joined groups) place (let w = slice_get_within entries place entry e in omega (arith, w, count)) in
      let p = pair_at (joined groups) entries place x.0 entry are x.1 e in
      sym (below_is cmp x.0.key target entry.key key false (stops.stop x.0 x.1) p.key is_key))
      (omega (arith, inside, count))

pub seek_moved : {numbers : ℕ → Type 0} (cmp : Cmp) → IsTotalOrder cmp → (old new : Seen) (placed : PlacedTable) (frame : Frame) (here to_here : Option (InBlock Placed)) (at : Listed) → Carries cmp numbers old new → IsTrue new.facts.faithful
    → (h : ListsTable cmp old placed frame here at) (target : List ℕ) (start : ℕ) (key : Key) → IsFirstPlace cmp target frame.places start → IsKey target key
    → ((place : ℕ) × StopsAt (λ (other : List ℕ). IsBelowInternal cmp other target) (joined h.groups) (pairs_before h.groups start) place × IsPlacedIn h.groups to_here (within (joined h.groups) place))
    → ListsTable cmp new placed frame to_here (record at { place = to_key cmp key at })
seek_moved cmp total old new placed frame here to_here at carries t h target start key first is_key found =
    let n = first_is cmp total target h.has.file frame start h.groups h.has.open_is.0 first h.bounds at.entries key found.0 h.entries_are is_key found.1 in
    let to : within (joined h.groups) found.0 ≡ to_key cmp key at = same_within (joined h.groups) at.entries found.0 (pairs_length (joined h.groups) at.entries h.entries_are) ∙ ap (within at.entries) n in
    lists_moved cmp old new placed frame here to_here at carries t h (to_key cmp key at) (subst (IsPlacedIn h.groups to_here) to found.2)
    (λ index e. within_inside at.entries (first_from cmp key at.entries) index e)
