-- Where a step over a table leads, and where it stays.
use Rattle.std.proofs.Common.{◌≡◌, ℕ, List, Option, Some, None, is_some, IsTrue, sym, ap, ◌∙◌}
use Rattle.std.specs.Option.{option_and_then}
use Rattle.block.specs.Places.{Placed}
use Rattle.cursor.specs.Places.{Cmp, Listed, index_before, index_behind, to_next, to_prev, within}
use Rattle.edits.specs.declared.field.PlacedTable.{PlacedTable}
use Rattle.table_access.specs.declared.in_block.InBlock.{InBlock}
use Rattle.table_access.specs.TablePlaces.{IsPlacedIn, ListsTable, StepsOn, StepsBack, StopsAt, joined, pairs_before}
use Rattle.table_access.specs.Tables.{Seen, Carries}
use Rattle.table_access.proofs.Arrivals.{next_here, next_moved, prev_here, prev_moved, same_behind, same_count, stayed}
use Rattle.table.specs.Frame.{Frame}

module _ {numbers : ℕ → Type 0} (cmp : Cmp) (old new : Seen) (placed : PlacedTable) (frame : Frame) (here to_here : Option (InBlock Placed)) (at : Listed) (carries : Carries cmp numbers old new) (t : IsTrue new.facts.faithful)
    (h : ListsTable cmp old placed frame here at) where
  -- within the block
  pub went_on : StepsOn h.groups to_here at.place None → IsTrue (is_some (to_next at)) × ListsTable cmp new placed frame to_here (record at { place = to_next at })
  went_on steps =
      let same = same_behind (joined h.groups) at.entries at.place (same_count cmp old new placed frame here to_here at carries t h) in
      (sym (ap is_some same) ∙ steps.0, next_here cmp old new placed frame here to_here at carries t h steps.1)

  pub went_back : StepsBack h.groups to_here at.place None → IsTrue (is_some (to_prev at)) × ListsTable cmp new placed frame to_here (record at { place = to_prev at })
  went_back steps = (steps.0, prev_here cmp old new placed frame here to_here at carries t h steps.1)

  -- it stays
  pub stays_put : IsPlacedIn h.groups to_here at.place → ListsTable cmp new placed frame to_here at
  stays_put at_place = stayed cmp old new placed frame here to_here at carries t h at_place

module _ {numbers : ℕ → Type 0} (cmp : Cmp) (old new : Seen) (placed : PlacedTable) (frame : Frame) (here : Option (InBlock Placed)) (at : Listed) (carries : Carries cmp numbers old new) (t : IsTrue new.facts.faithful) (h : ListsTable cmp old placed frame here at) where
  -- to another block
  pub reached_on : (found : InBlock Placed) (start : ℕ) → within (joined h.groups) (pairs_before h.groups start) ≡ option_and_then (index_behind (joined h.groups)) at.place
      → ((place : ℕ) × StopsAt (λ (key : List ℕ). ⊥) (joined h.groups) (pairs_before h.groups start) place × IsPlacedIn h.groups (Some found) (within (joined h.groups) place))
      → IsTrue (is_some (to_next at)) × ListsTable cmp new placed frame (Some found) (record at { place = to_next at })
  reached_on found start follows stops =
      let moved = next_moved cmp old new placed frame here (Some found) at carries t h start follows stops in
      (ap is_some moved.place.place_is, moved)

  pub reached_back : (found : InBlock Placed) (end : ℕ) → index_before (pairs_before h.groups end) ≡ option_and_then index_before at.place → IsPlacedIn h.groups (Some found) (index_before (pairs_before h.groups end))
      → IsTrue (is_some (to_prev at)) × ListsTable cmp new placed frame (Some found) (record at { place = to_prev at })
  reached_back found end precedes at_place =
      let moved = prev_moved cmp old new placed frame here (Some found) at carries t h end precedes at_place in
      (ap is_some moved.place.place_is, moved)

  -- there is none
  pub ended_on : (start : ℕ) → within (joined h.groups) (pairs_before h.groups start) ≡ option_and_then (index_behind (joined h.groups)) at.place
      → ((place : ℕ) × StopsAt (λ (key : List ℕ). ⊥) (joined h.groups) (pairs_before h.groups start) place × IsPlacedIn h.groups None (within (joined h.groups) place))
      → to_next at ≡ None
  ended_on start follows stops = (next_moved cmp old new placed frame here None at carries t h start follows stops).place

  pub ended_back : (end : ℕ) → index_before (pairs_before h.groups end) ≡ option_and_then index_before at.place → IsPlacedIn h.groups None (index_before (pairs_before h.groups end)) → to_prev at ≡ None
  ended_back end precedes at_place = (prev_moved cmp old new placed frame here None at carries t h end precedes at_place).place

-- at the last entry, and at the first, a step leads nowhere
pub next_nowhere : (cmp : Cmp) (new : Seen) (placed : PlacedTable) (frame : Frame) (here : Option (InBlock Placed)) (at : Listed) (to : Option ℕ) → to ≡ None → ListsTable cmp new placed frame here at
    → ListsTable cmp new placed frame None (record at { place = to })
next_nowhere cmp new placed frame here at to none h = record {
  groups = h.groups;
  has = h.has;
  ends = h.ends;
  bounds = h.bounds;
  entries_are = h.entries_are;
  rises = h.rises;
  inside = λ index e. let bad : None ≡ Some index = sym none ∙ e in absurd cc;
  place = none;
}
