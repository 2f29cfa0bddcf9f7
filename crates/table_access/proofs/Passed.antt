-- The blocks that a search has passed, in each list that a table may be.
use Rattle.std.proofs.Common.{◌≡◌, ◌≤◌, ℕ, zero, suc, List, Some, length, sym, ap, ◌∙◌, subst, arith, inl, inr}
use Rattle.std.specs.List.{slice_get}
use Rattle.std.proofs.lemmas.Bool.{cases_lt}
use Rattle.cursor.specs.Places.{Cmp}
use Rattle.edits.specs.declared.field.PlacedTable.{PlacedTable}
use Rattle.ikey.specs.Entries.{Pair}
use Rattle.table_access.specs.Ends.{IsIntactIn}
use Rattle.table_access.specs.TablePlaces.{joined, pairs_before}
use Rattle.table_access.specs.Telling.{CameTo}
use Rattle.table_access.proofs.Placing.{before_all, before_up, some_at}
use Rattle.table_access.proofs.Stopping.{HasPassed, passed_more, passed_none}
use Rattle.table.specs.Frame.{Frame}

module _ (cmp : Cmp) (placed : PlacedTable) (file : List ℕ) (frame : Frame) (groups : List (List Pair))
    (each : (index : ℕ) (pairs others : List Pair) → slice_get groups index ≡ Some pairs → IsIntactIn cmp placed file frame.places index others → pairs ≡ others) where
  pub came_passed : (passed : List ℕ → Type 0) (start index : ℕ) → CameTo cmp passed placed file frame start index → start ≤ index → index ≤ length groups → HasPassed passed groups start index
  came_passed passed start zero came low high = let same : start ≡ 0 = omega (arith, low) in subst (λ (n : ℕ). HasPassed passed groups n 0) (sym same) (passed_none passed groups 0)
  came_passed passed start (suc index) came low high = elim (cases_lt index start) [
    | inl less ↦ let same : start ≡ suc index = omega (arith, less, low) in subst (HasPassed passed groups start) same (passed_none passed groups start)
    | inr ge ↦
        let rest = came_passed passed start index (λ k from less. came k from (omega (arith, less))) ge (omega (arith, high)) in
        let g = some_at groups index (omega (arith, high)) in
        let one = came index ge (omega arith) in
        let same = each index g.0 one.0 g.1 one.1 in
        passed_more passed groups start index g.0 rest g.1 (λ k pair at. one.2 k pair (ap (λ (ps : List Pair). slice_get ps k) (sym same) ∙ at))
  ]

-- where nothing is passed, there is no pair
pub none_between : (groups : List (List Pair)) (start index : ℕ) → HasPassed (λ (key : List ℕ). ⊥) groups start index → index ≤ length groups → pairs_before groups index ≡ pairs_before groups start
none_between groups start index passed fits = elim (cases_lt (pairs_before groups start) (pairs_before groups index)) [
  | inl less ↦
      let all = before_all groups in
      let up = before_up groups index (length groups) fits in
      let x = some_at (joined groups) (pairs_before groups start) (omega (arith, less, up, all)) in
      absurd (passed.all (pairs_before groups start) x.0 (omega arith) less x.1)
  | inr ge ↦ let up = before_up groups start index passed.up in omega (arith, ge, up)
]
