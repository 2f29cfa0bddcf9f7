use Rattle.std.proofs.Common.{◌≡◌, ◌≤◌, ◌-◌, ℕ, suc, Some, length}
use Rattle.std.specs.List.{slice_get}
use Rattle.edits.specs.declared.field.PlacedTable.{PlacedTable}
use Rattle.ikey.specs.Below.{IsBelowInternal}
use Rattle.level_cursor.proofs.row_search.first_table.Given as goal

-- the table before `low`, if there is one, ends below the key, and the one at `high`, if there is
-- one, doesn't
abbrev pub invariant-loop-low : goal.invariant-loop-low
invariant-loop-low g l = record {
  within : l.low ≤ l.high;
  end : l.high ≤ length l.row;
  front : (k : ℕ) (placed : PlacedTable) → l.low ≡ suc k → slice_get l.row k ≡ Some placed → IsBelowInternal g.K.KeyOrder.cmp placed.table.largest l.target;
  here : (placed : PlacedTable) → slice_get l.row l.high ≡ Some placed → IsBelowInternal g.K.KeyOrder.cmp placed.table.largest l.target → ⊥;
}

abbrev pub decreases-loop-low : goal.decreases-loop-low
decreases-loop-low g l = l.high - l.low
