use Rattle.std.proofs.Common.{◌<◌, ◌≤◌, ℕ}
use Rattle.edits.specs.declared.field.PlacedTable.{PlacedTable as Placed}
use Rattle.versions.specs.Searches.{IsSearchedAt}
use Rattle.versions.proofs.search.next_searched.Given as goal

-- nothing is searched at the places so far
abbrev pub invariant-loop-place : goal.invariant-loop-place
invariant-loop-place g l = (other : ℕ) (passed : Placed) → l.from ≤ other → other < l.place → IsSearchedAt g.K.KeyOrder.cmp l.key l.tables other passed → ⊥
