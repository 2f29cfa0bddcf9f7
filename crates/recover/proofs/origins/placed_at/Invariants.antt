use Rattle.std.proofs.Common.{◌≡◌, ◌<◌, ℕ, get_or}
use Rattle.edits.specs.declared.field.PlacedTable.{PlacedTable}
use Rattle.recover.proofs.origins.placed_at.Given as goal

-- none of the tables so far has the level and the number
abbrev pub invariant-loop-placed : goal.invariant-loop-placed
invariant-loop-placed l = (k : ℕ) (placed : PlacedTable) → k < l.placed-index → get_or l.placed-items k placed ≡ placed → placed.level ≡ l.level → placed.table.number ≡ l.number → ⊥
