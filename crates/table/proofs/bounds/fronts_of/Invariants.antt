use Rattle.std.proofs.Common.{◌≡◌, length}
use Rattle.table.specs.KeyFronts.{AreFronts}
use Rattle.table.proofs.bounds.fronts_of.Given as goal

-- those so far
abbrev pub invariant-loop-place : goal.invariant-loop-place
invariant-loop-place l = AreFronts l.places l.fronts.items × (length l.fronts.items ≡ l.place-index)
