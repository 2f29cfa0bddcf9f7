use Rattle.std.proofs.Common.{◌<◌, ℕ}
use Rattle.mending.specs.Cutting.{IsMark}
use Rattle.mending.proofs.cutting.has_hole.Given as goal

-- None of the places so far is one.
abbrev pub invariant-loop-n : goal.invariant-loop-n
invariant-loop-n l = (k : ℕ) → 0 < k → k < l.n → IsMark l.rest k l.at → ⊥
