use Rattle.std.proofs.Common.{◌≡◌, ◌≤◌, ℕ, length, get_or}
use Rattle.mending.proofs.finding.zeros_at_end.Given as goal

-- From there on all are zeros.
abbrev pub invariant-loop-left : goal.invariant-loop-left
invariant-loop-left l = (l.left ≤ length l.bytes) × ((i : ℕ) → l.left ≤ i → get_or l.bytes i 0 ≡ 0)

abbrev pub decreases-loop-left : goal.decreases-loop-left
decreases-loop-left l = l.left
