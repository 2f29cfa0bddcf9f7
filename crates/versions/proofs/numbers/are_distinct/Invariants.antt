use Rattle.std.proofs.Common.{◌<◌, ◌+◌, ℕ, get_or}
use Rattle.versions.proofs.numbers.are_distinct.Given as goal

-- those in front differ from those after them
abbrev pub invariant-loop-index : goal.invariant-loop-index
invariant-loop-index l = (k : ℕ) → k + 1 < l.index → get_or l.numbers k 0 < get_or l.numbers (k + 1) 0
