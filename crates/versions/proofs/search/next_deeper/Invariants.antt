use Rattle.std.proofs.Common.{length}
use Rattle.versions.proofs.Deeper.{IsRest}
use Rattle.versions.proofs.search.next_deeper.Given as goal

-- what is searched of all tables is searched of the rest
abbrev pub invariant-loop-first : goal.invariant-loop-first
invariant-loop-first g l = IsRest g.K.KeyOrder.cmp l.key l.tables l.from l.rest

abbrev pub decreases-loop-first : goal.decreases-loop-first
decreases-loop-first g l = length l.rest
