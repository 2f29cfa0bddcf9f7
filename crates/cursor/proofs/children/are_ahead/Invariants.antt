use Rattle.cursor.proofs.Sides.{AreAhead}
use Rattle.cursor.proofs.children.are_ahead.Given as goal

abbrev pub invariant-loop-index : goal.invariant-loop-index
invariant-loop-index g l = AreAhead l.index l.children
