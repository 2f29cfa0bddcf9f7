use Rattle.table.proofs.Layouts.{IsReached}
use Rattle.table.proofs.layout.sorted_are_separate.Given as goal

abbrev pub invariant-loop-handle : goal.invariant-loop-handle
invariant-loop-handle l = IsReached l.end l.handles l.handle-index l.reached
