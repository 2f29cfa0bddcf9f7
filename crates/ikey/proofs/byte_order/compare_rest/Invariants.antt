use Rattle.std.proofs.Common.{◌-◌}
use Rattle.ikey.proofs.Fronts.{Agree}
use Rattle.ikey.proofs.byte_order.compare_rest.Given as goal

-- all in front is equal
abbrev pub invariant-loop-at : goal.invariant-loop-at
invariant-loop-at l = Agree l.at l.a l.b

abbrev pub decreases-loop-at : goal.decreases-loop-at
decreases-loop-at l = l.last - l.at
