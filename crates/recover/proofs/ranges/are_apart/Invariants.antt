use Rattle.std.proofs.Common.{◌<◌}
use Rattle.std.specs.List.{AllAdjacentBelow}
use Rattle.ikey.specs.Orders.{order_of}
use Rattle.recover.specs.internal.RangeOrder.{EndsBefore}
use Rattle.recover.proofs.ranges.are_apart.Given as goal

abbrev pub invariant-loop-place : goal.invariant-loop-place
invariant-loop-place g l = record {
  behind : 0 < l.place;
  apart : AllAdjacentBelow (EndsBefore (order_of g.K.KeyOrder.name g.K.KeyOrder.cmp)) l.ranges l.place;
}
