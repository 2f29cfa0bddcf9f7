use Rattle.std.proofs.Common.{arith}
use Rattle.table.proofs.Layouts.{overlaps, past_the_end, all_reached}
use Rattle.table.proofs.layout.sorted_are_separate.Goals as goal
use Rattle.table.proofs.layout.sorted_are_separate.Goals.{then-handle-reached-via-then-handle-reached, then-handle-reached-via-else-handle-reached+then-handle-end}

pub returns-then-handle-reached : goal.returns-then-handle-reached
returns-then-handle-reached c = elim c.then-handle-reached.branch [
  | then-handle-reached-via-then-handle-reached w ↦
      overlaps c.args.end c.args.handles.now c.loop-handle.handle-index c.loop-handle.reached _ (omega arith) c.requires c.loop-handle.invariant w.if-handle-reached.true
  | then-handle-reached-via-else-handle-reached+then-handle-end w ↦
      past_the_end c.args.end c.args.handles.now c.loop-handle.handle-index (record { offset = 0; size = 0 }) (omega arith) (omega (arith, w.if-handle-end.true))
]

pub returns : goal.returns
returns c = all_reached c.args.end c.args.handles.now c.loop-handle.handle-index c.loop-handle.reached (omega arith) c.loop-handle.invariant
