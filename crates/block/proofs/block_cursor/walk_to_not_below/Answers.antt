use Rattle.std.proofs.Common.{arith}
use Rattle.block.specs.Reading.{pairs_of}
use Rattle.block.proofs.Fronts.{readable_before}
use Rattle.block.proofs.Walks.{pass_on, stops, all_pass}
use Rattle.block.proofs.block_cursor.walk_to_not_below.Goals as goal

pub step-requires : goal.step-requires
step-requires g c =
    let w = c.loop-at.invariant in
    readable_before c.args.body.now (pairs_of c.args.body.now) w.index c.loop-at.key.items c.loop-at.at.next w.before (omega (arith, c.loop-at-test.true))

pub returns-then-not-is_below : goal.returns-then-not-is_below
returns-then-not-is_below g c =
    let old = c.loop-at.at in
    let new = c.step.new.at in
    stops g.O.EntryOrder.below c.args.target.now c.args.body.now (pairs_of c.args.body.now) c.loop-at.key.items old.next c.step.new.key.items new.start new.value new.next c.loop-at.invariant c.in_ok-step.ensures.read
    (rw c.as_slice.ensures.value at c.if-not-is_below.ensures)

pub loop-at-preserved : goal.loop-at-preserved
loop-at-preserved g c =
    let old = c.loop-at.at in
    let new = c.step.new.at in
    pass_on g.O.EntryOrder.below c.args.target.now c.args.body.now (pairs_of c.args.body.now) c.loop-at.key.items old.next c.step.new.key.items new.start new.value new.next c.loop-at.invariant c.in_ok-step.ensures.read
    (rw c.as_slice.ensures.value at c.if-not-is_below.ensures)

pub returns : goal.returns
returns g c =
    all_pass g.O.EntryOrder.below c.args.target.now c.args.body.now (pairs_of c.args.body.now) c.loop-at.key.items c.loop-at.at.next c.loop-at.invariant (omega (arith, c.loop-at-test.false))
