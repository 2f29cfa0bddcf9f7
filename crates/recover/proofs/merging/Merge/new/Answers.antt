use Rattle.std.proofs.Common.{arith, refl}
use Rattle.recover.proofs.MergeSteps.{filled_none, filled_more, filled_fits, filled_fresh}
use Rattle.recover.proofs.merging.Merge.new.Goals as goal

pub loop-placed-init : goal.loop-placed-init
loop-placed-init g c = filled_none c.args.tables.now c.new-begun.result.items c.new-summaries.result.items c.new-begun.ensures.items c.new-summaries.ensures.items

pub loop-placed-preserved : goal.loop-placed-preserved
loop-placed-preserved g c =
    filled_more c.args.tables.now c.loop-placed.placed-index c.placed-item.result c.loop-placed.begun.items c.push.new.self.items c.loop-placed.summaries.items c.push-in-loop-placed.new.self.items c.loop-placed-test.true c.placed-item.is c.loop-placed.invariant
    c.in_ok-push.ensures.items c.in_ok-push-2.ensures.items

pub returns-clause-fits : goal.returns-clause-fits
returns-clause-fits g c = filled_fits c.args.tables.now c.loop-placed.placed-index _ (omega arith) c.new-lanes.ensures.items c.loop-placed.invariant

pub returns-clause-fresh : goal.returns-clause-fresh
returns-clause-fresh g c = filled_fresh c.args.tables.now c.loop-placed.placed-index _ (omega arith) c.new-lanes.ensures.items refl c.loop-placed.invariant
