use Rattle.ikey.specs.Orders.{order_of}
use Rattle.std.proofs.Common.{refl}
use Rattle.engine.specs.declared.ranges.RangeWalk.{RangeWalk}
use Rattle.engine.specs.declared.ranges.Stage.TheVariants.{Ahead}
use Rattle.engine.proofs.RangeLeads.{leads_as}
use Rattle.engine.proofs.RangeSteps.{begins}
use Rattle.engine.proofs.db.Db.range.Goals as goal

pub returns-in-Ok-clause-step : goal.returns-in-Ok-clause-step
returns-in-Ok-clause-step g c =
    let walk : RangeWalk = record { id = c.in-Ok.id; keys = c.args.keys; stage = Ahead } in
    leads_as (λ m n h. begins (order_of g.K.KeyOrder.name g.K.KeyOrder.cmp) g.met.K.KeyOrder.total m n c.args.keys c.args.snapshot walk refl refl h) c.in-Ok.ensures.step
