use Rattle.ikey.specs.Orders.{order_of}
use Rattle.engine.proofs.RangeLeads.{leads_as, leads_stay, steps_over, steps_refused, steps_settled}
use Rattle.engine.specs.StandsDb.{db_store_of, open_by}
use Rattle.engine.proofs.RangeOutcomes.{outcome_done, outcome_refused}
use Rattle.engine.proofs.RangeSteps.{same_settled}
use Rattle.engine.proofs.db.Db.range_next.Goals as goal

pub returns-then-is_over-clause-step : goal.returns-then-is_over-clause-step
returns-then-is_over-clause-step g c = leads_stay (λ m. steps_over (order_of g.K.KeyOrder.name g.K.KeyOrder.cmp) m c.args.walk.now c.if-is_over.ensures)

pub returns-in-Ok-clause-step : goal.returns-in-Ok-clause-step
returns-in-Ok-clause-step g c =
    leads_as (λ m n h. steps_settled (order_of g.K.KeyOrder.name g.K.KeyOrder.cmp) m n c.args.walk.now c.if-is_over.ensures c.settle.new.self c.in-Ok.found c.settle.result c.settle.ensures h) c.in-Ok.ensures.step

pub returns-in-Ok-clause-same : goal.returns-in-Ok-clause-same
returns-in-Ok-clause-same g c = same_settled g.K.KeyOrder.cmp c.args.walk.now c.settle.new.self c.in-Ok.found c.settle.result c.settle.ensures

pub returns-in-Err-clause-step : goal.returns-in-Err-clause-step
returns-in-Err-clause-step g c =
    leads_as (λ m n h. steps_refused (order_of g.K.KeyOrder.name g.K.KeyOrder.cmp) m n c.args.walk.now c.if-is_over.ensures c.in-Err.error h) c.in-Err.ensures.step

pub returns-in-Ok-clause-outcome : goal.returns-in-Ok-clause-outcome
returns-in-Ok-clause-outcome g c =
    outcome_done c.args.walk.now.stage c.args.walk.now.keys (g.S.Store.facts (db_store_of c.args.self.now)) (g.S.Store.facts (db_store_of c.move_walk.new.self)) (open_by c.args.self.now) (open_by c.move_walk.new.self) c.in-Ok.found c.settle.result c.in-Ok.ensures.outcome

pub returns-in-Err-clause-outcome : goal.returns-in-Err-clause-outcome
returns-in-Err-clause-outcome g c =
    outcome_refused c.args.walk.now.stage c.args.walk.now.keys (g.S.Store.facts (db_store_of c.args.self.now)) (g.S.Store.facts (db_store_of c.move_walk.new.self)) (open_by c.args.self.now) (open_by c.move_walk.new.self) c.in-Err.error c.in-Err.ensures.outcome
