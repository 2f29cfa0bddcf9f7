use Rattle.ikey.specs.Orders.{order_of}
use Rattle.std.proofs.Common.{◌∙◌, refl, arith}
use Rattle.engine.proofs.RangeLeads.{fill_all, fill_ended, fill_more, fill_refused, fill_starved, leads_stay, leaves_itself, leaves_then}
use Rattle.engine.proofs.RangeRuns.{filled_none}
use Rattle.engine.specs.StandsDb.{db_store_of}
use Rattle.engine.proofs.db.Db.range_fill.Goals as goal

pub loop-init : goal.loop-init
loop-init g c = record {
  steps = leads_stay (λ m. filled_none (order_of g.K.KeyOrder.name g.K.KeyOrder.cmp) m c.args.walk.now c.args.sink.now.items);
  same = (refl, refl);
  leaves = leaves_itself (g.S.Store.facts (db_store_of c.args.self.now));
  ids = refl;
  whole = refl;
  opening = record { options = refl; failures = refl };
}

pub returns-then-is_err-clause-step : goal.returns-then-is_err-clause-step
returns-then-is_err-clause-step g c =
    fill_starved (order_of g.K.KeyOrder.name g.K.KeyOrder.cmp) c.loop.counter c.args.limit c.args.walk.now c.loop.walk c.args.sink.now.items c.loop.sink.items _ c.reserve.ensures.items c.loop.invariant.steps

pub returns-in-Ok-None-clause-step : goal.returns-in-Ok-None-clause-step
returns-in-Ok-None-clause-step g c =
    fill_ended (order_of g.K.KeyOrder.name g.K.KeyOrder.cmp) c.loop.counter c.args.limit c.args.walk.now c.loop.walk c.args.sink.now.items c.loop.sink.items _ c.reserve.ensures.items c.loop.invariant.steps c.loop.invariant.same.0 c.range_next.new.walk (omega (arith, c.loop-test.true))
    (rw c.in-Ok-None.field-0-is at c.in-Ok-None.ensures.step)

pub returns-in-Err-clause-step : goal.returns-in-Err-clause-step
returns-in-Err-clause-step g c =
    fill_refused (order_of g.K.KeyOrder.name g.K.KeyOrder.cmp) c.loop.counter c.args.limit c.args.walk.now c.loop.walk c.args.sink.now.items c.loop.sink.items _ c.reserve.ensures.items c.loop.invariant.steps c.loop.invariant.same.0 c.range_next.new.walk c.in-Err.error c.in-Err.ensures.step

pub returns-in-Err-clause-allowed : goal.returns-in-Err-clause-allowed
returns-in-Err-clause-allowed g c = c.in-Err.ensures.outcome.allowed

pub loop-preserved : goal.loop-preserved
loop-preserved g c = record {
  steps =
      fill_more (order_of g.K.KeyOrder.name g.K.KeyOrder.cmp) c.loop.counter c.args.limit c.args.walk.now c.loop.walk c.args.sink.now.items c.loop.sink.items _ c.reserve.ensures.items c.loop.invariant.steps c.loop.invariant.same.0 c.range_next.new.walk c.in-Ok-Some.pair _ (rw c.unwrap.ensures at c.push.ensures.items)
      (rw c.in-Ok-Some.field-0-is at c.in-Ok-Some.ensures.step);
  same = (c.range_next.ensures.same.0 ∙ c.loop.invariant.same.0, c.range_next.ensures.same.1 ∙ c.loop.invariant.same.1);
  leaves = leaves_then (g.S.Store.facts (db_store_of c.args.self.now)) (g.S.Store.facts (db_store_of c.loop.self)) (g.S.Store.facts (db_store_of c.range_next.new.self)) c.range_next.ensures.step.faithful c.loop.invariant.leaves c.range_next.ensures.leaves;
  ids = c.range_next.ensures.ids ∙ c.loop.invariant.ids;
  whole = c.range_next.ensures.whole ∙ c.loop.invariant.whole;
  opening = record {
    options = c.range_next.ensures.opening.options ∙ c.loop.invariant.opening.options;
    failures = c.range_next.ensures.opening.failures ∙ c.loop.invariant.opening.failures;
  };
}

pub returns-clause-step : goal.returns-clause-step
returns-clause-step g c =
    fill_all (order_of g.K.KeyOrder.name g.K.KeyOrder.cmp) c.loop.counter c.args.limit c.args.walk.now c.loop.walk c.args.sink.now.items c.loop.sink.items _ refl c.loop.invariant.steps (omega (arith, c.loop-test.false, c.loop.auto.counter-end))
