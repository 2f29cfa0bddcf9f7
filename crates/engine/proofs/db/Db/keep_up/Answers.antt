use Rattle.ikey.specs.Orders.{order_of}
use Rattle.std.proofs.Common.{◌∙◌, refl, subst, sym, arith}
use Rattle.std.specs.Prelude.{Ok, Err}
use Rattle.engine.specs.OptionValues.{OptionValues}
use Rattle.engine.specs.Pacing.{IsBehind}
use Rattle.engine.specs.StandsDb.{db_options_of, open_by}
use Rattle.engine.specs.Working.{HasNoWork}
use Rattle.engine.proofs.LosingDb.{db_found_none, db_found_then, db_loses_none, db_loses_then}
use Rattle.engine.specs.declared.work.Progress.TheVariants.{Worked, Idle}
use Rattle.engine.proofs.PaceRuns.{behind_as, call_of, works_forever, works_last_as, works_more, works_refused}
use Rattle.engine.proofs.PaceSteps.{draws_none, draws_then, idle_only, refusal_only, rests_at_pace, worked_only, works_then}
use Rattle.engine.proofs.RangeLeads.{leads_as, leads_stay, leads_then}
use Rattle.engine.proofs.StopSteps.{db_stops_none, db_stops_then}
use Rattle.engine.proofs.db.Db.keep_up.Goals as goal

pub loop-init : goal.loop-init
loop-init g c = record { steps = leads_stay draws_none; went_on = refl; stops = db_stops_none (order_of g.K.KeyOrder.name g.K.KeyOrder.cmp) g.S.Store.facts c.args.self.now; loses = db_loses_none (order_of g.K.KeyOrder.name g.K.KeyOrder.cmp) g.S.Store.facts c.args.self.now; found = db_found_none (order_of g.K.KeyOrder.name g.K.KeyOrder.cmp) g.S.Store.facts c.args.self.now; ids = refl; opening = record { options = refl; failures = refl } }

pub loop-preserved : goal.loop-preserved
loop-preserved g c = record {
  steps = leads_then (λ m n o h k. draws_then m n o h (worked_only n o c.args.budget k)) c.loop.invariant.steps (rw c.in-Ok-Worked.field-0-is at c.in-Ok-Worked.ensures.step);
  went_on = works_more (order_of g.K.KeyOrder.name g.K.KeyOrder.cmp) g.S.Store.facts (IsBehind (db_options_of c.args.self.now)) c.args.budget c.loop.counter c.args.self.now c.loop.self c.work.new.self c.loop.invariant.went_on c.in-Ok-Worked.field-0 c.in-Ok-Worked.field-0-is
      (call_of (order_of g.K.KeyOrder.name g.K.KeyOrder.cmp) g.S.Store.facts c.args.budget c.loop.self c.work.new.self (Ok c.in-Ok-Worked.field-0) c.in-Ok-Worked.ensures.step c.in-Ok-Worked.ensures.outcome c.in-Ok-Worked.ensures.caused c.in-Ok-Worked.ensures.does c.in-Ok-Worked.ensures.within c.in-Ok-Worked.ensures.flushes c.in-Ok-Worked.ensures.tidy c.in-Ok-Worked.ensures.removes c.in-Ok-Worked.ensures.exact c.in-Ok-Worked.ensures.dropped)
      (behind_as (db_options_of c.args.self.now) (db_options_of c.work.new.self) (open_by c.work.new.self) (c.work.ensures.opening.options ∙ c.loop.invariant.opening.options) c.if-can_rest.ensures);
  stops = db_stops_then (order_of g.K.KeyOrder.name g.K.KeyOrder.cmp) g.S.Store.facts c.args.self.now c.loop.self c.work.new.self c.loop.invariant.steps c.work.ensures.step.faithful c.loop.invariant.stops c.work.ensures.stops;
  loses = db_loses_then (order_of g.K.KeyOrder.name g.K.KeyOrder.cmp) g.S.Store.facts c.args.self.now c.loop.self c.work.new.self c.work.ensures.step.faithful c.loop.invariant.found c.loop.invariant.steps c.work.ensures.stops c.loop.invariant.loses c.work.ensures.loses;
  found = db_found_then (order_of g.K.KeyOrder.name g.K.KeyOrder.cmp) g.S.Store.facts c.args.self.now c.loop.self c.work.new.self c.work.ensures.step.faithful c.loop.invariant.found c.loop.invariant.steps c.work.ensures.found;
  ids = c.work.ensures.ids ∙ c.loop.invariant.ids;
  opening = record {
    options = c.work.ensures.opening.options ∙ c.loop.invariant.opening.options;
    failures = c.work.ensures.opening.failures ∙ c.loop.invariant.opening.failures;
  };
}

pub returns-in-Ok-Idle-clause-step : goal.returns-in-Ok-Idle-clause-step
returns-in-Ok-Idle-clause-step g c = leads_then (λ m n o h k. draws_then m n o h (idle_only n o c.args.budget k)) c.loop.invariant.steps (rw c.in-Ok-Idle.field-0-is at c.in-Ok-Idle.ensures.step)

pub returns-in-Ok-Idle-clause-kept : goal.returns-in-Ok-Idle-clause-kept
returns-in-Ok-Idle-clause-kept g c is =
    let does = rw c.in-Ok-Idle.field-0-is at c.in-Ok-Idle.ensures.does in
    rests_at_pace (db_options_of c.work.new.self) (open_by c.work.new.self)
    (subst (λ (options : OptionValues). HasNoWork options (open_by c.work.new.self)) (sym c.work.ensures.opening.options) does.1)

pub returns-in-Ok-Idle-clause-flushed : goal.returns-in-Ok-Idle-clause-flushed
returns-in-Ok-Idle-clause-flushed g c is = (let does = rw c.in-Ok-Idle.field-0-is at c.in-Ok-Idle.ensures.does in does.1.ease.none)

pub returns-then-can_rest-clause-step : goal.returns-then-can_rest-clause-step
returns-then-can_rest-clause-step g c = leads_then (λ m n o h k. draws_then m n o h (worked_only n o c.args.budget k)) c.loop.invariant.steps (rw c.in-Ok-Worked.field-0-is at c.in-Ok-Worked.ensures.step)

pub returns-in-Err-clause-step : goal.returns-in-Err-clause-step
returns-in-Err-clause-step g c = leads_then (λ m n o h k. works_then m n o h.0 (refusal_only n o c.args.budget c.in-Err.error k)) c.loop.invariant.steps c.in-Err.ensures.step

pub returns-clause-step : goal.returns-clause-step
returns-clause-step g c = leads_as (λ m n h. h.0) c.loop.invariant.steps

-- ---- which calls of work it is

pub returns-in-Ok-Idle-clause-does : goal.returns-in-Ok-Idle-clause-does
returns-in-Ok-Idle-clause-does g c = (
  Idle,
  works_last_as (order_of g.K.KeyOrder.name g.K.KeyOrder.cmp) g.S.Store.facts (IsBehind (db_options_of c.args.self.now)) c.args.budget c.loop.counter c.args.self.now c.loop.self c.work.new.self c.loop.invariant.went_on c.in-Ok-Idle.field-0 Idle c.in-Ok-Idle.field-0-is
      (call_of (order_of g.K.KeyOrder.name g.K.KeyOrder.cmp) g.S.Store.facts c.args.budget c.loop.self c.work.new.self (Ok c.in-Ok-Idle.field-0) c.in-Ok-Idle.ensures.step c.in-Ok-Idle.ensures.outcome c.in-Ok-Idle.ensures.caused c.in-Ok-Idle.ensures.does c.in-Ok-Idle.ensures.within c.in-Ok-Idle.ensures.flushes c.in-Ok-Idle.ensures.tidy c.in-Ok-Idle.ensures.removes c.in-Ok-Idle.ensures.exact c.in-Ok-Idle.ensures.dropped),
)

pub returns-in-Err-clause-does : goal.returns-in-Err-clause-does
returns-in-Err-clause-does g c =
    works_refused (order_of g.K.KeyOrder.name g.K.KeyOrder.cmp) g.S.Store.facts (IsBehind (db_options_of c.args.self.now)) c.args.budget c.loop.counter c.args.self.now c.loop.self c.work.new.self c.loop.invariant.went_on c.in-Err.error
    (call_of (order_of g.K.KeyOrder.name g.K.KeyOrder.cmp) g.S.Store.facts c.args.budget c.loop.self c.work.new.self (Err c.in-Err.error) c.in-Err.ensures.step c.in-Err.ensures.outcome c.in-Err.ensures.caused c.in-Err.ensures.does c.in-Err.ensures.within c.in-Err.ensures.flushes c.in-Err.ensures.tidy c.in-Err.ensures.removes c.in-Err.ensures.exact c.in-Err.ensures.dropped)

pub returns-clause-does : goal.returns-clause-does
returns-clause-does g c =
    works_forever (order_of g.K.KeyOrder.name g.K.KeyOrder.cmp) g.S.Store.facts (IsBehind (db_options_of c.args.self.now)) c.args.budget c.loop.counter c.args.self.now c.loop.self c.loop.invariant.went_on
    (omega (arith, c.loop-test.false, c.loop.auto.counter-end))

pub returns-then-can_rest-clause-does : goal.returns-then-can_rest-clause-does
returns-then-can_rest-clause-does g c = (
  Worked,
  works_last_as (order_of g.K.KeyOrder.name g.K.KeyOrder.cmp) g.S.Store.facts (IsBehind (db_options_of c.args.self.now)) c.args.budget c.loop.counter c.args.self.now c.loop.self c.work.new.self c.loop.invariant.went_on c.in-Ok-Worked.field-0 Worked c.in-Ok-Worked.field-0-is
      (call_of (order_of g.K.KeyOrder.name g.K.KeyOrder.cmp) g.S.Store.facts c.args.budget c.loop.self c.work.new.self (Ok c.in-Ok-Worked.field-0) c.in-Ok-Worked.ensures.step c.in-Ok-Worked.ensures.outcome c.in-Ok-Worked.ensures.caused c.in-Ok-Worked.ensures.does c.in-Ok-Worked.ensures.within c.in-Ok-Worked.ensures.flushes c.in-Ok-Worked.ensures.tidy c.in-Ok-Worked.ensures.removes c.in-Ok-Worked.ensures.exact c.in-Ok-Worked.ensures.dropped),
)

-- ---- what a process crash leaves

pub returns-in-Ok-Idle-clause-stops : goal.returns-in-Ok-Idle-clause-stops
returns-in-Ok-Idle-clause-stops g c = db_stops_then (order_of g.K.KeyOrder.name g.K.KeyOrder.cmp) g.S.Store.facts c.args.self.now c.loop.self c.work.new.self c.loop.invariant.steps c.work.ensures.step.faithful c.loop.invariant.stops c.work.ensures.stops

pub returns-in-Err-clause-stops : goal.returns-in-Err-clause-stops
returns-in-Err-clause-stops g c = db_stops_then (order_of g.K.KeyOrder.name g.K.KeyOrder.cmp) g.S.Store.facts c.args.self.now c.loop.self c.work.new.self c.loop.invariant.steps c.work.ensures.step.faithful c.loop.invariant.stops c.work.ensures.stops

pub returns-then-can_rest-clause-stops : goal.returns-then-can_rest-clause-stops
returns-then-can_rest-clause-stops g c = db_stops_then (order_of g.K.KeyOrder.name g.K.KeyOrder.cmp) g.S.Store.facts c.args.self.now c.loop.self c.work.new.self c.loop.invariant.steps c.work.ensures.step.faithful c.loop.invariant.stops c.work.ensures.stops

pub returns-clause-stops : goal.returns-clause-stops
returns-clause-stops g c = c.loop.invariant.stops

-- ---- what a power loss leaves

pub returns-in-Ok-Idle-clause-loses : goal.returns-in-Ok-Idle-clause-loses
returns-in-Ok-Idle-clause-loses g c = db_loses_then (order_of g.K.KeyOrder.name g.K.KeyOrder.cmp) g.S.Store.facts c.args.self.now c.loop.self c.work.new.self c.work.ensures.step.faithful c.loop.invariant.found c.loop.invariant.steps c.work.ensures.stops c.loop.invariant.loses c.work.ensures.loses

pub returns-in-Err-clause-loses : goal.returns-in-Err-clause-loses
returns-in-Err-clause-loses g c = db_loses_then (order_of g.K.KeyOrder.name g.K.KeyOrder.cmp) g.S.Store.facts c.args.self.now c.loop.self c.work.new.self c.work.ensures.step.faithful c.loop.invariant.found c.loop.invariant.steps c.work.ensures.stops c.loop.invariant.loses c.work.ensures.loses

pub returns-then-can_rest-clause-loses : goal.returns-then-can_rest-clause-loses
returns-then-can_rest-clause-loses g c = db_loses_then (order_of g.K.KeyOrder.name g.K.KeyOrder.cmp) g.S.Store.facts c.args.self.now c.loop.self c.work.new.self c.work.ensures.step.faithful c.loop.invariant.found c.loop.invariant.steps c.work.ensures.stops c.loop.invariant.loses c.work.ensures.loses

pub returns-clause-loses : goal.returns-clause-loses
returns-clause-loses g c = c.loop.invariant.loses

-- ---- what stays of the files that the open found

pub returns-in-Ok-Idle-clause-found : goal.returns-in-Ok-Idle-clause-found
returns-in-Ok-Idle-clause-found g c = db_found_then (order_of g.K.KeyOrder.name g.K.KeyOrder.cmp) g.S.Store.facts c.args.self.now c.loop.self c.work.new.self c.work.ensures.step.faithful c.loop.invariant.found c.loop.invariant.steps c.work.ensures.found

pub returns-in-Err-clause-found : goal.returns-in-Err-clause-found
returns-in-Err-clause-found g c = db_found_then (order_of g.K.KeyOrder.name g.K.KeyOrder.cmp) g.S.Store.facts c.args.self.now c.loop.self c.work.new.self c.work.ensures.step.faithful c.loop.invariant.found c.loop.invariant.steps c.work.ensures.found

pub returns-then-can_rest-clause-found : goal.returns-then-can_rest-clause-found
returns-then-can_rest-clause-found g c = db_found_then (order_of g.K.KeyOrder.name g.K.KeyOrder.cmp) g.S.Store.facts c.args.self.now c.loop.self c.work.new.self c.work.ensures.step.faithful c.loop.invariant.found c.loop.invariant.steps c.work.ensures.found

pub returns-clause-found : goal.returns-clause-found
returns-clause-found g c = c.loop.invariant.found
