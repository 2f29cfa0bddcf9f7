use Rattle.ikey.specs.Orders.{order_of}
use Rattle.std.proofs.Common.{subst}
use Rattle.machine.specs.Causes.{Motion}
use Rattle.machine.specs.Walks.{Moves}
use Rattle.engine.specs.Follows.{pair_answer}
use Rattle.engine.specs.Outcomes.{DbOutcomeOf, MayRefuseMove}
use Rattle.engine.proofs.RangeLeads.{first_motion, leads_as, over_motion, seek_motion, within_motion}
use Rattle.engine.proofs.db.Db.move_walk.Goals as goal

pub returns-in-None-clause-step : goal.returns-in-None-clause-step
returns-in-None-clause-step g c =
    let walk = c.args.walk.now in
    leads_as (λ m n h. subst (λ (motion : Motion). Moves (order_of g.K.KeyOrder.name g.K.KeyOrder.cmp) m walk.id motion (pair_answer c.iter_first.result) n) (first_motion walk.stage walk.keys c.in-Ahead.is c.in-None.is) h) c.iter_first.ensures.step

pub returns-in-Some-clause-step : goal.returns-in-Some-clause-step
returns-in-Some-clause-step g c =
    let walk = c.args.walk.now in
    leads_as (λ m n h. subst (λ (motion : Motion). Moves (order_of g.K.KeyOrder.name g.K.KeyOrder.cmp) m walk.id motion (pair_answer c.iter_seek.result) n) (seek_motion walk.stage walk.keys _ c.as_slice.result.now c.in-Ahead.is c.in-Some.is c.as_slice.ensures) h) c.iter_seek.ensures.step

pub returns-in-Within-clause-step : goal.returns-in-Within-clause-step
returns-in-Within-clause-step g c =
    let walk = c.args.walk.now in
    leads_as (λ m n h. subst (λ (motion : Motion). Moves (order_of g.K.KeyOrder.name g.K.KeyOrder.cmp) m walk.id motion (pair_answer c.iter_next.result) n) (within_motion walk.stage walk.keys c.in-Within.is) h) c.iter_next.ensures.step

pub returns-in-Over-clause-step : goal.returns-in-Over-clause-step
returns-in-Over-clause-step g c =
    let walk = c.args.walk.now in
    leads_as (λ m n h. subst (λ (motion : Motion). Moves (order_of g.K.KeyOrder.name g.K.KeyOrder.cmp) m walk.id motion (pair_answer c.iter_next-in-Over.result) n) (over_motion walk.stage walk.keys c.in-Over.is) h) c.iter_next-in-Over.ensures.step

pub returns-in-None-clause-outcome : goal.returns-in-None-clause-outcome
returns-in-None-clause-outcome g c =
    let walk = c.args.walk.now in
    subst (λ (motion : Motion). DbOutcomeOf (MayRefuseMove motion) g.S.Store.facts c.args.self.now c.iter_first.new.self c.iter_first.result) (first_motion walk.stage walk.keys c.in-Ahead.is c.in-None.is) c.iter_first.ensures.outcome

pub returns-in-Some-clause-outcome : goal.returns-in-Some-clause-outcome
returns-in-Some-clause-outcome g c =
    let walk = c.args.walk.now in
    subst (λ (motion : Motion). DbOutcomeOf (MayRefuseMove motion) g.S.Store.facts c.args.self.now c.iter_seek.new.self c.iter_seek.result) (seek_motion walk.stage walk.keys _ c.as_slice.result.now c.in-Ahead.is c.in-Some.is c.as_slice.ensures) c.iter_seek.ensures.outcome

pub returns-in-Within-clause-outcome : goal.returns-in-Within-clause-outcome
returns-in-Within-clause-outcome g c =
    let walk = c.args.walk.now in
    subst (λ (motion : Motion). DbOutcomeOf (MayRefuseMove motion) g.S.Store.facts c.args.self.now c.iter_next.new.self c.iter_next.result) (within_motion walk.stage walk.keys c.in-Within.is) c.iter_next.ensures.outcome

pub returns-in-Over-clause-outcome : goal.returns-in-Over-clause-outcome
returns-in-Over-clause-outcome g c =
    let walk = c.args.walk.now in
    subst (λ (motion : Motion). DbOutcomeOf (MayRefuseMove motion) g.S.Store.facts c.args.self.now c.iter_next-in-Over.new.self c.iter_next-in-Over.result) (over_motion walk.stage walk.keys c.in-Over.is) c.iter_next-in-Over.ensures.outcome
