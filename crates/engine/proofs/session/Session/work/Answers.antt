use Rattle.ikey.specs.Orders.{order_of}
use Rattle.std.proofs.Common.{◌∙◌, Option, Some, Result, Ok, ap, refl, subst, sym}
use Rattle.std.specs.Option.{option_map}
use Rattle.coding.specs.declared.error.DbError.{DbError}
use Rattle.engine.specs.declared.state.DbState.{DbState}
use Rattle.engine.specs.declared.work.Progress.{Progress}
use Rattle.engine.specs.declared.work.Progress.TheVariants as progress
use Rattle.engine.specs.internal.Leading.{LeadsOpen}
use Rattle.engine.specs.OpenDb.{open_db}
use Rattle.db_cursor.specs.Whole.{seen_of}
use Rattle.engine.specs.Stands.{StandsOver, open_in}
use Rattle.machine.specs.Upkeep.{Works}
use Rattle.engine.specs.Working.{work_answer}
use Rattle.engine.proofs.Steps.{stays}
use Rattle.engine.proofs.WorkAnswers.{works_closed, done_in}
use Rattle.engine.proofs.WriteSteps.{lifts}
use Rattle.machine.specs.declared.command.Answer.TheVariants.{Worked, Refused}
use Rattle.machine.specs.declared.command.Answer.TheVariants as answer
use Rattle.engine.proofs.Breaking.{breaks_as, breaks_none, breaks_open, is_done, told_io}
use Rattle.engine.proofs.LosingDb.{found_lent, found_standing, loses_lent, loses_standing}
use Rattle.engine.proofs.StopSteps.{stops_lent, stops_standing}
use Rattle.engine.proofs.session.Session.work.Goals as goal

pub returns-in-None-clause-step : goal.returns-in-None-clause-step
returns-in-None-clause-step g c =
    let order = order_of g.K.KeyOrder.name g.K.KeyOrder.cmp in
    let facts = g.S.Store.facts in
    let old = seen_of facts c.args.self.now.source in
    let memory = c.args.self.now.source.memory in
    let ids = c.args.self.now.ids in
    stays order facts c.args.self.now _ (λ m s. works_closed order old.facts ids m c.args.budget (subst (λ (state : Option (DbState _ _)). StandsOver order old ids (option_map (open_db memory) state) m) c.in-None.is s))

pub returns-in-Ok-Worked-clause-step : goal.returns-in-Ok-Worked-clause-step
returns-in-Ok-Worked-clause-step g c =
    let order = order_of g.K.KeyOrder.name g.K.KeyOrder.cmp in
    let facts = g.S.Store.facts in
    let old = seen_of facts c.args.self.now.source in
    let memory = c.args.self.now.source.memory in
    let ids = c.args.self.now.ids in
    let new = seen_of facts c.work.new.source in
    let before = open_db memory c.in-Some.state in
    let after = open_db c.work.new.source.memory c.work.new.self in
    lifts order old new ids ids (option_map (open_db memory) c.args.self.now.state) before after _ (ap (option_map (open_db memory)) c.in-Some.is)
    (subst (λ (r : Result Progress DbError). LeadsOpen order old new ids before after (λ m n. Works m c.args.budget (work_answer r) n)) (c.in-Ok-Worked.is ∙ ap Ok c.in-Ok-Worked.field-0-is) (c.work.ensures.step ids))

pub returns-in-Ok-Idle-clause-step : goal.returns-in-Ok-Idle-clause-step
returns-in-Ok-Idle-clause-step g c =
    let order = order_of g.K.KeyOrder.name g.K.KeyOrder.cmp in
    let facts = g.S.Store.facts in
    let old = seen_of facts c.args.self.now.source in
    let memory = c.args.self.now.source.memory in
    let ids = c.args.self.now.ids in
    let new = seen_of facts c.work.new.source in
    let before = open_db memory c.in-Some.state in
    let after = open_db c.work.new.source.memory c.work.new.self in
    lifts order old new ids ids (option_map (open_db memory) c.args.self.now.state) before after _ (ap (option_map (open_db memory)) c.in-Some.is)
    (subst (λ (r : Result Progress DbError). LeadsOpen order old new ids before after (λ m n. Works m c.args.budget (work_answer r) n)) (c.in-Ok-Idle.is ∙ ap Ok c.in-Ok-Idle.field-0-is) (c.work.ensures.step ids))

pub returns-in-Err-clause-step : goal.returns-in-Err-clause-step
returns-in-Err-clause-step g c =
    let order = order_of g.K.KeyOrder.name g.K.KeyOrder.cmp in
    let facts = g.S.Store.facts in
    let old = seen_of facts c.args.self.now.source in
    let memory = c.args.self.now.source.memory in
    let ids = c.args.self.now.ids in
    let new = seen_of facts c.work.new.source in
    let before = open_db memory c.in-Some.state in
    let after = open_db c.work.new.source.memory c.work.new.self in
    lifts order old new ids ids (option_map (open_db memory) c.args.self.now.state) before after _ (ap (option_map (open_db memory)) c.in-Some.is)
    (subst (λ (r : Result Progress DbError). LeadsOpen order old new ids before after (λ m n. Works m c.args.budget (work_answer r) n)) c.in-Err.is (c.work.ensures.step ids))

pub returns-in-Ok-Worked-clause-works : goal.returns-in-Ok-Worked-clause-works
returns-in-Ok-Worked-clause-works g c =
    let order = order_of g.K.KeyOrder.name g.K.KeyOrder.cmp in
    let facts = g.S.Store.facts in
    let memory = c.args.self.now.source.memory in
    done_in order c.args.self.now.options c.args.budget (seen_of facts c.args.self.now.source) (seen_of facts c.work.new.source) (option_map (open_db memory) c.args.self.now.state)
    (open_db memory c.in-Some.state) (open_db c.work.new.source.memory c.work.new.self) Worked c.work.result (c.in-Ok-Worked.is ∙ ap Ok c.in-Ok-Worked.field-0-is) (ap (option_map (open_db memory)) c.in-Some.is)
    (record { does = c.work.ensures.does; within = c.work.ensures.within; flushes = c.work.ensures.flushes; tidy = c.work.ensures.tidy; removes = c.work.ensures.removes; exact = c.work.ensures.exact; dropped = c.work.ensures.dropped }) (λ d. d)

pub returns-in-Ok-Idle-clause-works : goal.returns-in-Ok-Idle-clause-works
returns-in-Ok-Idle-clause-works g c =
    let order = order_of g.K.KeyOrder.name g.K.KeyOrder.cmp in
    let facts = g.S.Store.facts in
    let memory = c.args.self.now.source.memory in
    done_in order c.args.self.now.options c.args.budget (seen_of facts c.args.self.now.source) (seen_of facts c.work.new.source) (option_map (open_db memory) c.args.self.now.state)
    (open_db memory c.in-Some.state) (open_db c.work.new.source.memory c.work.new.self) answer.Idle c.work.result (c.in-Ok-Idle.is ∙ ap Ok c.in-Ok-Idle.field-0-is) (ap (option_map (open_db memory)) c.in-Some.is)
    (record { does = c.work.ensures.does; within = c.work.ensures.within; flushes = c.work.ensures.flushes; tidy = c.work.ensures.tidy; removes = c.work.ensures.removes; exact = c.work.ensures.exact; dropped = c.work.ensures.dropped }) (λ d. d)

pub returns-in-Err-clause-works : goal.returns-in-Err-clause-works
returns-in-Err-clause-works g c =
    let order = order_of g.K.KeyOrder.name g.K.KeyOrder.cmp in
    let facts = g.S.Store.facts in
    let memory = c.args.self.now.source.memory in
    done_in order c.args.self.now.options c.args.budget (seen_of facts c.args.self.now.source) (seen_of facts c.work.new.source) (option_map (open_db memory) c.args.self.now.state)
    (open_db memory c.in-Some.state) (open_db c.work.new.source.memory c.work.new.self) (Refused c.in-Err.error) c.work.result (c.in-Err.is) (ap (option_map (open_db memory)) c.in-Some.is)
    (record { does = c.work.ensures.does; within = c.work.ensures.within; flushes = c.work.ensures.flushes; tidy = c.work.ensures.tidy; removes = c.work.ensures.removes; exact = c.work.ensures.exact; dropped = c.work.ensures.dropped }) (λ d. d)

pub returns-in-None-clause-breaks : goal.returns-in-None-clause-breaks
returns-in-None-clause-breaks g c = breaks_none (g.S.Store.facts c.args.self.now.source.tables.store) (g.S.Store.facts c.args.self.now.source.tables.store) (option_map (open_db c.args.self.now.source.memory) c.args.self.now.state) (option_map (open_db c.args.self.now.source.memory) c.args.self.now.state) _ (ap (option_map (open_db c.args.self.now.source.memory)) c.in-None.is)

pub returns-in-Ok-Worked-clause-breaks : goal.returns-in-Ok-Worked-clause-breaks
returns-in-Ok-Worked-clause-breaks g c = breaks_open (g.S.Store.facts c.args.self.now.source.tables.store) (g.S.Store.facts c.work.new.source.tables.store) (option_map (open_db c.args.self.now.source.memory) c.args.self.now.state) (Some (open_db c.work.new.source.memory c.work.new.self)) (open_db c.args.self.now.source.memory c.in-Some.state) (open_db c.work.new.source.memory c.work.new.self) _ (ap (option_map (open_db c.args.self.now.source.memory)) c.in-Some.is) refl
    (λ whole. breaks_as (g.S.Store.facts c.args.self.now.source.tables.store) (g.S.Store.facts c.work.new.source.tables.store) c.work.new.self.broken (λ io. is_done progress.Worked (sym (c.in-Ok-Worked.is ∙ ap Ok c.in-Ok-Worked.field-0-is) ∙ io)) (c.work.ensures.breaks whole))

pub returns-in-Ok-Idle-clause-breaks : goal.returns-in-Ok-Idle-clause-breaks
returns-in-Ok-Idle-clause-breaks g c = breaks_open (g.S.Store.facts c.args.self.now.source.tables.store) (g.S.Store.facts c.work.new.source.tables.store) (option_map (open_db c.args.self.now.source.memory) c.args.self.now.state) (Some (open_db c.work.new.source.memory c.work.new.self)) (open_db c.args.self.now.source.memory c.in-Some.state) (open_db c.work.new.source.memory c.work.new.self) _ (ap (option_map (open_db c.args.self.now.source.memory)) c.in-Some.is) refl
    (λ whole. breaks_as (g.S.Store.facts c.args.self.now.source.tables.store) (g.S.Store.facts c.work.new.source.tables.store) c.work.new.self.broken (λ io. is_done progress.Idle (sym (c.in-Ok-Idle.is ∙ ap Ok c.in-Ok-Idle.field-0-is) ∙ io)) (c.work.ensures.breaks whole))

pub returns-in-Err-clause-breaks : goal.returns-in-Err-clause-breaks
returns-in-Err-clause-breaks g c = breaks_open (g.S.Store.facts c.args.self.now.source.tables.store) (g.S.Store.facts c.work.new.source.tables.store) (option_map (open_db c.args.self.now.source.memory) c.args.self.now.state) (Some (open_db c.work.new.source.memory c.work.new.self)) (open_db c.args.self.now.source.memory c.in-Some.state) (open_db c.work.new.source.memory c.work.new.self) _ (ap (option_map (open_db c.args.self.now.source.memory)) c.in-Some.is) refl
    (λ whole. breaks_as (g.S.Store.facts c.args.self.now.source.tables.store) (g.S.Store.facts c.work.new.source.tables.store) c.work.new.self.broken (λ io. told_io {T = Progress} c.in-Err.error (sym c.in-Err.is ∙ io)) (c.work.ensures.breaks whole))

-- ---- what a process crash leaves

pub returns-in-None-clause-stops : goal.returns-in-None-clause-stops
returns-in-None-clause-stops g c =
    stops_standing (order_of g.K.KeyOrder.name g.K.KeyOrder.cmp) (seen_of g.S.Store.facts c.args.self.now.source) c.args.self.now.ids (open_in c.args.self.now) (g.S.Store.facts c.args.self.now.source.tables.store) (λ t. refl) (λ t. refl)

pub returns-in-Ok-Worked-clause-stops : goal.returns-in-Ok-Worked-clause-stops
returns-in-Ok-Worked-clause-stops g c =
    let memory = c.args.self.now.source.memory in
    stops_lent (order_of g.K.KeyOrder.name g.K.KeyOrder.cmp) (seen_of g.S.Store.facts c.args.self.now.source) (seen_of g.S.Store.facts c.work.new.source) c.args.self.now.ids (open_in c.args.self.now) (open_db memory c.in-Some.state) (ap (option_map (open_db memory)) c.in-Some.is) c.work.ensures.stops

pub returns-in-Ok-Idle-clause-stops : goal.returns-in-Ok-Idle-clause-stops
returns-in-Ok-Idle-clause-stops g c =
    let memory = c.args.self.now.source.memory in
    stops_lent (order_of g.K.KeyOrder.name g.K.KeyOrder.cmp) (seen_of g.S.Store.facts c.args.self.now.source) (seen_of g.S.Store.facts c.work.new.source) c.args.self.now.ids (open_in c.args.self.now) (open_db memory c.in-Some.state) (ap (option_map (open_db memory)) c.in-Some.is) c.work.ensures.stops

pub returns-in-Err-clause-stops : goal.returns-in-Err-clause-stops
returns-in-Err-clause-stops g c =
    let memory = c.args.self.now.source.memory in
    stops_lent (order_of g.K.KeyOrder.name g.K.KeyOrder.cmp) (seen_of g.S.Store.facts c.args.self.now.source) (seen_of g.S.Store.facts c.work.new.source) c.args.self.now.ids (open_in c.args.self.now) (open_db memory c.in-Some.state) (ap (option_map (open_db memory)) c.in-Some.is) c.work.ensures.stops

-- ---- what a power loss leaves

pub returns-in-None-clause-loses : goal.returns-in-None-clause-loses
returns-in-None-clause-loses g c =
    loses_standing (order_of g.K.KeyOrder.name g.K.KeyOrder.cmp) (seen_of g.S.Store.facts c.args.self.now.source) c.args.self.now.ids (open_in c.args.self.now) (g.S.Store.facts c.args.self.now.source.tables.store) (λ t. refl) (λ t. refl) (λ t. refl)

pub returns-in-Ok-Worked-clause-loses : goal.returns-in-Ok-Worked-clause-loses
returns-in-Ok-Worked-clause-loses g c =
    let memory = c.args.self.now.source.memory in
    loses_lent (order_of g.K.KeyOrder.name g.K.KeyOrder.cmp) (seen_of g.S.Store.facts c.args.self.now.source) (seen_of g.S.Store.facts c.work.new.source) c.args.self.now.ids (open_in c.args.self.now) (open_db memory c.in-Some.state) (ap (option_map (open_db memory)) c.in-Some.is) c.work.ensures.stops

pub returns-in-Ok-Idle-clause-loses : goal.returns-in-Ok-Idle-clause-loses
returns-in-Ok-Idle-clause-loses g c =
    let memory = c.args.self.now.source.memory in
    loses_lent (order_of g.K.KeyOrder.name g.K.KeyOrder.cmp) (seen_of g.S.Store.facts c.args.self.now.source) (seen_of g.S.Store.facts c.work.new.source) c.args.self.now.ids (open_in c.args.self.now) (open_db memory c.in-Some.state) (ap (option_map (open_db memory)) c.in-Some.is) c.work.ensures.stops

pub returns-in-Err-clause-loses : goal.returns-in-Err-clause-loses
returns-in-Err-clause-loses g c =
    let memory = c.args.self.now.source.memory in
    loses_lent (order_of g.K.KeyOrder.name g.K.KeyOrder.cmp) (seen_of g.S.Store.facts c.args.self.now.source) (seen_of g.S.Store.facts c.work.new.source) c.args.self.now.ids (open_in c.args.self.now) (open_db memory c.in-Some.state) (ap (option_map (open_db memory)) c.in-Some.is) c.work.ensures.stops

-- ---- what stays of the files that the open found

pub returns-in-None-clause-found : goal.returns-in-None-clause-found
returns-in-None-clause-found g c f m undamaged s = found_standing (open_in c.args.self.now) (g.S.Store.facts c.args.self.now.source.tables.store) (g.S.Store.facts c.args.self.now.source.tables.store) (λ t. refl) (λ t. refl) f

pub returns-in-Ok-Worked-clause-found : goal.returns-in-Ok-Worked-clause-found
returns-in-Ok-Worked-clause-found g c =
    let memory = c.args.self.now.source.memory in
    found_lent (order_of g.K.KeyOrder.name g.K.KeyOrder.cmp) (seen_of g.S.Store.facts c.args.self.now.source) (g.S.Store.facts c.work.new.source.tables.store) c.args.self.now.ids (open_in c.args.self.now) (open_db memory c.in-Some.state) (ap (option_map (open_db memory)) c.in-Some.is) c.work.ensures.stops.found

pub returns-in-Ok-Idle-clause-found : goal.returns-in-Ok-Idle-clause-found
returns-in-Ok-Idle-clause-found g c =
    let memory = c.args.self.now.source.memory in
    found_lent (order_of g.K.KeyOrder.name g.K.KeyOrder.cmp) (seen_of g.S.Store.facts c.args.self.now.source) (g.S.Store.facts c.work.new.source.tables.store) c.args.self.now.ids (open_in c.args.self.now) (open_db memory c.in-Some.state) (ap (option_map (open_db memory)) c.in-Some.is) c.work.ensures.stops.found

pub returns-in-Err-clause-found : goal.returns-in-Err-clause-found
returns-in-Err-clause-found g c =
    let memory = c.args.self.now.source.memory in
    found_lent (order_of g.K.KeyOrder.name g.K.KeyOrder.cmp) (seen_of g.S.Store.facts c.args.self.now.source) (g.S.Store.facts c.work.new.source.tables.store) c.args.self.now.ids (open_in c.args.self.now) (open_db memory c.in-Some.state) (ap (option_map (open_db memory)) c.in-Some.is) c.work.ensures.stops.found
