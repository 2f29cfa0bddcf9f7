use Rattle.ikey.specs.Orders.{order_of}
use Rattle.std.proofs.Common.{Option, Some, Result, OnOk, ap, refl, subst, sym, ◌∙◌}
use Rattle.std.specs.Option.{option_map}
use Rattle.coding.specs.declared.error.DbError.{DbError}
use Rattle.engine.specs.declared.state.DbState.{DbState}
use Rattle.engine.specs.internal.Leading.{LeadsOpen}
use Rattle.engine.specs.Follows.{unit_answer}
use Rattle.engine.specs.OpenDb.{open_db}
use Rattle.db_cursor.specs.Whole.{seen_of}
use Rattle.engine.specs.Needed.{LeavesNeeded}
use Rattle.engine.specs.Stands.{StandsOver, open_in}
use Rattle.machine.specs.Upkeep.{CompactsAll}
use Rattle.engine.proofs.Emptied.{all_closed}
use Rattle.engine.proofs.Steps.{stays}
use Rattle.engine.proofs.WriteSteps.{lifts}
use Rattle.engine.proofs.Breaking.{breaks_as, breaks_none, breaks_open, is_done, told_io}
use Rattle.engine.proofs.LosingDb.{found_lent, found_standing, loses_lent, loses_standing}
use Rattle.engine.proofs.StopSteps.{stops_lent, stops_standing}
use Rattle.engine.proofs.session.Session.compact_all.Goals as goal

pub returns-in-None-clause-step : goal.returns-in-None-clause-step
returns-in-None-clause-step g c =
    let order = order_of g.K.KeyOrder.name g.K.KeyOrder.cmp in
    let facts = g.S.Store.facts in
    let old = seen_of facts c.args.self.now.source in
    let memory = c.args.self.now.source.memory in
    let ids = c.args.self.now.ids in
    stays order facts c.args.self.now _ (λ m s. all_closed order old.facts ids m (subst (λ (state : Option (DbState _ _)). StandsOver order old ids (option_map (open_db memory) state) m) c.in-None.is s))

pub returns-in-Ok-clause-step : goal.returns-in-Ok-clause-step
returns-in-Ok-clause-step g c =
    let order = order_of g.K.KeyOrder.name g.K.KeyOrder.cmp in
    let facts = g.S.Store.facts in
    let old = seen_of facts c.args.self.now.source in
    let memory = c.args.self.now.source.memory in
    let ids = c.args.self.now.ids in
    let new = seen_of facts c.compact_all.new.source in
    let before = open_db memory c.in-Some.state in
    let after = open_db c.compact_all.new.source.memory c.compact_all.new.self in
    lifts order old new ids ids (option_map (open_db memory) c.args.self.now.state) before after _ (ap (option_map (open_db memory)) c.in-Some.is)
    (subst (λ (r : Result _ DbError). LeadsOpen order old new ids before after (λ m n. CompactsAll m (unit_answer r) n)) c.in-Ok.is (c.compact_all.ensures.step ids))

pub returns-in-Err-clause-step : goal.returns-in-Err-clause-step
returns-in-Err-clause-step g c =
    let order = order_of g.K.KeyOrder.name g.K.KeyOrder.cmp in
    let facts = g.S.Store.facts in
    let old = seen_of facts c.args.self.now.source in
    let memory = c.args.self.now.source.memory in
    let ids = c.args.self.now.ids in
    let new = seen_of facts c.compact_all.new.source in
    let before = open_db memory c.in-Some.state in
    let after = open_db c.compact_all.new.source.memory c.compact_all.new.self in
    lifts order old new ids ids (option_map (open_db memory) c.args.self.now.state) before after _ (ap (option_map (open_db memory)) c.in-Some.is)
    (subst (λ (r : Result _ DbError). LeadsOpen order old new ids before after (λ m n. CompactsAll m (unit_answer r) n)) c.in-Err.is (c.compact_all.ensures.step ids))

pub returns-in-Ok-clause-needed : goal.returns-in-Ok-clause-needed
returns-in-Ok-clause-needed g c f m s =
    let order = order_of g.K.KeyOrder.name g.K.KeyOrder.cmp in
    let facts = g.S.Store.facts in
    let old = seen_of facts c.args.self.now.source in
    let memory = c.args.self.now.source.memory in
    let ids = c.args.self.now.ids in
    let new = seen_of facts c.compact_all.new.source in
    let before = open_db memory c.in-Some.state in
    let after = open_db c.compact_all.new.source.memory c.compact_all.new.self in
    let left = subst (λ (r : Result _ DbError). OnOk r (LeavesNeeded order old new before after)) c.in-Ok.is c.compact_all.ensures.needed in
    left f ids m (record { stands = subst (λ (state : Option (DbState _ _)). StandsOver order old ids (option_map (open_db memory) state) m) c.in-Some.is s.0; undamaged = s.1 })

pub returns-in-None-clause-breaks : goal.returns-in-None-clause-breaks
returns-in-None-clause-breaks g c = breaks_none (g.S.Store.facts c.args.self.now.source.tables.store) (g.S.Store.facts c.args.self.now.source.tables.store) (option_map (open_db c.args.self.now.source.memory) c.args.self.now.state) (option_map (open_db c.args.self.now.source.memory) c.args.self.now.state) _ (ap (option_map (open_db c.args.self.now.source.memory)) c.in-None.is)

pub returns-in-Ok-clause-breaks : goal.returns-in-Ok-clause-breaks
returns-in-Ok-clause-breaks g c = breaks_open (g.S.Store.facts c.args.self.now.source.tables.store) (g.S.Store.facts c.compact_all.new.source.tables.store) (option_map (open_db c.args.self.now.source.memory) c.args.self.now.state) (Some (open_db c.compact_all.new.source.memory c.compact_all.new.self)) (open_db c.args.self.now.source.memory c.in-Some.state) (open_db c.compact_all.new.source.memory c.compact_all.new.self) _ (ap (option_map (open_db c.args.self.now.source.memory)) c.in-Some.is) refl
    (λ whole. breaks_as (g.S.Store.facts c.args.self.now.source.tables.store) (g.S.Store.facts c.compact_all.new.source.tables.store) c.compact_all.new.self.broken (λ io. is_done (tt {0}) (sym (c.in-Ok.is) ∙ io)) (c.compact_all.ensures.breaks whole))

pub returns-in-Err-clause-breaks : goal.returns-in-Err-clause-breaks
returns-in-Err-clause-breaks g c = breaks_open (g.S.Store.facts c.args.self.now.source.tables.store) (g.S.Store.facts c.compact_all.new.source.tables.store) (option_map (open_db c.args.self.now.source.memory) c.args.self.now.state) (Some (open_db c.compact_all.new.source.memory c.compact_all.new.self)) (open_db c.args.self.now.source.memory c.in-Some.state) (open_db c.compact_all.new.source.memory c.compact_all.new.self) _ (ap (option_map (open_db c.args.self.now.source.memory)) c.in-Some.is) refl
    (λ whole. breaks_as (g.S.Store.facts c.args.self.now.source.tables.store) (g.S.Store.facts c.compact_all.new.source.tables.store) c.compact_all.new.self.broken (λ io. told_io {T = Unit {0}} c.in-Err.error (sym c.in-Err.is ∙ io)) (c.compact_all.ensures.breaks whole))

-- ---- what a process crash leaves

pub returns-in-None-clause-stops : goal.returns-in-None-clause-stops
returns-in-None-clause-stops g c =
    stops_standing (order_of g.K.KeyOrder.name g.K.KeyOrder.cmp) (seen_of g.S.Store.facts c.args.self.now.source) c.args.self.now.ids (open_in c.args.self.now) (g.S.Store.facts c.args.self.now.source.tables.store) (λ t. refl) (λ t. refl)

pub returns-in-Ok-clause-stops : goal.returns-in-Ok-clause-stops
returns-in-Ok-clause-stops g c =
    let memory = c.args.self.now.source.memory in
    stops_lent (order_of g.K.KeyOrder.name g.K.KeyOrder.cmp) (seen_of g.S.Store.facts c.args.self.now.source) (seen_of g.S.Store.facts c.compact_all.new.source) c.args.self.now.ids (open_in c.args.self.now) (open_db memory c.in-Some.state) (ap (option_map (open_db memory)) c.in-Some.is) c.compact_all.ensures.stops

pub returns-in-Err-clause-stops : goal.returns-in-Err-clause-stops
returns-in-Err-clause-stops g c =
    let memory = c.args.self.now.source.memory in
    stops_lent (order_of g.K.KeyOrder.name g.K.KeyOrder.cmp) (seen_of g.S.Store.facts c.args.self.now.source) (seen_of g.S.Store.facts c.compact_all.new.source) c.args.self.now.ids (open_in c.args.self.now) (open_db memory c.in-Some.state) (ap (option_map (open_db memory)) c.in-Some.is) c.compact_all.ensures.stops

-- ---- what a power loss leaves

pub returns-in-None-clause-loses : goal.returns-in-None-clause-loses
returns-in-None-clause-loses g c =
    loses_standing (order_of g.K.KeyOrder.name g.K.KeyOrder.cmp) (seen_of g.S.Store.facts c.args.self.now.source) c.args.self.now.ids (open_in c.args.self.now) (g.S.Store.facts c.args.self.now.source.tables.store) (λ t. refl) (λ t. refl) (λ t. refl)

pub returns-in-Ok-clause-loses : goal.returns-in-Ok-clause-loses
returns-in-Ok-clause-loses g c =
    let memory = c.args.self.now.source.memory in
    loses_lent (order_of g.K.KeyOrder.name g.K.KeyOrder.cmp) (seen_of g.S.Store.facts c.args.self.now.source) (seen_of g.S.Store.facts c.compact_all.new.source) c.args.self.now.ids (open_in c.args.self.now) (open_db memory c.in-Some.state) (ap (option_map (open_db memory)) c.in-Some.is) c.compact_all.ensures.stops

pub returns-in-Err-clause-loses : goal.returns-in-Err-clause-loses
returns-in-Err-clause-loses g c =
    let memory = c.args.self.now.source.memory in
    loses_lent (order_of g.K.KeyOrder.name g.K.KeyOrder.cmp) (seen_of g.S.Store.facts c.args.self.now.source) (seen_of g.S.Store.facts c.compact_all.new.source) c.args.self.now.ids (open_in c.args.self.now) (open_db memory c.in-Some.state) (ap (option_map (open_db memory)) c.in-Some.is) c.compact_all.ensures.stops

-- ---- what stays of the files that the open found

pub returns-in-None-clause-found : goal.returns-in-None-clause-found
returns-in-None-clause-found g c f m undamaged s = found_standing (open_in c.args.self.now) (g.S.Store.facts c.args.self.now.source.tables.store) (g.S.Store.facts c.args.self.now.source.tables.store) (λ t. refl) (λ t. refl) f

pub returns-in-Ok-clause-found : goal.returns-in-Ok-clause-found
returns-in-Ok-clause-found g c =
    let memory = c.args.self.now.source.memory in
    found_lent (order_of g.K.KeyOrder.name g.K.KeyOrder.cmp) (seen_of g.S.Store.facts c.args.self.now.source) (g.S.Store.facts c.compact_all.new.source.tables.store) c.args.self.now.ids (open_in c.args.self.now) (open_db memory c.in-Some.state) (ap (option_map (open_db memory)) c.in-Some.is) c.compact_all.ensures.stops.found

pub returns-in-Err-clause-found : goal.returns-in-Err-clause-found
returns-in-Err-clause-found g c =
    let memory = c.args.self.now.source.memory in
    found_lent (order_of g.K.KeyOrder.name g.K.KeyOrder.cmp) (seen_of g.S.Store.facts c.args.self.now.source) (g.S.Store.facts c.compact_all.new.source.tables.store) c.args.self.now.ids (open_in c.args.self.now) (open_db memory c.in-Some.state) (ap (option_map (open_db memory)) c.in-Some.is) c.compact_all.ensures.stops.found
