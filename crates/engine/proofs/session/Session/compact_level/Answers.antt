use Rattle.ikey.specs.Orders.{order_of}
use Rattle.std.proofs.Common.{Option, Some, Result, OnOk, refl, sym, ap, subst, ◌∙◌}
use Rattle.std.specs.Option.{option_map}
use Rattle.coding.specs.declared.error.DbError.{DbError}
use Rattle.engine.specs.declared.state.DbState.{DbState}
use Rattle.engine.specs.internal.Leading.{LeadsOpen}
use Rattle.engine.specs.Follows.{unit_answer}
use Rattle.engine.specs.Applied.{LevelIn}
use Rattle.engine.specs.Finishing.{MovesLevel}
use Rattle.engine.specs.OpenDb.{OpenDb, open_db}
use Rattle.db_cursor.specs.Whole.{seen_of}
use Rattle.engine.specs.Stands.{StandsOver, open_in}
use Rattle.machine.specs.Upkeep.{CompactsLevel}
use Rattle.machine.specs.declared.command.Answer.TheVariants.{Done, Refused}
use Rattle.engine.specs.WrittenTables.{MergesLevel}
use Rattle.engine.proofs.Emptied.{level_closed}
use Rattle.engine.proofs.Steps.{stays}
use Rattle.engine.proofs.WriteSteps.{lifts}
use Rattle.engine.proofs.Breaking.{breaks_as, breaks_none, breaks_open, is_done, told_io}
use Rattle.engine.proofs.LosingDb.{found_lent, found_standing, loses_lent, loses_standing}
use Rattle.engine.proofs.StopSteps.{stops_lent, stops_standing}
use Rattle.engine.proofs.session.Session.compact_level.Goals as goal

pub returns-in-None-clause-step : goal.returns-in-None-clause-step
returns-in-None-clause-step g c =
    let order = order_of g.K.KeyOrder.name g.K.KeyOrder.cmp in
    let facts = g.S.Store.facts in
    let old = seen_of facts c.args.self.now.source in
    let memory = c.args.self.now.source.memory in
    let ids = c.args.self.now.ids in
    stays order facts c.args.self.now _ (λ m s. level_closed order old.facts ids m c.args.level (subst (λ (state : Option (DbState _ _)). StandsOver order old ids (option_map (open_db memory) state) m) c.in-None.is s))

pub returns-in-Ok-clause-step : goal.returns-in-Ok-clause-step
returns-in-Ok-clause-step g c =
    let order = order_of g.K.KeyOrder.name g.K.KeyOrder.cmp in
    let facts = g.S.Store.facts in
    let old = seen_of facts c.args.self.now.source in
    let memory = c.args.self.now.source.memory in
    let ids = c.args.self.now.ids in
    let new = seen_of facts c.compact_level.new.source in
    let before = open_db memory c.in-Some.state in
    let after = open_db c.compact_level.new.source.memory c.compact_level.new.self in
    lifts order old new ids ids (option_map (open_db memory) c.args.self.now.state) before after _ (ap (option_map (open_db memory)) c.in-Some.is)
    (subst (λ (r : Result _ DbError). LeadsOpen order old new ids before after (λ m n. CompactsLevel m c.args.level (unit_answer r) n)) c.in-Ok.is (c.compact_level.ensures.step ids))

pub returns-in-Err-clause-step : goal.returns-in-Err-clause-step
returns-in-Err-clause-step g c =
    let order = order_of g.K.KeyOrder.name g.K.KeyOrder.cmp in
    let facts = g.S.Store.facts in
    let old = seen_of facts c.args.self.now.source in
    let memory = c.args.self.now.source.memory in
    let ids = c.args.self.now.ids in
    let new = seen_of facts c.compact_level.new.source in
    let before = open_db memory c.in-Some.state in
    let after = open_db c.compact_level.new.source.memory c.compact_level.new.self in
    lifts order old new ids ids (option_map (open_db memory) c.args.self.now.state) before after _ (ap (option_map (open_db memory)) c.in-Some.is)
    (subst (λ (r : Result _ DbError). LeadsOpen order old new ids before after (λ m n. CompactsLevel m c.args.level (unit_answer r) n)) c.in-Err.is (c.compact_level.ensures.step ids))

pub returns-in-Ok-clause-works : goal.returns-in-Ok-clause-works
returns-in-Ok-clause-works g c =
    let order = order_of g.K.KeyOrder.name g.K.KeyOrder.cmp in
    let facts = g.S.Store.facts in
    let old = seen_of facts c.args.self.now.source in
    let new = seen_of facts c.compact_level.new.source in
    let memory = c.args.self.now.source.memory in
    let before = open_db memory c.in-Some.state in
    let after = open_db c.compact_level.new.source.memory c.compact_level.new.self in
    subst (λ (o : Option (OpenDb _ _)). LevelIn order c.args.level old new o (Some after) Done) (sym (ap (option_map (open_db memory)) c.in-Some.is)) (
      c.compact_level.ensures.memory,
      record {
        moves = subst (λ (r : Result _ DbError). OnOk r (MovesLevel order.cmp c.args.level before after)) c.in-Ok.is c.compact_level.ensures.moves;
        merges = subst (λ (r : Result _ DbError). OnOk r (MergesLevel order c.args.level old new before after)) c.in-Ok.is c.compact_level.ensures.merges;
      },
    )

pub returns-in-Err-clause-works : goal.returns-in-Err-clause-works
returns-in-Err-clause-works g c =
    let order = order_of g.K.KeyOrder.name g.K.KeyOrder.cmp in
    let facts = g.S.Store.facts in
    let old = seen_of facts c.args.self.now.source in
    let new = seen_of facts c.compact_level.new.source in
    let memory = c.args.self.now.source.memory in
    let after = open_db c.compact_level.new.source.memory c.compact_level.new.self in
    subst (λ (o : Option (OpenDb _ _)). LevelIn order c.args.level old new o (Some after) (Refused c.in-Err.error)) (sym (ap (option_map (open_db memory)) c.in-Some.is)) (c.compact_level.ensures.memory, tt)

pub returns-in-None-clause-breaks : goal.returns-in-None-clause-breaks
returns-in-None-clause-breaks g c = breaks_none (g.S.Store.facts c.args.self.now.source.tables.store) (g.S.Store.facts c.args.self.now.source.tables.store) (option_map (open_db c.args.self.now.source.memory) c.args.self.now.state) (option_map (open_db c.args.self.now.source.memory) c.args.self.now.state) _ (ap (option_map (open_db c.args.self.now.source.memory)) c.in-None.is)

pub returns-in-Ok-clause-breaks : goal.returns-in-Ok-clause-breaks
returns-in-Ok-clause-breaks g c = breaks_open (g.S.Store.facts c.args.self.now.source.tables.store) (g.S.Store.facts c.compact_level.new.source.tables.store) (option_map (open_db c.args.self.now.source.memory) c.args.self.now.state) (Some (open_db c.compact_level.new.source.memory c.compact_level.new.self)) (open_db c.args.self.now.source.memory c.in-Some.state) (open_db c.compact_level.new.source.memory c.compact_level.new.self) _ (ap (option_map (open_db c.args.self.now.source.memory)) c.in-Some.is) refl
    (λ whole. breaks_as (g.S.Store.facts c.args.self.now.source.tables.store) (g.S.Store.facts c.compact_level.new.source.tables.store) c.compact_level.new.self.broken (λ io. is_done (tt {0}) (sym (c.in-Ok.is) ∙ io)) (c.compact_level.ensures.breaks whole))

pub returns-in-Err-clause-breaks : goal.returns-in-Err-clause-breaks
returns-in-Err-clause-breaks g c = breaks_open (g.S.Store.facts c.args.self.now.source.tables.store) (g.S.Store.facts c.compact_level.new.source.tables.store) (option_map (open_db c.args.self.now.source.memory) c.args.self.now.state) (Some (open_db c.compact_level.new.source.memory c.compact_level.new.self)) (open_db c.args.self.now.source.memory c.in-Some.state) (open_db c.compact_level.new.source.memory c.compact_level.new.self) _ (ap (option_map (open_db c.args.self.now.source.memory)) c.in-Some.is) refl
    (λ whole. breaks_as (g.S.Store.facts c.args.self.now.source.tables.store) (g.S.Store.facts c.compact_level.new.source.tables.store) c.compact_level.new.self.broken (λ io. told_io {T = Unit {0}} c.in-Err.error (sym c.in-Err.is ∙ io)) (c.compact_level.ensures.breaks whole))

-- ---- what a process crash leaves

pub returns-in-None-clause-stops : goal.returns-in-None-clause-stops
returns-in-None-clause-stops g c =
    stops_standing (order_of g.K.KeyOrder.name g.K.KeyOrder.cmp) (seen_of g.S.Store.facts c.args.self.now.source) c.args.self.now.ids (open_in c.args.self.now) (g.S.Store.facts c.args.self.now.source.tables.store) (λ t. refl) (λ t. refl)

pub returns-in-Ok-clause-stops : goal.returns-in-Ok-clause-stops
returns-in-Ok-clause-stops g c =
    let memory = c.args.self.now.source.memory in
    stops_lent (order_of g.K.KeyOrder.name g.K.KeyOrder.cmp) (seen_of g.S.Store.facts c.args.self.now.source) (seen_of g.S.Store.facts c.compact_level.new.source) c.args.self.now.ids (open_in c.args.self.now) (open_db memory c.in-Some.state) (ap (option_map (open_db memory)) c.in-Some.is) c.compact_level.ensures.stops

pub returns-in-Err-clause-stops : goal.returns-in-Err-clause-stops
returns-in-Err-clause-stops g c =
    let memory = c.args.self.now.source.memory in
    stops_lent (order_of g.K.KeyOrder.name g.K.KeyOrder.cmp) (seen_of g.S.Store.facts c.args.self.now.source) (seen_of g.S.Store.facts c.compact_level.new.source) c.args.self.now.ids (open_in c.args.self.now) (open_db memory c.in-Some.state) (ap (option_map (open_db memory)) c.in-Some.is) c.compact_level.ensures.stops

-- ---- what a power loss leaves

pub returns-in-None-clause-loses : goal.returns-in-None-clause-loses
returns-in-None-clause-loses g c =
    loses_standing (order_of g.K.KeyOrder.name g.K.KeyOrder.cmp) (seen_of g.S.Store.facts c.args.self.now.source) c.args.self.now.ids (open_in c.args.self.now) (g.S.Store.facts c.args.self.now.source.tables.store) (λ t. refl) (λ t. refl) (λ t. refl)

pub returns-in-Ok-clause-loses : goal.returns-in-Ok-clause-loses
returns-in-Ok-clause-loses g c =
    let memory = c.args.self.now.source.memory in
    loses_lent (order_of g.K.KeyOrder.name g.K.KeyOrder.cmp) (seen_of g.S.Store.facts c.args.self.now.source) (seen_of g.S.Store.facts c.compact_level.new.source) c.args.self.now.ids (open_in c.args.self.now) (open_db memory c.in-Some.state) (ap (option_map (open_db memory)) c.in-Some.is) c.compact_level.ensures.stops

pub returns-in-Err-clause-loses : goal.returns-in-Err-clause-loses
returns-in-Err-clause-loses g c =
    let memory = c.args.self.now.source.memory in
    loses_lent (order_of g.K.KeyOrder.name g.K.KeyOrder.cmp) (seen_of g.S.Store.facts c.args.self.now.source) (seen_of g.S.Store.facts c.compact_level.new.source) c.args.self.now.ids (open_in c.args.self.now) (open_db memory c.in-Some.state) (ap (option_map (open_db memory)) c.in-Some.is) c.compact_level.ensures.stops

-- ---- what stays of the files that the open found

pub returns-in-None-clause-found : goal.returns-in-None-clause-found
returns-in-None-clause-found g c f m undamaged s = found_standing (open_in c.args.self.now) (g.S.Store.facts c.args.self.now.source.tables.store) (g.S.Store.facts c.args.self.now.source.tables.store) (λ t. refl) (λ t. refl) f

pub returns-in-Ok-clause-found : goal.returns-in-Ok-clause-found
returns-in-Ok-clause-found g c =
    let memory = c.args.self.now.source.memory in
    found_lent (order_of g.K.KeyOrder.name g.K.KeyOrder.cmp) (seen_of g.S.Store.facts c.args.self.now.source) (g.S.Store.facts c.compact_level.new.source.tables.store) c.args.self.now.ids (open_in c.args.self.now) (open_db memory c.in-Some.state) (ap (option_map (open_db memory)) c.in-Some.is) c.compact_level.ensures.stops.found

pub returns-in-Err-clause-found : goal.returns-in-Err-clause-found
returns-in-Err-clause-found g c =
    let memory = c.args.self.now.source.memory in
    found_lent (order_of g.K.KeyOrder.name g.K.KeyOrder.cmp) (seen_of g.S.Store.facts c.args.self.now.source) (g.S.Store.facts c.compact_level.new.source.tables.store) c.args.self.now.ids (open_in c.args.self.now) (open_db memory c.in-Some.state) (ap (option_map (open_db memory)) c.in-Some.is) c.compact_level.ensures.stops.found
