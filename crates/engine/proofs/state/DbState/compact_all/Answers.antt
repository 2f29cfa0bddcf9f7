use Rattle.ikey.specs.Orders.{order_of}
use Rattle.engine.specs.OpenDb.{open_db}
use Rattle.db_cursor.specs.Whole.{seen_of}
use Rattle.engine.specs.Outcomes.{MayRefuseWork}
use Rattle.engine.proofs.Emptied.{all_broken, all_broken_caused, all_caused, all_compacted}
use Rattle.engine.proofs.Finishing.{outcome_all_as, outcome_stays}
use Rattle.engine.proofs.NeededEnds.{only_left}
use Rattle.engine.proofs.StopSteps.{keeps_none}
use Rattle.engine.proofs.state.DbState.compact_all.Goals as goal

pub returns-then-self-clause-step : goal.returns-then-self-clause-step
returns-then-self-clause-step g c ids =
    all_broken (order_of g.K.KeyOrder.name g.K.KeyOrder.cmp) (seen_of g.S.Store.facts c.args.source.now) ids (open_db c.args.source.now.memory c.args.self.now) c.if-self.true

pub returns-then-self-clause-outcome : goal.returns-then-self-clause-outcome
returns-then-self-clause-outcome g c = outcome_stays MayRefuseWork (g.S.Store.facts c.args.source.now.tables.store) (open_db c.args.source.now.memory c.args.self.now) _ (λ is. cc) (tt {0})

pub returns-then-self-clause-caused : goal.returns-then-self-clause-caused
returns-then-self-clause-caused g c = all_broken_caused (open_db c.args.source.now.memory c.args.self.now) c.args.source.now.tables.store 0 c.if-self.true

pub returns-clause-step : goal.returns-clause-step
returns-clause-step g c ids =
    let order = order_of g.K.KeyOrder.name g.K.KeyOrder.cmp in
    let old = seen_of g.S.Store.facts c.args.source.now in
    let new = seen_of g.S.Store.facts c.compact_everything.new.source in
    let before = open_db c.args.source.now.memory c.args.self.now in
    let after = open_db c.compact_everything.new.source.memory c.compact_everything.new.self in
    all_compacted order old new ids before after c.compact_everything.result c.if-self.false (c.compact_everything.ensures.step ids)

pub returns-clause-outcome : goal.returns-clause-outcome
returns-clause-outcome g c =
    let facts = g.S.Store.facts in
    outcome_all_as (facts c.args.source.now.tables.store) (facts c.compact_everything.new.source.tables.store) (open_db c.args.source.now.memory c.args.self.now) (open_db c.compact_everything.new.source.memory c.compact_everything.new.self) c.compact_everything.result c.compact_everything.ensures.outcome

pub returns-clause-caused : goal.returns-clause-caused
returns-clause-caused g c =
    all_caused (open_db c.args.source.now.memory c.args.self.now) c.args.source.now.tables.store c.compact_everything.new.source.tables.store c.compact_everything.result c.if-self.false c.compact_everything.ensures.outcome.allowed

pub returns-clause-needed : goal.returns-clause-needed
returns-clause-needed g c =
    let order = order_of g.K.KeyOrder.name g.K.KeyOrder.cmp in
    let old = seen_of g.S.Store.facts c.args.source.now in
    let new = seen_of g.S.Store.facts c.compact_everything.new.source in
    let before = open_db c.args.source.now.memory c.args.self.now in
    let after = open_db c.compact_everything.new.source.memory c.compact_everything.new.self in
    let e = c.compact_everything.ensures in
    only_left order g.met.K.KeyOrder.total old new before after c.if-self.false c.compact_everything.result e.step e.compacted e.needed

pub returns-then-self-clause-breaks : goal.returns-then-self-clause-breaks
returns-then-self-clause-breaks g c whole = absurd (let broken = c.if-self.true in cc)

pub returns-clause-breaks : goal.returns-clause-breaks
returns-clause-breaks g c whole = c.compact_everything.ensures.breaks

-- ---- what a process crash leaves

pub returns-then-self-clause-stops : goal.returns-then-self-clause-stops
returns-then-self-clause-stops g c = keeps_none (order_of g.K.KeyOrder.name g.K.KeyOrder.cmp) (seen_of g.S.Store.facts c.args.source.now) (open_db c.args.source.now.memory c.args.self.now)

pub returns-clause-stops : goal.returns-clause-stops
returns-clause-stops g c = c.compact_everything.ensures.stops
