use Rattle.std.proofs.Common.{arith, refl}
use Rattle.ikey.specs.Orders.{order_of}
use Rattle.memtables.specs.PlaceLaws.{left_there}
use Rattle.engine.specs.OpenDb.{open_db}
use Rattle.db_cursor.specs.Whole.{seen_of}
use Rattle.engine.specs.Outcomes.{MayRefuseLevel}
use Rattle.engine.proofs.Emptied.{bad_caused, broken_caused, level_broken, level_caused, level_compacted, level_refused}
use Rattle.engine.proofs.Finishing.{outcome_level_as, outcome_stays}
use Rattle.engine.proofs.Breaking.{unbroken}
use Rattle.engine.proofs.StopSteps.{keeps_none}
use Rattle.engine.proofs.state.DbState.compact_level.Goals as goal

pub returns-then-self-clause-step : goal.returns-then-self-clause-step
returns-then-self-clause-step g c ids =
    level_broken (order_of g.K.KeyOrder.name g.K.KeyOrder.cmp) (seen_of g.S.Store.facts c.args.source.now) ids (open_db c.args.source.now.memory c.args.self.now) c.args.level c.if-self.true

pub returns-then-self-clause-outcome : goal.returns-then-self-clause-outcome
returns-then-self-clause-outcome g c = outcome_stays MayRefuseLevel (g.S.Store.facts c.args.source.now.tables.store) (open_db c.args.source.now.memory c.args.self.now) _ (λ is. cc) (tt {0})

pub returns-then-self-clause-caused : goal.returns-then-self-clause-caused
returns-then-self-clause-caused g c = broken_caused (open_db c.args.source.now.memory c.args.self.now) c.args.source.now.tables.store c.args.level c.if-self.true

pub returns-clause-step : goal.returns-clause-step
returns-clause-step g c ids =
    let order = order_of g.K.KeyOrder.name g.K.KeyOrder.cmp in
    let old = seen_of g.S.Store.facts c.args.source.now in
    let new = seen_of g.S.Store.facts c.compact_tables_of.new.source in
    let before = open_db c.args.source.now.memory c.args.self.now in
    let after = open_db c.compact_tables_of.new.source.memory c.compact_tables_of.new.self in
    level_compacted order old new ids before after c.compact_tables_of.result c.if-self.false (c.compact_tables_of.ensures.step ids) c.args.level (omega (arith, c.if-level.false))

pub returns-clause-outcome : goal.returns-clause-outcome
returns-clause-outcome g c =
    let facts = g.S.Store.facts in
    outcome_level_as (facts c.args.source.now.tables.store) (facts c.compact_tables_of.new.source.tables.store) (open_db c.args.source.now.memory c.args.self.now) (open_db c.compact_tables_of.new.source.memory c.compact_tables_of.new.self) c.compact_tables_of.result c.compact_tables_of.ensures.outcome

pub returns-clause-caused : goal.returns-clause-caused
returns-clause-caused g c =
    level_caused (open_db c.args.source.now.memory c.args.self.now) c.args.source.now.tables.store c.compact_tables_of.new.source.tables.store c.compact_tables_of.result c.if-self.false c.compact_tables_of.ensures.outcome.allowed c.args.level (omega (arith, c.if-level.false))

pub returns-then-level-clause-step : goal.returns-then-level-clause-step
returns-then-level-clause-step g c ids =
    level_refused (order_of g.K.KeyOrder.name g.K.KeyOrder.cmp) (seen_of g.S.Store.facts c.args.source.now) ids (open_db c.args.source.now.memory c.args.self.now) c.args.level c.if-self.false (omega (arith, c.if-level.true))

pub returns-then-level-clause-outcome : goal.returns-then-level-clause-outcome
returns-then-level-clause-outcome g c = outcome_stays MayRefuseLevel (g.S.Store.facts c.args.source.now.tables.store) (open_db c.args.source.now.memory c.args.self.now) _ (λ is. cc) (tt {0})

pub returns-then-level-clause-caused : goal.returns-then-level-clause-caused
returns-then-level-clause-caused g c = bad_caused (open_db c.args.source.now.memory c.args.self.now) c.args.source.now.tables.store c.args.level c.if-self.false (omega (arith, c.if-level.true))

pub returns-then-self-clause-memory : goal.returns-then-self-clause-memory
returns-then-self-clause-memory g c = left_there c.args.source.now.memory

pub returns-then-level-clause-memory : goal.returns-then-level-clause-memory
returns-then-level-clause-memory g c = left_there c.args.source.now.memory

pub returns-then-self-clause-breaks : goal.returns-then-self-clause-breaks
returns-then-self-clause-breaks g c whole = absurd (let broken = c.if-self.true in cc)

pub returns-then-level-clause-breaks : goal.returns-then-level-clause-breaks
returns-then-level-clause-breaks g c whole = unbroken (g.S.Store.facts c.args.source.now.tables.store) (g.S.Store.facts c.args.source.now.tables.store) c.args.self.now.broken whole refl

pub returns-clause-breaks : goal.returns-clause-breaks
returns-clause-breaks g c whole = c.compact_tables_of.ensures.breaks

-- ---- what a process crash leaves

pub returns-then-self-clause-stops : goal.returns-then-self-clause-stops
returns-then-self-clause-stops g c = keeps_none (order_of g.K.KeyOrder.name g.K.KeyOrder.cmp) (seen_of g.S.Store.facts c.args.source.now) (open_db c.args.source.now.memory c.args.self.now)

pub returns-then-level-clause-stops : goal.returns-then-level-clause-stops
returns-then-level-clause-stops g c = keeps_none (order_of g.K.KeyOrder.name g.K.KeyOrder.cmp) (seen_of g.S.Store.facts c.args.source.now) (open_db c.args.source.now.memory c.args.self.now)

pub returns-clause-stops : goal.returns-clause-stops
returns-clause-stops g c = c.compact_tables_of.ensures.stops
