use Rattle.ikey.specs.Orders.{order_of}
use Rattle.engine.specs.OpenDb.{open_db}
use Rattle.db_cursor.specs.Whole.{seen_of}
use Rattle.engine.specs.internal.Pieces.{MayRefusePiece}
use Rattle.engine.proofs.Finishing.{outcome_by, outcome_done, serves_same, stays_done}
use Rattle.engine.proofs.Breaking.{unbroken}
use Rattle.std.proofs.Common.{refl}
use Rattle.engine.proofs.StopSteps.{keeps_none}
use Rattle.engine.proofs.state.DbState.write_sealed.Goals as goal

pub returns-then-is_none-clause-step : goal.returns-then-is_none-clause-step
returns-then-is_none-clause-step g c ids =
    stays_done (order_of g.K.KeyOrder.name g.K.KeyOrder.cmp) (seen_of g.S.Store.facts c.args.source.now) ids (open_db c.args.source.now.memory c.args.self.now) (λ e. 1) (tt {0})

pub returns-then-is_none-clause-outcome : goal.returns-then-is_none-clause-outcome
returns-then-is_none-clause-outcome g c =
    let db = open_db c.args.source.now.memory c.args.self.now in
    let facts = g.S.Store.facts c.args.source.now.tables.store in
    outcome_done MayRefusePiece facts facts db db (tt {0}) c.requires.whole (serves_same facts db c.requires.whole)

pub returns-then-is_none-clause-serves : goal.returns-then-is_none-clause-serves
returns-then-is_none-clause-serves g c = serves_same (g.S.Store.facts c.args.source.now.tables.store) (open_db c.args.source.now.memory c.args.self.now) c.requires.whole

pub returns-clause-outcome : goal.returns-clause-outcome
returns-clause-outcome g c =
    let facts = g.S.Store.facts in
    let f = c.flush.ensures in
    outcome_by (facts c.args.source.now.tables.store) (facts c.flush.new.source.tables.store) (open_db c.args.source.now.memory c.args.self.now) (open_db c.flush.new.source.memory c.flush.new.self) c.flush.result c.requires.whole f.lock f.outcome f.serves

pub returns-then-is_none-clause-breaks : goal.returns-then-is_none-clause-breaks
returns-then-is_none-clause-breaks g c = unbroken (g.S.Store.facts c.args.source.now.tables.store) (g.S.Store.facts c.args.source.now.tables.store) c.args.self.now.broken c.requires.whole refl

pub returns-clause-breaks : goal.returns-clause-breaks
returns-clause-breaks g c = c.flush.ensures.breaks

-- ---- what a process crash leaves

pub returns-then-is_none-clause-stops : goal.returns-then-is_none-clause-stops
returns-then-is_none-clause-stops g c = keeps_none (order_of g.K.KeyOrder.name g.K.KeyOrder.cmp) (seen_of g.S.Store.facts c.args.source.now) (open_db c.args.source.now.memory c.args.self.now)

pub returns-clause-stops : goal.returns-clause-stops
returns-clause-stops g c = c.flush.ensures.stops
