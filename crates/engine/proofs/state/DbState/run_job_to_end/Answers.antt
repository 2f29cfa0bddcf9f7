use Rattle.std.proofs.Common.{◌≡◌, ◌+◌, None, IsSome, refl, rules}
use Rattle.ikey.specs.Orders.{order_of}
use Rattle.memtables.specs.PlaceLaws.{left_there}
use Rattle.engine.specs.OpenDb.{open_db}
use Rattle.db_cursor.specs.Whole.{seen_of}
use Rattle.engine.specs.internal.Pieces.{MayRefusePiece}
use Rattle.engine.proofs.Emptied.{always_ok, on_ok}
use Rattle.engine.proofs.Finishing.{outcome_done, serves_same, stays_done}
use Rattle.engine.proofs.NeededEntries.{not_taking}
use Rattle.engine.proofs.WithinBudget.{not_some}
use Rattle.engine.proofs.Breaking.{unbroken}
use Rattle.engine.proofs.StopSteps.{keeps_none}
use Rattle.engine.proofs.state.DbState.run_job_to_end.Goals as goal

pub returns-then-is_none-clause-step : goal.returns-then-is_none-clause-step
returns-then-is_none-clause-step g c ids =
    stays_done (order_of g.K.KeyOrder.name g.K.KeyOrder.cmp) (seen_of g.S.Store.facts c.args.source.now) ids (open_db c.args.source.now.memory c.args.self.now) (λ e. e + 0) (tt {0})

pub returns-then-is_none-clause-outcome : goal.returns-then-is_none-clause-outcome
returns-then-is_none-clause-outcome g c =
    let db = open_db c.args.source.now.memory c.args.self.now in
    let facts = g.S.Store.facts c.args.source.now.tables.store in
    outcome_done MayRefusePiece facts facts db db (tt {0}) c.requires.whole (serves_same facts db c.requires.whole)

pub returns-then-is_none-clause-serves : goal.returns-then-is_none-clause-serves
returns-then-is_none-clause-serves g c = serves_same (g.S.Store.facts c.args.source.now.tables.store) (open_db c.args.source.now.memory c.args.self.now) c.requires.whole

pub returns-then-is_none-clause-memory : goal.returns-then-is_none-clause-memory
returns-then-is_none-clause-memory g c = left_there c.args.source.now.memory

pub returns-then-is_none-clause-needed : goal.returns-then-is_none-clause-needed
returns-then-is_none-clause-needed g c takes =
    let none : c.args.self.now.job ≡ None = search rules in
    absurd (not_taking (open_db c.args.source.now.memory c.args.self.now) none takes)

pub returns-then-is_none-clause-stays : goal.returns-then-is_none-clause-stays
returns-then-is_none-clause-stays g c none = refl

pub returns-clause-stays : goal.returns-clause-stays
returns-clause-stays g c =
    let some : IsSome c.args.self.now.job = search rules in
    always_ok c.take_steps.result (λ none. absurd (not_some c.args.self.now.job none some))

pub returns-then-is_none-clause-merges : goal.returns-then-is_none-clause-merges
returns-then-is_none-clause-merges g c some = absurd (not_some c.args.self.now.job (search rules) some)

pub returns-clause-merges : goal.returns-clause-merges
returns-clause-merges g c = on_ok c.take_steps.result (λ h some. h) c.take_steps.ensures.merges

pub returns-then-is_none-clause-breaks : goal.returns-then-is_none-clause-breaks
returns-then-is_none-clause-breaks g c = unbroken (g.S.Store.facts c.args.source.now.tables.store) (g.S.Store.facts c.args.source.now.tables.store) c.args.self.now.broken c.requires.whole refl

pub returns-clause-breaks : goal.returns-clause-breaks
returns-clause-breaks g c = c.take_steps.ensures.breaks

-- ---- what a process crash leaves

pub returns-then-is_none-clause-stops : goal.returns-then-is_none-clause-stops
returns-then-is_none-clause-stops g c = keeps_none (order_of g.K.KeyOrder.name g.K.KeyOrder.cmp) (seen_of g.S.Store.facts c.args.source.now) (open_db c.args.source.now.memory c.args.self.now)

pub returns-clause-stops : goal.returns-clause-stops
returns-clause-stops g c = c.take_steps.ensures.stops
