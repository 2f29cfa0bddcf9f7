use Rattle.ikey.specs.Orders.{order_of}
use Rattle.engine.specs.OpenDb.{open_db}
use Rattle.db_cursor.specs.Whole.{seen_of}
use Rattle.engine.proofs.Finishing.{Taken}
use Rattle.engine.proofs.state.DbState.take_steps.Given as goal

-- so many steps were taken, and the compaction is under way still
abbrev pub invariant-loop : goal.invariant-loop
invariant-loop g l =
    Taken (order_of g.K.KeyOrder.name g.K.KeyOrder.cmp) (seen_of g.S.Store.facts l.fn.source) (seen_of g.S.Store.facts l.source) (open_db l.fn.source.memory l.fn.self) (open_db l.source.memory l.self) l.counter
