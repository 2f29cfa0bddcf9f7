use Rattle.std.proofs.Common.{take}
use Rattle.engine.specs.internal.Pieces.{ClosesTables}
use Rattle.engine.proofs.work.close_tables.Given as goal

-- the tables of the numbers so far are closed
abbrev pub invariant-loop-number : goal.invariant-loop-number
invariant-loop-number g l = ClosesTables l.fn.tables.tables l.tables.tables (take l.number-index l.numbers)
