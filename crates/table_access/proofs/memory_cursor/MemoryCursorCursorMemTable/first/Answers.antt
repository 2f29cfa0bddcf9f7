use Rattle.std.proofs.Common.{[], refl}
use Rattle.memtable.specs.Order.{ordered}
use Rattle.table_access.specs.Memory.{memory_facts}
use Rattle.table_access.proofs.Standing.{nothing_called}
use Rattle.table_access.proofs.memory_cursor.MemoryCursorCursorMemTable.first.Goals as goal

pub returns-clause-moves : goal.returns-clause-moves
returns-clause-moves g c = λ f at h. c.stand_from.ensures.moves [] (ordered g.K.KeyOrder.cmp c.args.source.now.inserts) at refl c.first-node.ensures.first h

pub returns-clause-still : goal.returns-clause-still
returns-clause-still g c = nothing_called memory_facts c.stand_from.result
