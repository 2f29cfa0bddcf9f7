use Rattle.table_access.proofs.Arriving.{begun}
use Rattle.table_access.proofs.memory_cursor.MemoryCursor.begins.Goals as goal

pub returns : goal.returns
returns g c = begun g.K.KeyOrder.cmp c.args.self.now c.args.table.now c.requires c.rises.ensures
