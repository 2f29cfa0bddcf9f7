use Rattle.ikey.specs.Orders.{order_of}
use Rattle.level_cursor.proofs.Beginning.{row_has_list}
use Rattle.level_cursor.proofs.laws.row_begins.Goals as goal

pub returns : goal.returns
returns g c = λ source contents sound has row. row_has_list (order_of g.K.KeyOrder.name g.K.KeyOrder.cmp) g.met.K.KeyOrder.total source contents sound has row
