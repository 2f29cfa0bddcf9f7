use Rattle.db_cursor.specs.Whole.{seen_of}
use Rattle.ikey.specs.Orders.{order_of}
use Rattle.engine.specs.StandsDb.{open_by}
use Rattle.engine.proofs.Losing.{loses_ends, names_open}
use Rattle.engine.proofs.db.Db.losses.Goals as goal

pub returns-clause-ends : goal.returns-clause-ends
returns-clause-ends g c m undamaged s =
    loses_ends (order_of g.K.KeyOrder.name g.K.KeyOrder.cmp) c.spared_law.ensures c.cut_law.ensures (seen_of g.S.Store.facts c.args.self.now.source) c.args.self.now.ids (open_by c.args.self.now) m undamaged s

pub returns-clause-names : goal.returns-clause-names
returns-clause-names g c m undamaged s whole =
    names_open (order_of g.K.KeyOrder.name g.K.KeyOrder.cmp) (seen_of g.S.Store.facts c.args.self.now.source) c.args.self.now.ids (open_by c.args.self.now) m undamaged s whole
