use Rattle.db_cursor.specs.Whole.{seen_of}
use Rattle.ikey.specs.Orders.{order_of}
use Rattle.engine.specs.StandsDb.{open_by}
use Rattle.engine.proofs.Holding.{holds_now}
use Rattle.engine.proofs.db.Db.crashes.Goals as goal

pub returns : goal.returns
returns g c = record {
  holds = λ m undamaged s.
      holds_now (order_of g.K.KeyOrder.name g.K.KeyOrder.cmp) c.left_now.ensures (seen_of g.S.Store.facts c.args.self.now.source) c.args.self.now.ids (open_by c.args.self.now) m undamaged s;
}
