use Rattle.ikey.specs.Orders.{order_of}
use Rattle.engine.specs.Stands.{ids_of, open_in, seen_in}
use Rattle.engine.proofs.Holding.{any_holds}
use Rattle.engine.proofs.session.Session.crashes.Goals as goal

pub returns : goal.returns
returns g c = record {
  holds = any_holds (order_of g.K.KeyOrder.name g.K.KeyOrder.cmp) c.left_now.ensures (seen_in g.S.Store.facts c.args.self.now) (ids_of c.args.self.now) (open_in c.args.self.now);
}
