use Rattle.ikey.specs.Orders.{order_of}
use Rattle.engine.specs.Stands.{ids_of, open_in, seen_in}
use Rattle.engine.proofs.Losing.{any_loses_ends, any_names}
use Rattle.engine.proofs.session.Session.losses.Goals as goal

pub returns-clause-ends : goal.returns-clause-ends
returns-clause-ends g c = any_loses_ends (order_of g.K.KeyOrder.name g.K.KeyOrder.cmp) c.spared_law.ensures c.cut_law.ensures (seen_in g.S.Store.facts c.args.self.now) (ids_of c.args.self.now) (open_in c.args.self.now)

pub returns-clause-names : goal.returns-clause-names
returns-clause-names g c = any_names (order_of g.K.KeyOrder.name g.K.KeyOrder.cmp) (seen_in g.S.Store.facts c.args.self.now) (ids_of c.args.self.now) (open_in c.args.self.now)
