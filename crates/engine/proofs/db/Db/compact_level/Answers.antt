use Rattle.ikey.specs.Orders.{order_of}
use Rattle.engine.proofs.StopSteps.{stops_keeping}
use Rattle.engine.proofs.db.Db.compact_level.Goals as goal

pub returns-clause-step : goal.returns-clause-step
returns-clause-step g c = c.compact_level.ensures.step c.args.self.now.ids

pub returns-clause-breaks : goal.returns-clause-breaks
returns-clause-breaks g c whole = c.compact_level.ensures.breaks whole

pub returns-clause-stops : goal.returns-clause-stops
returns-clause-stops g c f m undamaged s =
    stops_keeping (order_of g.K.KeyOrder.name g.K.KeyOrder.cmp) m (g.S.Store.facts c.args.self.now.source.tables.store) (g.S.Store.facts c.compact_level.new.source.tables.store) (c.compact_level.ensures.stops.stops f c.args.self.now.ids m (record { stands = s; undamaged = undamaged }))

pub returns-clause-loses : goal.returns-clause-loses
returns-clause-loses g c f m undamaged s whole = c.compact_level.ensures.stops.loses f c.args.self.now.ids m (record { stands = s; undamaged = undamaged }) whole

pub returns-clause-found : goal.returns-clause-found
returns-clause-found g c f m undamaged s whole = c.compact_level.ensures.stops.found f c.args.self.now.ids m (record { stands = s; undamaged = undamaged }) whole
