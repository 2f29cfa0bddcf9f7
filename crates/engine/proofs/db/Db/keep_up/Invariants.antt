use Rattle.ikey.specs.Orders.{order_of}
use Rattle.std.proofs.Common.{◌≡◌}
use Rattle.engine.specs.Losses.{DbLoses}
use Rattle.engine.specs.Pace.{OnlyDraws}
use Rattle.engine.specs.Pacing.{IsBehind, WorksOn}
use Rattle.engine.specs.Reopening.{DbKeepsFound}
use Rattle.engine.specs.StandsDb.{FollowsDb, KeepsOpening, db_ids_of, db_options_of}
use Rattle.engine.specs.Stops.{DbStops}
use Rattle.engine.proofs.db.Db.keep_up.Given as goal

abbrev pub invariant-loop : goal.invariant-loop
invariant-loop g l = record {
  steps : FollowsDb (order_of g.K.KeyOrder.name g.K.KeyOrder.cmp) g.S.Store.facts l.initial.self l.self OnlyDraws;
  went_on : WorksOn (order_of g.K.KeyOrder.name g.K.KeyOrder.cmp) g.S.Store.facts (IsBehind (db_options_of l.initial.self)) l.fn.budget l.counter l.initial.self l.self;
  stops : DbStops (order_of g.K.KeyOrder.name g.K.KeyOrder.cmp) g.S.Store.facts l.initial.self l.self;
  loses : DbLoses (order_of g.K.KeyOrder.name g.K.KeyOrder.cmp) g.S.Store.facts l.initial.self l.self;
  found : DbKeepsFound (order_of g.K.KeyOrder.name g.K.KeyOrder.cmp) g.S.Store.facts l.initial.self l.self;
  ids : db_ids_of l.self ≡ db_ids_of l.initial.self;
  opening : KeepsOpening l.initial.self l.self;
}
