use Rattle.ikey.specs.Orders.{order_of}
use Rattle.engine.specs.Applied.{DbLeaves}
use Rattle.engine.specs.Ranges.{SameWalk}
use Rattle.engine.specs.StandsDb.{FollowsDb, KeepsOpening, db_ids_of, open_by}
use Rattle.std.proofs.Common.{◌≡◌}
use Rattle.engine.proofs.RangeRuns.{HasFilled}
use Rattle.engine.proofs.db.Db.range_fill.Given as goal

-- so many came, of the same walk
abbrev pub invariant-loop : goal.invariant-loop
invariant-loop g l = record {
  steps : FollowsDb (order_of g.K.KeyOrder.name g.K.KeyOrder.cmp) g.S.Store.facts l.initial.self l.self
      (λ m n. HasFilled (order_of g.K.KeyOrder.name g.K.KeyOrder.cmp) l.counter m l.initial.walk l.initial.sink.items n l.walk l.sink.items);
  same : SameWalk l.initial.walk l.walk;
  leaves : DbLeaves g.S.Store.facts l.initial.self l.self;
  ids : db_ids_of l.self ≡ db_ids_of l.initial.self;
  whole : (open_by l.self).broken ≡ (open_by l.initial.self).broken;
  opening : KeepsOpening l.initial.self l.self;
}
