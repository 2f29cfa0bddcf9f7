use Rattle.std.proofs.Common.{ℕ, Bool, refl, subst, inl, inr, arith}
use Rattle.ikey.specs.Orders.{order_of}
use Rattle.script.specs.Importing.{HasRoom, IsFull, WritesBatch}
use Rattle.script.proofs.Imported.{none_waits}
use Rattle.script.proofs.importing.make_room.Goals as goal

pub returns-then-not-is_full-clause-ok : goal.returns-then-not-is_full-clause-ok
returns-then-not-is_full-clause-ok g c = inl (refl, refl, refl, refl)

pub returns-then-not-is_full-clause-room : goal.returns-then-not-is_full-clause-room
returns-then-not-is_full-clause-room g c = subst (λ (most : ℕ). HasRoom most c.args.gathered.now.operations.items) c.batch.ensures.is c.if-not-is_full.ensures

pub returns-clause-ok : goal.returns-clause-ok
returns-clause-ok g c =
    let order = order_of g.K.KeyOrder.name g.K.KeyOrder.cmp in
    let how = c.args.how.now in
    inr (
      subst (λ (most : ℕ). IsFull most c.args.gathered.now.operations.items) c.batch.ensures.is c.if-not-is_full.ensures,
      c.in_ok-made.ensures.none,
      subst (λ (sync : Bool). WritesBatch order g.S.Store.facts how.batch sync c.args.session.now c.write_gathered.new.session c.args.gathered.now.operations.items c.args.taken.now
          c.write_gathered.new.taken c.in_ok-made.made) c.sync.ensures c.in_ok-made.ensures.ok,
    )

pub returns-clause-room : goal.returns-clause-room
returns-clause-room g c =
    none_waits c.write_gathered.new.gathered.operations.items c.args.how.now.batch c.in_ok-made.ensures.none (omega (arith, c.batch.ensures.is, c.batch.ensures.range.0))
