use Rattle.std.proofs.Common.{arith, ◌≡◌, ℕ, length, subst}
use Rattle.ikey.specs.Orders.{order_of}
use Rattle.recover.specs.internal.Merging.{IsLeastOf}
use Rattle.recover.proofs.merging.least.Goals as goal

pub returns : goal.returns
returns g c =
    let e : c.loop-index.index ≡ length c.args.lanes.now = omega arith in
    subst (λ (n : ℕ). IsLeastOf (order_of g.K.KeyOrder.name g.K.KeyOrder.cmp) c.args.lanes.now n c.loop-index.best) e c.loop-index.invariant
