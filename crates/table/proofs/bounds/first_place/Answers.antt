use Rattle.std.proofs.Common.{◌≡◌, ◌+◌, ◌-◌, ◌/◌, ℕ, get_or, sym, subst, arith}
use Rattle.ikey.specs.Below.{IsBelowInternal}
use Rattle.table.proofs.bounds.first_place.Goals as goal

pub returns-clause-found : goal.returns-clause-found
returns-clause-found g c = λ d inside below.
    let same : c.loop-low.high ≡ c.loop-low.low = omega (arith, c.loop-low.invariant.0, c.loop-low-test.false) in
    c.loop-low.invariant.3 d (omega (arith, inside, same))
    (subst (λ (n : ℕ). IsBelowInternal g.K.KeyOrder.cmp (get_or c.args.places.now n d).key c.args.target.now) (sym same) below)

pub loop-low-preserved-then-is_below : goal.loop-low-preserved-then-is_below
loop-low-preserved-then-is_below g c = (
  omega (arith, c.loop-low-test.true, c.loop-low.invariant.0),
  c.loop-low.invariant.1,
  λ i d e.
      let middle : c.loop-low.low + (c.loop-low.high - c.loop-low.low) / 2 ≡ i = omega (arith, e) in
      subst (λ (n : ℕ). IsBelowInternal g.K.KeyOrder.cmp (get_or c.args.places.now n d).key c.args.target.now) middle (c.if-is_below.ensures d),
  c.loop-low.invariant.3,
)
