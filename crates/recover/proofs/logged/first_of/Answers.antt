use Rattle.std.proofs.Common.{◌≡◌, ℕ, get_or, sym, subst, arith}
use Rattle.std.specs.declared.cmp.Ordering.TheVariants.{Less}
use Rattle.recover.proofs.logged.first_of.Goals as goal

pub returns-clause-found : goal.returns-clause-found
returns-clause-found g c = λ d inside below.
    let same : c.loop-low.high ≡ c.loop-low.low = omega (arith, c.loop-low.invariant.0, c.loop-low-test.false) in
    c.loop-low.invariant.3 d (omega (arith, inside, same))
    (subst (λ (n : ℕ). g.K.KeyOrder.cmp (get_or c.args.logged.now n d).key.now c.args.key.now ≡ Less) (sym same) below)
