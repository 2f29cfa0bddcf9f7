use Rattle.std.proofs.Common.{◌≡◌, ℕ, Some, None, length, arith, subst}
use Rattle.cursor.specs.Motions.{IsBest}
use Rattle.cursor.proofs.children.best_by_key.Goals as goal

pub loop-index-preserved : goal.loop-index-preserved
loop-index-preserved g c = record {
  stands = c.better-best.ensures.stands;
  key = c.better-best.ensures.key;
  best = λ all to h. c.better-best.ensures.best all to h (c.loop-index.invariant.best all to h);
}

pub returns-in-None-clause-best : goal.returns-in-None-clause-best
returns-in-None-clause-best g c = λ all to h.
    let whole : c.loop-index.index ≡ length c.args.children.now = (let a = c.loop-index.auto.index-end in let b = c.loop-index-test.false in omega (arith, a, b)) in
    let b = rw c.in-None.is at (c.loop-index.invariant.best all to h) in
    subst (λ (n : ℕ). IsBest g.K.KeyOrder.cmp c.args.end all to n None) whole b

pub returns-in-Some-clause-best : goal.returns-in-Some-clause-best
returns-in-Some-clause-best g c = λ all to h.
    let whole : c.loop-index.index ≡ length c.args.children.now = (let a = c.loop-index.auto.index-end in let b = c.loop-index-test.false in omega (arith, a, b)) in
    let b = rw c.in-Some.is at (c.loop-index.invariant.best all to h) in
    subst (λ (n : ℕ). IsBest g.K.KeyOrder.cmp c.args.end all to n (Some c.in-Some.best.index)) whole b
