use Rattle.std.proofs.Common.{◌+◌, refl, sym, ◌∙◌, arith}
use Rattle.filter.proofs.Cuts.{rest-first, rest-next, rest-last}
use Rattle.filter.proofs.builder.place_of.Goals as goal

pub loop-later-init : goal.loop-later-init
loop-later-init c = sym c.requires.all ∙ rest-first (c.args.index + 1) c.args.counts.now _ refl

pub overflow_sub-place : goal.overflow_sub-place
overflow_sub-place c = let next = rest-next _ c.loop-later.later-index c.loop-later-test.true in omega (arith, next, c.loop-later.invariant)

pub loop-later-preserved : goal.loop-later-preserved
loop-later-preserved c = let next = rest-next _ c.loop-later.later-index c.loop-later-test.true in omega (arith, next, c.loop-later.invariant)

pub returns : goal.returns
returns c = let none = rest-last _ c.loop-later.later-index c.loop-later-test.false in omega (arith, none, c.loop-later.invariant)
