use Rattle.std.proofs.Common.{◌+◌, ◌∙◌, sym, arith}
use Rattle.ikey.proofs.Fronts.{less-at, greater-at, same-at, lengths-decide}
use Rattle.ikey.proofs.byte_order.compare_last.Goals as goal

pub returns-then-x-y : goal.returns-then-x-y
returns-then-x-y c =
    sym (less-at c.args.last c.args.a.now c.args.b.now (omega (arith, c.requires.is_last)) (omega (arith, c.requires.is_last)) c.word_at-x.ensures.small c.word_at-y.ensures.small c.requires.same
    (omega (arith, c.word_at-x.ensures.word, c.word_at-y.ensures.word, c.if-x-y.true)))

pub returns-then-y-x : goal.returns-then-y-x
returns-then-y-x c =
    sym (greater-at c.args.last c.args.a.now c.args.b.now (omega (arith, c.requires.is_last)) (omega (arith, c.requires.is_last)) c.word_at-x.ensures.small c.word_at-y.ensures.small c.requires.same
    (omega (arith, c.word_at-x.ensures.word, c.word_at-y.ensures.word, c.if-y-x.true)))

pub returns : goal.returns
returns c =
    c.cmp.ensures ∙ lengths-decide (c.args.last + 8) c.args.a.now c.args.b.now c.requires.is_last
    (same-at c.args.last c.args.a.now c.args.b.now (omega (arith, c.requires.is_last)) (omega (arith, c.requires.is_last)) c.word_at-x.ensures.small c.word_at-y.ensures.small c.requires.same
    (omega (arith, c.word_at-x.ensures.word, c.word_at-y.ensures.word, c.if-x-y.false, c.if-y-x.false)))
