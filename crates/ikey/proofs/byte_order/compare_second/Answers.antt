use Rattle.std.proofs.Common.{◌+◌, ◌∙◌, sym, arith}
use Rattle.ikey.proofs.Fronts.{agree-less, less-at, greater-at, same-at, lengths-decide}
use Rattle.ikey.proofs.byte_order.compare_second.Goals as goal

pub returns-then-x-y : goal.returns-then-x-y
returns-then-x-y c =
    sym (less-at c.min-at.result c.args.a.now c.args.b.now (omega (arith, c.requires.a_has_word, c.requires.b_has_word, c.min-last.ensures, c.min-at.ensures)) (omega (arith, c.requires.a_has_word, c.requires.b_has_word, c.min-last.ensures, c.min-at.ensures)) c.word_at-x.ensures.small c.word_at-y.ensures.small (agree-less c.min-at.result 8 c.args.a.now c.args.b.now (omega (arith, c.min-at.ensures)) c.requires.same)
    (omega (arith, c.word_at-x.ensures.word, c.word_at-y.ensures.word, c.if-x-y.true)))

pub returns-then-y-x : goal.returns-then-y-x
returns-then-y-x c =
    sym (greater-at c.min-at.result c.args.a.now c.args.b.now (omega (arith, c.requires.a_has_word, c.requires.b_has_word, c.min-last.ensures, c.min-at.ensures)) (omega (arith, c.requires.a_has_word, c.requires.b_has_word, c.min-last.ensures, c.min-at.ensures)) c.word_at-x.ensures.small c.word_at-y.ensures.small (agree-less c.min-at.result 8 c.args.a.now c.args.b.now (omega (arith, c.min-at.ensures)) c.requires.same)
    (omega (arith, c.word_at-x.ensures.word, c.word_at-y.ensures.word, c.if-y-x.true)))

pub returns-then-last-le8 : goal.returns-then-last-le8
returns-then-last-le8 c =
    c.cmp.ensures ∙ lengths-decide (c.min-at.result + 8) c.args.a.now c.args.b.now (omega (arith, c.requires.a_has_word, c.requires.b_has_word, c.min-last.ensures, c.min-at.ensures, c.if-last-le8.true))
    (same-at c.min-at.result c.args.a.now c.args.b.now (omega (arith, c.requires.a_has_word, c.requires.b_has_word, c.min-last.ensures, c.min-at.ensures)) (omega (arith, c.requires.a_has_word, c.requires.b_has_word, c.min-last.ensures, c.min-at.ensures)) c.word_at-x.ensures.small c.word_at-y.ensures.small (agree-less c.min-at.result 8 c.args.a.now c.args.b.now (omega (arith, c.min-at.ensures)) c.requires.same)
    (omega (arith, c.word_at-x.ensures.word, c.word_at-y.ensures.word, c.if-x-y.false, c.if-y-x.false)))

pub compare_rest-requires-clause-same : goal.compare_rest-requires-clause-same
compare_rest-requires-clause-same c =
    agree-less 16 (c.min-at.result + 8) c.args.a.now c.args.b.now (omega (arith, c.requires.a_has_word, c.requires.b_has_word, c.min-last.ensures, c.min-at.ensures, c.if-last-le8.false))
    (same-at c.min-at.result c.args.a.now c.args.b.now (omega (arith, c.requires.a_has_word, c.requires.b_has_word, c.min-last.ensures, c.min-at.ensures)) (omega (arith, c.requires.a_has_word, c.requires.b_has_word, c.min-last.ensures, c.min-at.ensures)) c.word_at-x.ensures.small c.word_at-y.ensures.small (agree-less c.min-at.result 8 c.args.a.now c.args.b.now (omega (arith, c.min-at.ensures)) c.requires.same)
    (omega (arith, c.word_at-x.ensures.word, c.word_at-y.ensures.word, c.if-x-y.false, c.if-y-x.false)))
