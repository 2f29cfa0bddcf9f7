use Rattle.std.proofs.Common.{◌-◌, sym, arith}
use Rattle.ikey.proofs.Fronts.{agree-less, less-at, greater-at, same-at}
use Rattle.ikey.proofs.byte_order.compare_rest.Goals as goal

pub returns-then-x-y : goal.returns-then-x-y
returns-then-x-y c =
    sym (less-at c.loop-at.at c.args.a.now c.args.b.now (omega (arith, c.requires.a_has_words, c.requires.b_has_words, c.min-last.ensures, c.loop-at-test.true)) (omega (arith, c.requires.a_has_words, c.requires.b_has_words, c.min-last.ensures, c.loop-at-test.true)) c.word_at-x.ensures.small c.word_at-y.ensures.small c.loop-at.invariant
    (omega (arith, c.word_at-x.ensures.word, c.word_at-y.ensures.word, c.if-x-y.true)))

pub returns-then-y-x : goal.returns-then-y-x
returns-then-y-x c =
    sym (greater-at c.loop-at.at c.args.a.now c.args.b.now (omega (arith, c.requires.a_has_words, c.requires.b_has_words, c.min-last.ensures, c.loop-at-test.true)) (omega (arith, c.requires.a_has_words, c.requires.b_has_words, c.min-last.ensures, c.loop-at-test.true)) c.word_at-x.ensures.small c.word_at-y.ensures.small c.loop-at.invariant
    (omega (arith, c.word_at-x.ensures.word, c.word_at-y.ensures.word, c.if-y-x.true)))

pub loop-at-preserved : goal.loop-at-preserved
loop-at-preserved c =
    same-at c.loop-at.at c.args.a.now c.args.b.now (omega (arith, c.requires.a_has_words, c.requires.b_has_words, c.min-last.ensures, c.loop-at-test.true)) (omega (arith, c.requires.a_has_words, c.requires.b_has_words, c.min-last.ensures, c.loop-at-test.true)) c.word_at-x.ensures.small c.word_at-y.ensures.small c.loop-at.invariant
    (omega (arith, c.word_at-x.ensures.word, c.word_at-y.ensures.word, c.if-x-y.false, c.if-y-x.false))

pub compare_last-requires-clause-same : goal.compare_last-requires-clause-same
compare_last-requires-clause-same c =
    agree-less (c.min-last.result - 8) c.loop-at.at c.args.a.now c.args.b.now (omega (arith, c.loop-at-test.false)) c.loop-at.invariant
