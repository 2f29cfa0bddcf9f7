use Rattle.std.proofs.Common.{refl, sym, arith}
use Rattle.ikey.proofs.Fronts.{less-at, greater-at, same-at}
use Rattle.ikey.proofs.byte_order.compare_bytes.Goals as goal

pub returns-then-x-y : goal.returns-then-x-y
returns-then-x-y c =
    sym (less-at 0 c.args.a.now c.args.b.now (omega (arith, c.if-a-lt8.false, c.if-b-lt8.false)) (omega (arith, c.if-a-lt8.false, c.if-b-lt8.false)) c.word_at-x.ensures.small c.word_at-y.ensures.small refl
    (omega (arith, c.word_at-x.ensures.word, c.word_at-y.ensures.word, c.if-x-y.true)))

pub returns-then-y-x : goal.returns-then-y-x
returns-then-y-x c =
    sym (greater-at 0 c.args.a.now c.args.b.now (omega (arith, c.if-a-lt8.false, c.if-b-lt8.false)) (omega (arith, c.if-a-lt8.false, c.if-b-lt8.false)) c.word_at-x.ensures.small c.word_at-y.ensures.small refl
    (omega (arith, c.word_at-x.ensures.word, c.word_at-y.ensures.word, c.if-y-x.true)))

pub compare_second-requires-clause-same : goal.compare_second-requires-clause-same
compare_second-requires-clause-same c =
    same-at 0 c.args.a.now c.args.b.now (omega (arith, c.if-a-lt8.false, c.if-b-lt8.false)) (omega (arith, c.if-a-lt8.false, c.if-b-lt8.false)) c.word_at-x.ensures.small c.word_at-y.ensures.small refl
    (omega (arith, c.word_at-x.ensures.word, c.word_at-y.ensures.word, c.if-x-y.false, c.if-y-x.false))
