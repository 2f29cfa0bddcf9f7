use Rattle.std.proofs.Common.{◌≡◌, ◌<◌, ◌∙◌, get_or, arith}
use Rattle.ikey.proofs.FrontNumbers.{none-spelled, byte-spelled, room-for-byte, all-spelled}
use Rattle.ikey.proofs.front.Front.of_short.Goals as goal

pub loop-index-init : goal.loop-index-init
loop-index-init c = none-spelled c.args.key.now

pub overflow_mul-number : goal.overflow_mul-number
overflow_mul-number c = omega (arith, room-for-byte c.args.key.now c.loop-index.number c.loop-index.index 0 c.loop-index-test.true (omega arith) c.loop-index.invariant)

pub overflow_add-number : goal.overflow_add-number
overflow_add-number c =
    let small : c.from.result < 256 = omega (arith, c.from.ensures, c.byte_at.ensures, c.type_inv.key c.loop-index.index) in
    omega (arith, room-for-byte c.args.key.now c.loop-index.number c.loop-index.index c.from.result c.loop-index-test.true small c.loop-index.invariant)

pub loop-index-preserved : goal.loop-index-preserved
loop-index-preserved c =
    let is : c.from.result ≡ get_or c.args.key.now c.loop-index.index 0 = c.from.ensures ∙ c.byte_at.ensures in
    let small : c.from.result < 256 = omega (arith, is, c.type_inv.key c.loop-index.index) in
    byte-spelled c.args.key.now c.loop-index.number c.loop-index.index c.from.result c.loop-index-test.true small is c.loop-index.invariant

pub returns : goal.returns
returns c =
    let all : c.loop-index.index ≡ 16 = omega (arith, c.loop-index-test.false, c.loop-index.auto.index-end) in
    record {
      bytes = λ i. omega (arith, c.type_inv.key i);
      number = all-spelled c.args.key.now c.loop-index.number c.loop-index.index all c.loop-index.invariant;
    }
