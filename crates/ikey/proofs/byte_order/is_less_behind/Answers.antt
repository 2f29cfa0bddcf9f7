use Rattle.ikey.proofs.Behind.{plainly-behind}
use Rattle.ikey.proofs.byte_order.is_less_behind.Goals as goal

pub returns : goal.returns
returns c =
    let x = c.in-Some.ensures.lookup.3 in let y = c.in-Some-first.ensures.item.3 in
    plainly-behind c.args.shared c.args.a.now c.args.rest.now c.in-Some.x.now c.in-Some-first.y.now x.0 y.0 (x.1 0) (y.1 0)
