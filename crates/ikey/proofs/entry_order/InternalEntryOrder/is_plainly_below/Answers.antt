use Rattle.ikey.specs.KeyViews.{key_of}
use Rattle.ikey.proofs.Behind.{internal-plainly}
use Rattle.ikey.proofs.entry_order.InternalEntryOrder.is_plainly_below.Goals as goal

pub returns : goal.returns
returns g c =
    internal-plainly g.K.KeyOrder.cmp c.args.a.now c.args.rest.now c.args.shared (key_of c.in-Some.key) (key_of c.in-Some-unpack.next) c.is_plainly_below.result c.in-Some.ensures.found c.in-Some-unpack.ensures.found c.if-shared-key.false
    c.is_plainly_below.ensures
