use Rattle.std.proofs.Common.{arith}
use Rattle.table_access.proofs.Testing.{first_test}
use Rattle.table_access.proofs.ends.begins_right.Goals as goal

pub returns : goal.returns
returns g c =
    let zero = c.if-index-ne0.false in
    first_test c.in-Some.first.now c.args.placed.now.table.smallest c.args.index c.args.block.now.pairs c.in-Some.ensures (omega (arith, zero)) c.same_bytes.result
    (rw c.as_slice.ensures at c.same_bytes.ensures)
