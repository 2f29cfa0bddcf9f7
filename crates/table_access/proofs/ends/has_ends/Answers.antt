use Rattle.table_access.proofs.Testing.{both_ends}
use Rattle.table_access.proofs.ends.has_ends.Goals as goal

pub returns : goal.returns
returns g c =
    both_ends c.args.placed.now c.args.count c.args.index c.args.block.now.value.pairs (rw c.deref.ensures at c.if-not-begins_right.ensures) c.in_ok-ends.ends c.in_ok-ends.ensures
