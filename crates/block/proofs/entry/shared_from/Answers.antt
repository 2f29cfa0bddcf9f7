use Rattle.std.proofs.Common.{arith, drop, eqb, length-drop}
use Rattle.std.proofs.lemmas.List.Sums.{common_prefix_len-le}
use Rattle.block.proofs.entry.shared_from.Goals as goal

pub returns-else-shared-b : goal.returns-else-shared-b
returns-else-shared-b c =
    let i = c.loop-shared.shared in
    omega (arith, c.loop-shared.invariant.0, (common_prefix_len-le eqb (drop i c.args.a.now) (drop i c.args.b.now)).1, length-drop i c.args.b.now)
