use Rattle.std.proofs.Common.{option_copied}
use Rattle.block.proofs.Between.{ends_tell}
use Rattle.block.proofs.sorted_block.Block.lies_between.Goals as goal

pub returns : goal.returns
returns g c =
    ends_tell g.O.EntryOrder.below g.met.O.EntryOrder.transitive (option_copied c.args.bounds.floor) c.args.bounds.most.now c.in-Some.first.now c.args.last.now c.args.self.now.pairs c.is_at_most.result
    c.requires.rises c.in-Some.ensures c.requires.ends c.if-not-is_above.ensures c.is_at_most.ensures
