use Rattle.std.proofs.Common.{◌∙◌}
use Rattle.memtable.proofs.Numbers.{numbers-backwards}
use Rattle.memtable.proofs.linking.links_over.Goals as goal

pub level_over-requires-clause-numbers : goal.level_over-requires-clause-numbers
level_over-requires-clause-numbers c = numbers-backwards c.args.nodes.items c.deref-2.result.now (c.deref-2.ensures.value ∙ c.reverse.ensures.items) c.requires.numbers
