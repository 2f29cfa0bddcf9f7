use Rattle.std.proofs.Common.{rules, ◌∙◌}
use Rattle.table.specs.Views.{pairs_of}
use Rattle.table.proofs.Walks.{walked_more, all_walked}
use Rattle.table.proofs.pair.pairs_in.Goals as goal

pub loop-alloc-preserved : goal.loop-alloc-preserved
loop-alloc-preserved g c =
    walked_more c.first.new.self.pairs c.loop-alloc.cursor c.next.new.self (pairs_of c.loop-alloc.found.items) (pairs_of c.push_pair.new.pairs.items) c.key.result.now c.value.result.now
    c.loop-alloc.invariant (search rules) c.key.ensures c.value.ensures (search rules) (search rules)

pub returns : goal.returns
returns g c = all_walked c.first.new.self.pairs c.loop-alloc.cursor (pairs_of c.loop-alloc.found.items) c.loop-alloc.invariant (search rules) ∙ search rules
