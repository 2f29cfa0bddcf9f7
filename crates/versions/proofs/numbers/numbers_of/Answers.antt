use Rattle.versions.proofs.OwnNumbers.{are_numbers}
use Rattle.versions.proofs.numbers.numbers_of.Goals as goal

pub returns : goal.returns
returns c = are_numbers c.args.tables.now c.loop-placed.placed-index c.loop-placed.numbers.items c.sort_unstable.new.self.items c.loop-placed-test.false c.loop-placed.invariant c.sort_unstable.ensures.permutation c.sort_unstable.ensures.sorted
