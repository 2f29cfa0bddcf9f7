use Rattle.versions.proofs.OwnNumbers.{own_numbers}
use Rattle.versions.proofs.ordering.have_own_numbers.Goals as goal

pub returns : goal.returns
returns c = own_numbers c.are_distinct.result c.args.tables.now c.in_ok-numbers.numbers.items c.in_ok-numbers.ensures (rw c.deref.ensures.value at c.are_distinct.ensures)
