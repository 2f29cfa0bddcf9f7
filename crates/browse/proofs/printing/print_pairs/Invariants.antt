use Rattle.browse.proofs.Printed.{Progress}
use Rattle.browse.proofs.printing.print_pairs.Given as goal

-- the pairs so far came, and their lines are what is written and what waits
abbrev pub invariant-loop : goal.invariant-loop
invariant-loop g l = Progress g.K.KeyOrder.cmp g.S.Store.facts l.choice l.fn.reader l.fn.walk (g.W.Write.contents l.fn.writer) l.fn.text.items l.reader l.walk (g.W.Write.contents l.writer) l.text.items l.begun l.counter
