use Rattle.ikey.proofs.FrontNumbers.{IsSpelled}
use Rattle.ikey.proofs.front.Front.of_short.Given as goal

abbrev pub invariant-loop-index : goal.invariant-loop-index
invariant-loop-index l = IsSpelled l.key l.number l.index
