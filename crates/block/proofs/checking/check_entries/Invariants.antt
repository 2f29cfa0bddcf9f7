use Rattle.std.proofs.Common.{◌≡◌, ◌++◌, List, ℕ, [], length}
use Rattle.block.proofs.Rests.{RestOf, RestEnds}
use Rattle.block.proofs.checking.check_entries.Given as goal

-- the whole is entries exactly where the rest is
abbrev pub invariant-loop-rest : goal.invariant-loop-rest
invariant-loop-rest g l = record {
  front : List ℕ;
  parts : l.body ≡ front ++ l.rest;
  back : (last : List ℕ) → RestEnds g.O.EntryOrder.below (length front) l.key.items l.waiting l.rest last → RestEnds g.O.EntryOrder.below 0 [] l.restarts l.body last;
  onward : RestOf g.O.EntryOrder.below 0 [] l.restarts l.body → RestOf g.O.EntryOrder.below (length front) l.key.items l.waiting l.rest;
}

abbrev pub decreases-loop-rest : goal.decreases-loop-rest
decreases-loop-rest g l = length l.rest
