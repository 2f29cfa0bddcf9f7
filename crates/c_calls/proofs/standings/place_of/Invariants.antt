use Rattle.std.proofs.Common.{◌≡◌, ◌+◌, drop}
use Rattle.c_calls.specs.Standings.{place}
use Rattle.c_calls.proofs.standings.place_of.Given as goal

abbrev pub invariant-loop-at : goal.invariant-loop-at
invariant-loop-at l = place l.id l.iterators ≡ l.at + place l.id (drop l.at l.iterators)
