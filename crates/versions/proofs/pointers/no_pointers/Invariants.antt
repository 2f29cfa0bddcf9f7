use Rattle.std.proofs.Common.{◌≡◌, None, replicate}
use Rattle.versions.proofs.pointers.no_pointers.Given as goal

-- one for each level so far
abbrev pub invariant-loop : goal.invariant-loop
invariant-loop l = l.pointers.items ≡ replicate l.counter None
