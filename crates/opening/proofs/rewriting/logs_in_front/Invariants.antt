use Rattle.std.proofs.Common.{map, string_bytes}
use Rattle.opening.proofs.Fronts.{AreSoFar}
use Rattle.opening.proofs.rewriting.logs_in_front.Given as goal

-- the names of the logs so far
abbrev pub invariant-loop-log : goal.invariant-loop-log
invariant-loop-log l = AreSoFar l.found.logs.items l.log-index (map string_bytes l.names.items)
