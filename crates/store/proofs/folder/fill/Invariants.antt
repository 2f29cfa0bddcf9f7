use Rattle.std.proofs.Common.{◌≤◌, length}
use Rattle.store.proofs.folder.fill.Given as goal

-- no more came than the buffer holds
abbrev pub invariant-loop : goal.invariant-loop
invariant-loop l = l.read ≤ length l.buffer
