use Rattle.recover.specs.internal.Waiting.{AreWaiting}
use Rattle.recover.proofs.waiting.waiting_in.Given as goal

-- those of the tables in front
abbrev pub invariant-loop-place : goal.invariant-loop-place
invariant-loop-place l = AreWaiting l.tables l.place l.waiting.items
