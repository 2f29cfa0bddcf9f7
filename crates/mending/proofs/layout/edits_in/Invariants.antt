use Rattle.std.proofs.Common.{take, map}
use Rattle.mending.specs.Plans.{AreEdits}
use Rattle.mending.proofs.layout.edits_in.Given as goal

abbrev pub invariant-loop-record : goal.invariant-loop-record
invariant-loop-record l = AreEdits (map (λ r. r.items) (take l.record-index l.records)) l.edits.items
