use Rattle.std.proofs.Common.{take}
use Rattle.recover.specs.internal.Merging.{AreNotesOf}
use Rattle.recover.proofs.logged.oldest_first.Given as goal

abbrev pub invariant-loop-entry : goal.invariant-loop-entry
invariant-loop-entry g l = AreNotesOf (take l.entry-index l.entries) l.logged.items
