use Rattle.recover.specs.internal.MergeSteps.{IsFilled}
use Rattle.recover.proofs.merging.Merge.new.Given as goal

-- the tables before this one
abbrev pub invariant-loop-placed : goal.invariant-loop-placed
invariant-loop-placed g l = IsFilled l.tables l.placed-index l.begun.items l.summaries.items
