use Rattle.recover.specs.internal.MergeSteps.{stamps}
use Rattle.recover.proofs.merging.Merge.pass.Given as goal

-- what is logged, as entries
abbrev pub ghost-judge : goal.ghost-judge
ghost-judge g a = stamps a.against.logged.now
