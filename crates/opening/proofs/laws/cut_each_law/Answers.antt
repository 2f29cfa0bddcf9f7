use Rattle.opening.proofs.LosingEach.{cut_each}
use Rattle.opening.proofs.laws.cut_each_law.Goals as goal

pub returns : goal.returns
returns c = cut_each
