use Rattle.opening.proofs.LosingEach.{kept_each}
use Rattle.opening.proofs.laws.kept_each_law.Goals as goal

pub returns : goal.returns
returns c = kept_each c.free_change_law.ensures
