use Rattle.opening.proofs.RefusedEach.{refused_each}
use Rattle.opening.proofs.laws.refused_each_law.Goals as goal

pub returns : goal.returns
returns c = refused_each
