use Rattle.opening.proofs.Spared.{left_by_loss}
use Rattle.opening.proofs.laws.spared_law.Goals as goal

pub returns : goal.returns
returns c = left_by_loss
