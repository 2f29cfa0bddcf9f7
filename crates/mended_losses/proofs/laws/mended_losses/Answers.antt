use Rattle.mended_losses.proofs.OneLoss.{each_moment}
use Rattle.mended_losses.proofs.laws.mended_losses.Goals as goal

pub returns : goal.returns
returns c = each_moment
