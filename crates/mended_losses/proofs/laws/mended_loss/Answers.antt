use Rattle.mended_losses.proofs.OneLoss.{one_moment}
use Rattle.mended_losses.proofs.laws.mended_loss.Goals as goal

pub returns : goal.returns
returns c = one_moment
