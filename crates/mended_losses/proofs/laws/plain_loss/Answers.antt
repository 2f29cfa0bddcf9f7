use Rattle.mended_losses.proofs.OneLog.{plain_holed}
use Rattle.mended_losses.proofs.laws.plain_loss.Goals as goal

pub returns : goal.returns
returns c = plain_holed
