use Rattle.mended_losses.proofs.Zeroed.{zeros_enough}
use Rattle.mended_losses.proofs.laws.zeroed_loss.Goals as goal

pub returns : goal.returns
returns c = zeros_enough
