use Rattle.mended_losses.proofs.Between.{between_calls}
use Rattle.mended_losses.proofs.laws.between_calls.Goals as goal

pub returns : goal.returns
returns c = between_calls
