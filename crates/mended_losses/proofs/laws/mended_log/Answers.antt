use Rattle.mended_losses.proofs.OneLog.{one_log}
use Rattle.mended_losses.proofs.laws.mended_log.Goals as goal

pub returns : goal.returns
returns c = one_log
