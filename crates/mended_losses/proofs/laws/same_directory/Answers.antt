use Rattle.mended_losses.proofs.Consistent.{consistent_again}
use Rattle.mended_losses.proofs.laws.same_directory.Goals as goal

pub returns : goal.returns
returns c = consistent_again
