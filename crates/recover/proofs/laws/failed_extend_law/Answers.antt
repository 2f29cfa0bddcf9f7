use Rattle.recover.proofs.Adding.{failed_extend}
use Rattle.recover.proofs.laws.failed_extend_law.Goals as goal

pub returns : goal.returns
returns c = failed_extend
