use Rattle.recover.proofs.SaidNumbers.{beyond_past}
use Rattle.recover.proofs.laws.beyond_law.Goals as goal

pub returns : goal.returns
returns c = beyond_past
