use Rattle.recover.proofs.Distinct.{distinct}
use Rattle.recover.proofs.laws.distinct_law.Goals as goal

pub returns : goal.returns
returns c = distinct
