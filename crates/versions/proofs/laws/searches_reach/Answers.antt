use Rattle.versions.proofs.Reached.{reached}
use Rattle.versions.proofs.laws.searches_reach.Goals as goal

pub returns : goal.returns
returns c = reached
