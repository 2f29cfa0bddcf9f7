use Rattle.version_laws.proofs.Levels.{answered}
use Rattle.version_laws.proofs.laws.answered_place.Goals as goal

pub returns : goal.returns
returns c = answered
