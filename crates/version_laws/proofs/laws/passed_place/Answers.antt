use Rattle.version_laws.proofs.Levels.{passed}
use Rattle.version_laws.proofs.laws.passed_place.Goals as goal

pub returns : goal.returns
returns c = passed
