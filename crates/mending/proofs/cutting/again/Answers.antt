use Rattle.mending.proofs.Fronts.{front_stays}
use Rattle.mending.proofs.cutting.again.Goals as goal

pub returns : goal.returns
returns c = front_stays
