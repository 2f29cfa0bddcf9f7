use Rattle.mending.proofs.Fronts.{front_is_one}
use Rattle.mending.proofs.cutting.one_front.Goals as goal

pub returns : goal.returns
returns c = front_is_one
