use Rattle.opening.proofs.Losing.{kept_whole}
use Rattle.opening.proofs.laws.kept_law.Goals as goal

pub returns : goal.returns
returns c = kept_whole c.free_change_law.ensures
