use Rattle.store.proofs.Stopping.{lost_earlier}
use Rattle.store.proofs.laws.lost_since.Goals as goal

pub returns : goal.returns
returns c = lost_earlier
