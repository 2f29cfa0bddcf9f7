use Rattle.store.proofs.Stopping.{now_left}
use Rattle.store.proofs.laws.left_now.Goals as goal

pub returns : goal.returns
returns c = now_left
