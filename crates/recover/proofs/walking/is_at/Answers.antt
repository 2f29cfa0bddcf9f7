use Rattle.recover.proofs.WalkSteps.{is_at_by}
use Rattle.recover.proofs.walking.is_at.Goals as goal

pub returns : goal.returns
returns g c = is_at_by c.args.block.now c.key.result.now c.args.key.now c.is_same.result c.key.ensures c.is_same.ensures
