use Rattle.store.proofs.Stopping.{since_then, both_parts}
use Rattle.store.proofs.laws.left_since.Goals as goal

pub returns-clause-since : goal.returns-clause-since
returns-clause-since c = since_then

pub returns-clause-both : goal.returns-clause-both
returns-clause-both c = both_parts
