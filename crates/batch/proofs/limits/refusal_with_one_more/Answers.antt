use Rattle.batch.proofs.Refused.{one_more_refused}
use Rattle.batch.proofs.limits.refusal_with_one_more.Goals as goal

pub returns : goal.returns
returns c = one_more_refused
