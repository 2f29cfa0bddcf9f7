use Rattle.batch.proofs.Made.{length-batch}
use Rattle.batch.proofs.Refused.{limits_hold}
use Rattle.batch.proofs.writing.encoding_length.Goals as goal

pub returns-clause-length : goal.returns-clause-length
returns-clause-length c = length-batch

pub returns-clause-limits : goal.returns-clause-limits
returns-clause-limits c = limits_hold
