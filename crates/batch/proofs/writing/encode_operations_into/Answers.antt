use Rattle.std.proofs.Common.{arith}
use Rattle.batch.proofs.Refused.{limits_hold, each_fits}
use Rattle.batch.proofs.writing.encode_operations_into.Goals as goal

pub put_batch-requires-clause-count : goal.put_batch-requires-clause-count
put_batch-requires-clause-count c = omega (arith, (limits_hold c.args.operations.now c.requires.fits).1)

pub put_batch-requires-clause-strings : goal.put_batch-requires-clause-strings
put_batch-requires-clause-strings c = each_fits c.args.operations.now c.requires.fits
