use Rattle.engine.proofs.Prefixes.{begins_so}
use Rattle.engine.proofs.ranges.prefix_law.Goals as goal

pub returns : goal.returns
returns c = begins_so
