use Rattle.engine.proofs.Lasting.{starts_first, starts_itself}
use Rattle.engine.proofs.headline.from_files.Goals as goal

pub returns-clause-undamaged : goal.returns-clause-undamaged
returns-clause-undamaged c = starts_itself

pub returns-clause-each : goal.returns-clause-each
returns-clause-each c = starts_first
