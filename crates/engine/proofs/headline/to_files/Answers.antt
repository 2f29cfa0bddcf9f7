use Rattle.engine.proofs.Lasting.{ends_itself, ends_last}
use Rattle.engine.proofs.headline.to_files.Goals as goal

pub returns-clause-undamaged : goal.returns-clause-undamaged
returns-clause-undamaged c = ends_itself

pub returns-clause-each : goal.returns-clause-each
returns-clause-each c = ends_last
