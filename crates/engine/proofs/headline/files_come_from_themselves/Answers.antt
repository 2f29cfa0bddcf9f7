use Rattle.engine.proofs.Beginnings.{comes_from_itself}
use Rattle.engine.proofs.headline.files_come_from_themselves.Goals as goal

pub returns : goal.returns
returns c = comes_from_itself
