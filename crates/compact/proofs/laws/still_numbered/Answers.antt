use Rattle.compact.proofs.Numbered.{numbered-later}
use Rattle.compact.proofs.laws.still_numbered.Goals as goal

pub returns : goal.returns
returns c = numbered-later
