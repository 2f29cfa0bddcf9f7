use Rattle.opening.proofs.Cutting.{cut_directory}
use Rattle.opening.proofs.laws.cut_law.Goals as goal

pub returns : goal.returns
returns c = cut_directory
