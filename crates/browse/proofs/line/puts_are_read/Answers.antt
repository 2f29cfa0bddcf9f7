use Rattle.browse.proofs.PutLines.{line_says}
use Rattle.browse.proofs.line.puts_are_read.Goals as goal

pub returns : goal.returns
returns c = λ key value keys values command. line_says key value keys values command
