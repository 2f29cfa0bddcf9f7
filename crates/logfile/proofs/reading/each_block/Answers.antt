use Rattle.logfile.proofs.Parts.{part_behind}
use Rattle.logfile.proofs.reading.each_block.Goals as goal

pub returns : goal.returns
returns c = part_behind
