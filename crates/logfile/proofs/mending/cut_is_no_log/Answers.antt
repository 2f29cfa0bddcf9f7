use Rattle.logfile.proofs.Cutting.{cut_none}
use Rattle.logfile.proofs.mending.cut_is_no_log.Goals as goal

pub returns : goal.returns
returns c = cut_none
