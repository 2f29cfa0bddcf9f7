use Rattle.logfile.proofs.Determined.{same_writing}
use Rattle.logfile.proofs.appending.one_writing.Goals as goal

pub returns : goal.returns
returns c = same_writing
