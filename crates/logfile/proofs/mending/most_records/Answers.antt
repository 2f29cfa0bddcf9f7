use Rattle.logfile.proofs.Cutting.{all_records}
use Rattle.logfile.proofs.mending.most_records.Goals as goal

pub returns : goal.returns
returns c = all_records
