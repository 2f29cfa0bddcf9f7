use Rattle.mending.proofs.Fronts.{kept_records}
use Rattle.mending.proofs.cutting.keeps_records.Goals as goal

pub returns : goal.returns
returns c = kept_records
