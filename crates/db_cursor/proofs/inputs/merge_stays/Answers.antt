use Rattle.db_cursor.proofs.KeptMerges.{merge_is_kept}
use Rattle.db_cursor.proofs.inputs.merge_stays.Goals as goal

pub returns : goal.returns
returns g c = λ merge. merge_is_kept g.K.KeyOrder.cmp merge
