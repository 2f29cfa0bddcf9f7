use Rattle.table_access.proofs.Views.{later_kept}
use Rattle.table_access.proofs.memory_laws.later_inserts_are_kept.Goals as goal

pub returns : goal.returns
returns g c = λ cursor old new more sequence le all is. later_kept g.K.KeyOrder.cmp cursor.sequence sequence old.inserts new.inserts more le all is
