use Rattle.std.proofs.Common.{refl}
use Rattle.db_cursor.specs.Whole.{whole}
use Rattle.db_cursor.proofs.KeptMerges.{moved_read_none}
use Rattle.db_cursor.proofs.inputs.moves_read_no_memory.Goals as goal

pub returns : goal.returns
returns g c = λ source old new same none.
    moved_read_none g.K.KeyOrder.cmp (λ s. whole (g.S.Store.facts s.tables.store) s.tables.tables s.tables.blocks s.memory) (λ s w. record s { memory = w }) (λ s w. refl) source old new same none
