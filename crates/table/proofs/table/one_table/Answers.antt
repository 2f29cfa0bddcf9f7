use Rattle.table.proofs.DataBlocks.{same_table}
use Rattle.table.proofs.table.one_table.Goals as goal

pub returns : goal.returns
returns c = λ cmp file entries others h k. same_table cmp file entries others h k
