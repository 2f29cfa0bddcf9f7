use Rattle.memtable.proofs.Views.{later-unseen}
use Rattle.memtable.proofs.laws.later_inserts_are_unseen.Goals as goal

pub returns : goal.returns
returns c = λ cmp inserts more sequence all. later-unseen cmp sequence inserts more all
