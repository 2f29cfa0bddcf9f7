use Rattle.table_access.proofs.Told.{told_is}
use Rattle.table_access.proofs.table_laws.told_for_all.Goals as goal

pub returns : goal.returns
returns g c = λ placed file frame entries key sequence value is may told. told_is g.K.KeyOrder.cmp placed file frame entries may g.met.K.KeyOrder.total g.met.K.KeyOrder.exact is key sequence value told
