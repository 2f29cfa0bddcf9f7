use Rattle.cursor.proofs.Joining.{has_union}
use Rattle.cursor.proofs.laws.lists_have_a_union.Goals as goal

pub returns : goal.returns
returns g c = λ lists rise apart. has_union g.K.KeyOrder.cmp g.met.K.KeyOrder.total g.met.K.KeyOrder.exact lists rise apart
