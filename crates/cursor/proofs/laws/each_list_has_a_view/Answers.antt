use Rattle.cursor.proofs.Listing.{has_view}
use Rattle.cursor.proofs.laws.each_list_has_a_view.Goals as goal

pub returns : goal.returns
returns g c = λ entries sequence rises. has_view g.K.KeyOrder.cmp g.met.K.KeyOrder.total g.met.K.KeyOrder.exact sequence entries rises
