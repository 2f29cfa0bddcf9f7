use Rattle.cursor.proofs.Agreeing.{listed_is_had, had_is_listed}
use Rattle.cursor.proofs.laws.views_agree.Goals as goal

pub returns : goal.returns
returns g c = λ entries sequence pairs contents list view pair.
    (listed_is_had g.K.KeyOrder.cmp entries sequence pairs contents list view pair, had_is_listed g.K.KeyOrder.cmp entries sequence pairs contents list view pair)
