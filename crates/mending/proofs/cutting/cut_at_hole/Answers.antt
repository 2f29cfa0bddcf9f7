use Rattle.mending.proofs.Fronts.{no_hole_cut, nothing_cut}
use Rattle.mending.proofs.cutting.cut_at_hole.Goals as goal

pub returns-else-has_hole : goal.returns-else-has_hole
returns-else-has_hole c =
    let found = c.in-Some-broken_at.ensures in
    no_hole_cut c.args.bytes.now c.in-Some-broken_at.n found.0 c.in-None.ensures found.1 c.if-has_hole.ensures

pub returns-in-None-broken_at : goal.returns-in-None-broken_at
returns-in-None-broken_at c = nothing_cut c.args.bytes.now c.in-None.ensures c.in-None-broken_at.ensures
