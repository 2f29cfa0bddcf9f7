use Rattle.std.proofs.Common.{get_or}
use Rattle.table.proofs.PlaceFronts.{front-at, front-below, front-not-below}
use Rattle.table.proofs.bounds.is_below.Goals as goal

pub returns-in-Less : goal.returns-in-Less
returns-in-Less g c = λ d.
    let q = c.in-Some.ensures.lookup in
    front-below g.K.KeyOrder.cmp c.in-Some.own.now c.args.sought (get_or c.args.places.now c.args.index d).key c.args.target.now
    (front-at c.args.places.now c.args.fronts.now c.args.index c.in-Some.own.now d c.requires.fronts q.3.0 q.1) c.requires.sought c.in-Less.ensures

pub returns-in-Greater : goal.returns-in-Greater
returns-in-Greater g c = λ d.
    let q = c.in-Some.ensures.lookup in
    front-not-below g.K.KeyOrder.cmp c.in-Some.own.now c.args.sought (get_or c.args.places.now c.args.index d).key c.args.target.now
    (front-at c.args.places.now c.args.fronts.now c.args.index c.in-Some.own.now d c.requires.fronts q.3.0 q.1) c.requires.sought c.in-Greater.ensures
