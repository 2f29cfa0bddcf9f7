use Rattle.std.proofs.Common.{is_some, sym, ap, ◌∙◌, arith}
use Rattle.block.specs.Places.{index_before}
use Rattle.block.proofs.Moves.{standing, none_before, before_is, index_in_front}
use Rattle.block.proofs.block_cursor.BlockCursor.has_prev.Goals as goal

pub returns-then-start-eq0 : goal.returns-then-start-eq0
returns-then-start-eq0 g c =
    let self = c.args.self.now in
    let block = c.self.inside.block.value in
    let here = c.self.inside.at in
    let s = standing block c.self.inside.stands c.self.inside.key.items here.start here.value here.next c.args.self.now c.self.view_is c.self.invariant.0 c.requires in
    ap is_some (none_before block.body block.pairs s.index here.start s.spot.front c.if-start-eq0.true ∙ before_is self.place s.index s.place_is)

pub returns : goal.returns
returns g c =
    let self = c.args.self.now in
    let block = c.self.inside.block.value in
    let here = c.self.inside.at in
    let s = standing block c.self.inside.stands c.self.inside.key.items here.start here.value here.next c.args.self.now c.self.view_is c.self.invariant.0 c.requires in
    let l = index_in_front block.body block.pairs s.index here.start s.spot.front (omega (arith, c.if-start-eq0.false)) in
    ap is_some (sym (ap index_before l.1) ∙ before_is self.place s.index s.place_is)
