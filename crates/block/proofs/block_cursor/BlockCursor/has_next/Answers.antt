use Rattle.std.proofs.Common.{◌≡◌, suc, is_some, sym, ap, ◌∙◌, length, arith}
use Rattle.ikey.specs.Entries.{Pair}
use Rattle.block.specs.Places.{Placed}
use Rattle.block.proofs.Fronts.{at_end, not_at_end}
use Rattle.block.proofs.Moves.{standing, within_none, within_some, behind_is}
use Rattle.block.proofs.block_cursor.BlockCursor.has_next.Goals as goal

pub returns-then-next-body : goal.returns-then-next-body
returns-then-next-body g c =
    let self = c.args.self.now in
    let block = c.self.inside.block.value in
    let here = c.self.inside.at in
    let s = standing block c.self.inside.stands c.self.inside.key.items here.start here.value here.next c.args.self.now c.self.view_is c.self.invariant.0 c.requires in
    let view : block.pairs ≡ self.pairs = ap (λ (v : Placed). v.pairs) c.self.view_is in
    let end : here.next ≡ length block.body = rw (c.parts.ensures.body, c.deref-block.ensures) at c.if-next-body.true in
    let count = at_end block.body block.pairs (suc s.index) c.self.inside.key.items here.next s.spot.before (omega (arith, end)) in
    let none = within_none self.pairs (suc s.index) (omega (arith, count, ap (length {A = Pair}) view)) in
    ap is_some (sym none ∙ behind_is self.pairs self.place s.index s.place_is)

pub returns : goal.returns
returns g c =
    let self = c.args.self.now in
    let block = c.self.inside.block.value in
    let here = c.self.inside.at in
    let s = standing block c.self.inside.stands c.self.inside.key.items here.start here.value here.next c.args.self.now c.self.view_is c.self.invariant.0 c.requires in
    let view : block.pairs ≡ self.pairs = ap (λ (v : Placed). v.pairs) c.self.view_is in
    let other = rw (c.parts.ensures.body, c.deref-block.ensures) at c.if-next-body.false in
    let more = not_at_end block.body block.pairs (suc s.index) c.self.inside.key.items here.next s.spot.before (omega (arith, other, s.spot.before.front.inside)) in
    let there = within_some self.pairs (suc s.index) (omega (arith, more, ap (length {A = Pair}) view)) in
    ap is_some (sym there ∙ behind_is self.pairs self.place s.index s.place_is)
