use Rattle.std.proofs.Common.{◌≡◌, suc, sym, ap, ◌∙◌, length, arith}
use Rattle.ikey.specs.Entries.{Pair}
use Rattle.block.specs.Places.{Placed, index_behind}
use Rattle.std.specs.Option.{option_and_then}
use Rattle.block.proofs.Fronts.{at_end, readable_before, spot_read}
use Rattle.block.proofs.Moves.{standing, placed_nowhere, still_placed_at, still_cursor, within_none, is_within, behind_is}
use Rattle.block.proofs.block_cursor.BlockCursor.next.Goals as goal

pub returns-then-self-body-clause-ok : goal.returns-then-self-body-clause-ok
returns-then-self-body-clause-ok g c =
    let self = c.args.self.now in
    let block = c.self.inside.block.value in
    let here = c.self.inside.at in
    let s = standing block c.self.inside.stands c.self.inside.key.items here.start here.value here.next c.args.self.now c.self.view_is c.self.invariant.0 c.requires in
    let view : block.pairs ≡ self.pairs = ap (λ (v : Placed). v.pairs) c.self.view_is in
    let end : here.next ≡ length block.body = rw (c.parts.ensures.body, c.deref-block.ensures) at c.if-self-body.true in
    let count = at_end block.body block.pairs (suc s.index) c.self.inside.key.items here.next s.spot.before (omega (arith, end)) in
    let none = within_none self.pairs (suc s.index) (omega (arith, count, ap (length {A = Pair}) view)) in
    placed_nowhere block self here.start (option_and_then (index_behind self.pairs) self.place) view (sym none ∙ behind_is self.pairs self.place s.index s.place_is)

pub step-requires : goal.step-requires
step-requires g c =
    let block = c.self.inside.block.value in
    let here = c.self.inside.at in
    let s = standing block c.self.inside.stands c.self.inside.key.items here.start here.value here.next c.args.self.now c.self.view_is c.self.invariant.0 c.requires in
    let other = rw (c.parts.ensures.body, c.deref-block.ensures) at c.if-self-body.false in
    rw (c.parts.ensures.body, c.deref-block.ensures) (readable_before block.body block.pairs (suc s.index) c.self.inside.key.items here.next s.spot.before (omega (arith, other, s.spot.before.front.inside)))

pub invariant_of-self-2 : goal.invariant_of-self-2
invariant_of-self-2 g c =
    let block = c.self.inside.block.value in
    let here = c.self.inside.at in
    let s = standing block c.self.inside.stands c.self.inside.key.items here.start here.value here.next c.args.self.now c.self.view_is c.self.invariant.0 c.requires in
    let r = rw (c.parts.ensures.body, c.deref-block.ensures) at c.in_ok-step.ensures.read in
    let new = c.step.new.at in
    let spot = spot_read block.body block.pairs (suc s.index) c.self.inside.key.items here.next c.step.new.key.items new.start new.value new.next s.spot.before r in
    (still_cursor block c.self.inside.stands (suc s.index) c.step.new.key.items new.start new.value new.next s.does spot, c.self.invariant.1)

pub returns-clause-ok : goal.returns-clause-ok
returns-clause-ok g c =
    let self = c.args.self.now in
    let block = c.self.inside.block.value in
    let here = c.self.inside.at in
    let s = standing block c.self.inside.stands c.self.inside.key.items here.start here.value here.next c.args.self.now c.self.view_is c.self.invariant.0 c.requires in
    let r = rw (c.parts.ensures.body, c.deref-block.ensures) at c.in_ok-step.ensures.read in
    let new = c.step.new.at in
    let spot = spot_read block.body block.pairs (suc s.index) c.self.inside.key.items here.next c.step.new.key.items new.start new.value new.next s.spot.before r in
    let view : block.pairs ≡ self.pairs = ap (λ (v : Placed). v.pairs) c.self.view_is in
    let there = is_within block self (suc s.index) c.step.new.key.items new.start new.value new.next view spot in
    still_placed_at block c.self.inside.stands self (suc s.index) c.step.new.key.items new.start new.value new.next (option_and_then (index_behind self.pairs) self.place) s.does view spot
    (there ∙ behind_is self.pairs self.place s.index s.place_is)
