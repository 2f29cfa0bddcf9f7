use Rattle.std.proofs.Common.{◌≡◌, [], ap}
use Rattle.block.specs.Places.{Placed, within}
use Rattle.block.specs.Reading.{pairs_of}
use Rattle.block.proofs.Fronts.{before_first, spot_read}
use Rattle.block.proofs.Keeping.{none_kept}
use Rattle.block.proofs.Moves.{respot, placed_at, is_within}
use Rattle.block.proofs.block_cursor.BlockCursor.first.Goals as goal

pub invariant_of-self-2 : goal.invariant_of-self-2
invariant_of-self-2 g c =
    let block = c.self.inside.block.value in
    let h = rw c.deref-block.ensures at c.parts.ensures.restarts in
    let pairs : block.pairs ≡ pairs_of block.body = rw c.deref-block.ensures at c.parts.ensures.pairs in
    let r = rw (c.parts.ensures.body, c.deref-block.ensures, c.clear-2.ensures.items, c.begin_at-at.ensures) at c.in_ok-step.ensures.read in
    let new = c.step.new.at in
    let key = c.step.new.key.items in
    let spot = respot block 0 key new.start new.value new.next pairs
    (spot_read block.body (pairs_of block.body) 0 [] 0 key new.start new.value new.next (before_first (pairs_of block.body) h.list block.body h.entries) r) in
    rw c.swap.ensures.x_after ((0, spot), none_kept block.body c.swap.new.y.items c.clear.new.self.items c.clear.ensures.items)

pub returns-clause-ok : goal.returns-clause-ok
returns-clause-ok g c =
    let block = c.self.inside.block.value in
    let h = rw c.deref-block.ensures at c.parts.ensures.restarts in
    let pairs : block.pairs ≡ pairs_of block.body = rw c.deref-block.ensures at c.parts.ensures.pairs in
    let r = rw (c.parts.ensures.body, c.deref-block.ensures, c.clear-2.ensures.items, c.begin_at-at.ensures) at c.in_ok-step.ensures.read in
    let new = c.step.new.at in
    let key = c.step.new.key.items in
    let spot = respot block 0 key new.start new.value new.next pairs
    (spot_read block.body (pairs_of block.body) 0 [] 0 key new.start new.value new.next (before_first (pairs_of block.body) h.list block.body h.entries) r) in
    let self = c.args.self.now in
    let view : block.pairs ≡ self.pairs = ap (λ (v : Placed). v.pairs) c.self.view_is in
    placed_at block self 0 key new.start new.value new.next (within self.pairs 0) view spot (is_within block self 0 key new.start new.value new.next view spot)
