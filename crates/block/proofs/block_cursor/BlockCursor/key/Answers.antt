use Rattle.std.proofs.Common.{ap, ◌∙◌}
use Rattle.ikey.specs.Entries.{Pair}
use Rattle.block.specs.Places.{Placed}
use Rattle.block.proofs.Moves.{standing, pair_there}
use Rattle.block.proofs.block_cursor.BlockCursor.key.Goals as goal

pub returns : goal.returns
returns g c index pair at found =
    let block = c.self.inside.block.value in
    let here = c.self.inside.at in
    let s = standing block c.self.inside.stands c.self.inside.key.items here.start here.value here.next c.args.self.now c.self.view_is c.self.invariant.0 c.requires in
    let there = pair_there block c.self.inside.stands c.args.self.now c.self.inside.key.items here.start here.value here.next (ap (λ (v : Placed). v.pairs) c.self.view_is) s index pair at found in
    c.as_slice.ensures.value ∙ s.spot.key_is ∙ ap (λ (p : Pair). p.key) there
