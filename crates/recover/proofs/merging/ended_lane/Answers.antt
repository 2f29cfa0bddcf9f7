use Rattle.std.proofs.Common.{arith, ◌<◌, length, get_or}
use Rattle.std.proofs.lemmas.Option.{slice_get-get_or}
use Rattle.recover.proofs.merging.ended_lane.Goals as goal

pub returns-then-not-lanes-index : goal.returns-then-not-lanes-index
returns-then-not-lanes-index g c =
    let lanes = c.args.lanes.now in
    let d = c.index-lanes-index.result in
    let lt : c.loop-index.index < length lanes = omega arith in
    (get_or lanes c.loop-index.index d, slice_get-get_or lanes c.loop-index.index d lt, c.if-not-lanes-index.true)
