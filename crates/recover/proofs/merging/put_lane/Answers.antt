use Rattle.std.proofs.Common.{List, Some, subst}
use Rattle.recover.specs.internal.Merging.{IsEnded}
use Rattle.recover.specs.declared.merging.Lane.{Lane}
use Rattle.recover.proofs.Merged.{put_in, put_behind}
use Rattle.recover.proofs.merging.put_lane.Goals as goal

pub returns-in-Some : goal.returns-in-Some
returns-in-Some g c =
    let E : List (Lane _) → Type 0 = λ ls. IsEnded ls (Some c.in-Some.index) in
    put_in c.args.lanes.now.items c.in-Some.index c.args.lane (subst E c.deref.ensures.value c.in-Some.ensures)

pub returns-in_ok-push-in-None : goal.returns-in_ok-push-in-None
returns-in_ok-push-in-None g c = put_behind c.args.lanes.now.items c.push.new.self.items c.args.lane c.in_ok-push-in-None.ensures.items
