use Rattle.std.proofs.Common.{Bor, List, ℕ, Option, option_copied, ap}
use Rattle.block.proofs.Between.{floor_by}
use Rattle.block.proofs.sorted_block.is_above.Goals as goal

pub returns-in-Some : goal.returns-in-Some
returns-in-Some g c =
    floor_by g.O.EntryOrder.below (option_copied c.args.floor) c.in-Some.bound.now c.args.key.now c.is_below.result
    (ap (λ (o : Option (Bor (List ℕ))). option_copied o) c.in-Some.is) c.is_below.ensures
