use Rattle.ikey.specs.Below.{IsBelowInternal}
use Rattle.table_access.proofs.Stopping.{stops_from}
use Rattle.table_access.proofs.table_search.enter.Goals as goal

pub returns-in_ok-seek-in-From-clause-place : goal.returns-in_ok-seek-in-From-clause-place
returns-in_ok-seek-in-From-clause-place g c =
    let s = rw c.new-cursor.ensures at c.in_ok-seek-in-From.ensures.ok in
    rw c.in-From.is (s.0, stops_from (IsBelowInternal g.K.KeyOrder.cmp) c.in-From.target.now c.args.block.value.pairs s.0 s.1, s.2)
