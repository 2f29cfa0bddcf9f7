use Rattle.std.proofs.Common.{arith}
use Rattle.table_tests.proofs.version_sets.over_level_2.Goals as goal

pub over_inputs-requires : goal.over_inputs-requires
over_inputs-requires g c =
    let cmp = g.K.KeyOrder.cmp in
    let version = c.args.version.now in
    let is = rw c.in-Some.is at c.in_ok-plan.ensures in
    c.inputs_in_order.ensures cmp version.tables c.in-Some.plan g.met.K.KeyOrder.total c.tables-tables.ensures.order ((c.plans_of_tables.ensures cmp version c.in-Some.plan).1 2 (omega arith) is)
