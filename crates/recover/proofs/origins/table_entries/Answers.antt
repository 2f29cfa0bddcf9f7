use Rattle.std.proofs.lemmas.Result.{err_from_is_err_and}
use Rattle.ikey.specs.Orders.{order_of}
use Rattle.recover.proofs.OneOrigin.{no_table}
use Rattle.recover.proofs.origins.table_entries.Goals as goal

pub returns-in_default-clause-refused : goal.returns-in_default-clause-refused
returns-in_default-clause-refused g c = λ t placed at. absurd (c.in_default.ensures placed at)

pub returns-in_err-entries-clause-refused : goal.returns-in_err-entries-clause-refused
returns-in_err-entries-clause-refused g c =
    let p = err_from_is_err_and c.from_residual.result c.from_residual.ensures.1 in
    rw (p.1, p.2) (no_table (order_of g.K.KeyOrder.name g.K.KeyOrder.cmp) c.in_err-entries.field-0.0 (g.S.Store.facts c.args.store.now) (g.S.Store.facts c.read_table.new.store) c.args.layout.now c.args.level c.args.number
    c.in-Some.placed.now c.in-Some.ensures c.in_err-entries.ensures.refused)
