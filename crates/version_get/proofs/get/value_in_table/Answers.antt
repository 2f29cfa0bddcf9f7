use Rattle.std.proofs.Common.{◌≡◌}
use Rattle.std.proofs.lemmas.Result.{err_from_is_err_and}
use Rattle.ikey.specs.Orders.{order_of}
use Rattle.table_access.specs.Tables.{seen}
use Rattle.version_get.proofs.Getting.{not_table}
use Rattle.version_get.proofs.Turns.{torn_or}
use Rattle.version_get.proofs.get.value_in_table.Goals as goal

pub returns-in_err-value-clause-refused : goal.returns-in_err-value-clause-refused
returns-in_err-value-clause-refused g c =
    let p = err_from_is_err_and c.from_residual.result c.from_residual.ensures.1 in
    let old = seen (g.S.Store.facts c.args.source.now.store) c.args.source.now.tables c.args.source.now.blocks in
    let new = seen (g.S.Store.facts c.table_value.new.source.store) c.table_value.new.source.tables c.table_value.new.source.blocks in
    rw (p.1, p.2) (not_table (order_of g.K.KeyOrder.name g.K.KeyOrder.cmp) g.met.K.KeyOrder.total old new c.args.placed.now c.in_err-value.field-0.0 c.in_err-value.ensures.refused)

pub returns-in_err-value-clause-still : goal.returns-in_err-value-clause-still
returns-in_err-value-clause-still g c =
    let p = err_from_is_err_and c.from_residual.result c.from_residual.ensures.1 in
    rw (p.1, p.2) c.in_err-value.ensures.still

pub returns-in_err-value-clause-torn : goal.returns-in_err-value-clause-torn
returns-in_err-value-clause-torn g c =
    let p = err_from_is_err_and c.from_residual.result c.from_residual.ensures.1 in
    rw (p.1, p.2) (torn_or (c.args.placed.now.table.number ≡ 0) _ c.in_err-value.field-0.0 c.in_err-value.ensures.torn)
