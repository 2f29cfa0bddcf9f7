use Rattle.std.proofs.lemmas.Result.{err_from_is_err_and}
use Rattle.table_access.specs.Tables.{seen}
use Rattle.table_access.proofs.Opening.{begins}
use Rattle.table_access.proofs.Standing.{table_still}
use Rattle.table_access.proofs.table_cursor.TableCursor.open.Goals as goal

pub returns-clause-lists : goal.returns-clause-lists
returns-clause-lists g c = λ t file has entries table keys.
    begins g.K.KeyOrder.cmp g.met.K.KeyOrder.total (seen (g.S.Store.facts c.args.source.now.store) c.args.source.now.tables c.args.source.now.blocks)
    (seen (g.S.Store.facts c.get_table.new.self.store) c.get_table.new.self.tables c.get_table.new.self.blocks) c.args.placed.now c.in_ok-table.table.value.frame file entries c.get_table.ensures.carries t has
    (c.in_ok-table.ensures.found t file has).1 table keys

pub returns-clause-open : goal.returns-clause-open
returns-clause-open g c = λ t file has. (c.in_ok-table.ensures.found t file has).1

pub returns-in_err-table-clause-still : goal.returns-in_err-table-clause-still
returns-in_err-table-clause-still g c =
    let p = err_from_is_err_and c.from_residual-in_err-table.result c.from_residual-in_err-table.ensures.1 in
    rw (p.1, p.2) (table_still c.in_err-table.field-0.0 (g.S.Store.facts c.args.source.now.store) (g.S.Store.facts c.get_table.new.self.store) c.args.placed.now.table.number _ _ c.in_err-table.ensures.refused)
