use Rattle.std.proofs.lemmas.Result.{err_from_is_err_and}
use Rattle.table_access.specs.Tables.{seen}
use Rattle.level_cursor.proofs.Refusing.{not_opened}
use Rattle.level_cursor.proofs.Searching.{opened_at}
use Rattle.level_cursor.proofs.row_search.open.Goals as goal

pub returns-in_err-cursor-clause-refused : goal.returns-in_err-cursor-clause-refused
returns-in_err-cursor-clause-refused g c =
    let p = err_from_is_err_and c.from_residual.result c.from_residual.ensures.1 in
    rw (p.1, p.2)
    (not_opened g.K.KeyOrder.cmp (seen (g.S.Store.facts c.args.source.now.store) c.args.source.now.tables c.args.source.now.blocks) (seen (g.S.Store.facts c.open.new.source.store) c.open.new.source.tables c.open.new.source.blocks)
    c.args.placed.now c.in_err-cursor.field-0.0 c.in_err-cursor.ensures.refused)

pub returns-clause-found : goal.returns-clause-found
returns-clause-found g c = λ t list has.
    opened_at g.K.KeyOrder.cmp (seen (g.S.Store.facts c.open.new.source.store) c.open.new.source.tables c.open.new.source.blocks) c.args.placed.now c.in_ok-cursor.cursor.placed
    c.in_ok-cursor.cursor.table.value.frame c.in_ok-cursor.cursor.here list c.in_ok-cursor.ensures.placed c.in_ok-cursor.ensures.nowhere (c.in_ok-cursor.ensures.lists t has.file has.there list has.spelled has.keys)
