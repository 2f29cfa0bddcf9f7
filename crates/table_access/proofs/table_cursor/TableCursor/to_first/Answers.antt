use Rattle.std.proofs.Common.{arith}
use Rattle.std.proofs.lemmas.Result.{err_from_is_err_and}
use Rattle.table_access.specs.Tables.{seen}
use Rattle.table_access.proofs.Cutting.{torn_first}
use Rattle.table_access.proofs.Arrivals.{first_moved, refused_as}
use Rattle.table_access.proofs.table_cursor.TableCursor.to_first.Goals as goal

pub returns-in_err-self-clause-refused : goal.returns-in_err-self-clause-refused
returns-in_err-self-clause-refused g c =
    let p = err_from_is_err_and c.from_residual.result c.from_residual.ensures.1 in
    rw (p.1, p.2) (refused_as c.in_err-self.field-0.0 _ _ _ _ _ (λ lacks at lists. torn_first g.K.KeyOrder.cmp g.met.K.KeyOrder.total (seen (g.S.Store.facts c.args.source.now.store) c.args.source.now.tables c.args.source.now.blocks) c.args.self.now.placed c.args.self.now.table.value.frame c.args.self.now.here at lists lacks) (rw c.deref.ensures at c.in_err-self.ensures.refused))

pub returns-clause-moves : goal.returns-clause-moves
returns-clause-moves g c = λ t at lists.
    let found = rw c.deref.ensures at c.in_ok-self.ensures.found in
    first_moved g.K.KeyOrder.cmp (seen (g.S.Store.facts c.args.source.now.store) c.args.source.now.tables c.args.source.now.blocks)
    (seen (g.S.Store.facts c.search_on.new.source.store) c.search_on.new.source.tables c.search_on.new.source.blocks) c.args.self.now.placed c.args.self.now.table.value.frame c.args.self.now.here c.in_ok-self.field-0 at
    c.in_ok-self.ensures.carries t lists (found t lists.groups lists.has (omega arith))
