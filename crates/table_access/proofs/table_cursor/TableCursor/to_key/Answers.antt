use Rattle.std.proofs.Common.{◌≤◌, length, arith}
use Rattle.std.proofs.lemmas.Result.{err_from_is_err_and}
use Rattle.table_access.specs.Tables.{seen}
use Rattle.table_access.proofs.Arrivals.{refused_as}
use Rattle.table_access.proofs.TableSeeking.{seek_moved}
use Rattle.table_access.proofs.Cutting.{torn_key}
use Rattle.table_access.proofs.table_cursor.TableCursor.to_key.Goals as goal

pub returns-in_err-self-clause-refused : goal.returns-in_err-self-clause-refused
returns-in_err-self-clause-refused g c =
    let p = err_from_is_err_and c.from_residual.result c.from_residual.ensures.1 in
    let first = rw c.deref.ensures at c.first_place-start.ensures in
    rw (p.1, p.2)
    (refused_as c.in_err-self.field-0.0 _ _ _ _ _
    (λ lacks key is_key at lists.
    torn_key g.K.KeyOrder.cmp g.met.K.KeyOrder.total (seen (g.S.Store.facts c.args.source.now.store) c.args.source.now.tables c.args.source.now.blocks) c.args.self.now.placed c.args.self.now.table.value.frame c.args.self.now.here at lists c.args.target.now key c.first_place-start.result is_key first lacks)
    (rw c.deref-2.ensures at c.in_err-self.ensures.refused))

pub returns-clause-moves : goal.returns-clause-moves
returns-clause-moves g c = λ key is_key t at lists.
    let found = rw c.deref-2.ensures at c.in_ok-self.ensures.found in
    let first = rw c.deref.ensures at c.first_place-start.ensures in
    let inside = first.inside in
    let fits : c.first_place-start.result ≤ length lists.groups =
    let l = lists.has.same_length in omega (arith, inside, l) in
    seek_moved g.K.KeyOrder.cmp g.met.K.KeyOrder.total (seen (g.S.Store.facts c.args.source.now.store) c.args.source.now.tables c.args.source.now.blocks)
    (seen (g.S.Store.facts c.search_on.new.source.store) c.search_on.new.source.tables c.search_on.new.source.blocks) c.args.self.now.placed c.args.self.now.table.value.frame c.args.self.now.here c.in_ok-self.field-0 at
    c.in_ok-self.ensures.carries t lists c.args.target.now c.first_place-start.result key first is_key (found t lists.groups lists.has fits)
