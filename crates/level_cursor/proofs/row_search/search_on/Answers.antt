use Rattle.std.proofs.Common.{Some, sym, ap, ◌∙◌, arith}
use Rattle.std.proofs.lemmas.Result.{err_from_is_err_and}
use Rattle.table_access.specs.Tables.{seen}
use Rattle.level_cursor.proofs.Lists.{read_at}
use Rattle.level_cursor.proofs.Refusing.{one_opened, refused_at}
use Rattle.level_cursor.proofs.Searching.{searched_torn, searching_begins, searching_found, searching_none, searching_on, read_one}
use Rattle.cursor.proofs.Turns.{still_later}
use Rattle.level_cursor.proofs.row_search.search_on.Goals as goal
use Rattle.level_cursor.specs.RowLists.{member_at}

pub loop-index-init : goal.loop-index-init
loop-index-init g c = searching_begins g.K.KeyOrder.cmp c.args.aim (seen (g.S.Store.facts c.args.source.now.store) c.args.source.now.tables c.args.source.now.blocks) c.args.row.now c.args.start

pub returns-in_err-cursor-clause-carries : goal.returns-in_err-cursor-clause-carries
returns-in_err-cursor-clause-carries g c = read_one g.K.KeyOrder.cmp (seen (g.S.Store.facts c.args.source.now.store) c.args.source.now.tables c.args.source.now.blocks) (seen (g.S.Store.facts c.loop-index.source.store) c.loop-index.source.tables c.loop-index.source.blocks) (seen (g.S.Store.facts c.enter.new.source.store) c.enter.new.source.tables c.enter.new.source.blocks) c.args.row.now c.index-row-index.result (member_at c.args.row.now c.loop-index.index c.index-row-index.result (read_at c.args.row.now c.loop-index.index c.index-row-index.result (omega arith) ∙ ap Some (sym c.index-row-index.is))) c.loop-index.invariant.carries c.enter.ensures.carries

pub returns-in_err-cursor-clause-refused : goal.returns-in_err-cursor-clause-refused
returns-in_err-cursor-clause-refused g c =
    let p = err_from_is_err_and c.from_residual.result c.from_residual.ensures.1 in
    rw (p.1, p.2)
    (refused_at g.K.KeyOrder.cmp c.in_err-cursor.field-0.0 (seen (g.S.Store.facts c.args.source.now.store) c.args.source.now.tables c.args.source.now.blocks) (seen (g.S.Store.facts c.loop-index.source.store) c.loop-index.source.tables c.loop-index.source.blocks) (seen (g.S.Store.facts c.enter.new.source.store) c.enter.new.source.tables c.enter.new.source.blocks) c.args.row.now c.loop-index.index c.index-row-index.result _ _ c.loop-index.invariant.carries c.enter.ensures.carries (read_at c.args.row.now c.loop-index.index c.index-row-index.result (omega arith) ∙ ap Some (sym c.index-row-index.is))
    (λ t lift none lists goal cut have aimed ends. let one = searched_torn g.K.KeyOrder.cmp c.args.aim (seen (g.S.Store.facts c.args.source.now.store) c.args.source.now.tables c.args.source.now.blocks) (seen (g.S.Store.facts c.loop-index.source.store) c.loop-index.source.tables c.loop-index.source.blocks) c.args.row.now c.args.start c.loop-index.index c.loop-index.invariant t c.index-row-index.result (read_at c.args.row.now c.loop-index.index c.index-row-index.result (omega arith) ∙ ap Some (sym c.index-row-index.is)) lists have goal aimed cut ends in lift cut one.2 (none one.0 goal cut one.1 aimed one.3)) c.in_err-cursor.ensures.refused)

pub returns-then-stands-clause-carries : goal.returns-then-stands-clause-carries
returns-then-stands-clause-carries g c = read_one g.K.KeyOrder.cmp (seen (g.S.Store.facts c.args.source.now.store) c.args.source.now.tables c.args.source.now.blocks) (seen (g.S.Store.facts c.loop-index.source.store) c.loop-index.source.tables c.loop-index.source.blocks) (seen (g.S.Store.facts c.enter.new.source.store) c.enter.new.source.tables c.enter.new.source.blocks) c.args.row.now c.index-row-index.result (member_at c.args.row.now c.loop-index.index c.index-row-index.result (read_at c.args.row.now c.loop-index.index c.index-row-index.result (omega arith) ∙ ap Some (sym c.index-row-index.is))) c.loop-index.invariant.carries c.enter.ensures.carries

pub returns-then-stands-clause-found : goal.returns-then-stands-clause-found
returns-then-stands-clause-found g c = searching_found g.K.KeyOrder.cmp c.args.aim (seen (g.S.Store.facts c.args.source.now.store) c.args.source.now.tables c.args.source.now.blocks) (seen (g.S.Store.facts c.loop-index.source.store) c.loop-index.source.tables c.loop-index.source.blocks) (seen (g.S.Store.facts c.enter.new.source.store) c.enter.new.source.tables c.enter.new.source.blocks) c.args.row.now c.args.start c.loop-index.index c.loop-index.invariant c.index-row-index.result c.enter.ensures.carries (read_at c.args.row.now c.loop-index.index c.index-row-index.result (omega arith) ∙ ap Some (sym c.index-row-index.is)) c.in_ok-cursor.cursor.placed c.in_ok-cursor.cursor.table.value.frame c.in_ok-cursor.cursor.here c.in_ok-cursor.ensures.found (sym c.stands.ensures ∙ c.if-stands.true)

pub returns-then-stands-clause-opened : goal.returns-then-stands-clause-opened
returns-then-stands-clause-opened g c = one_opened g.K.KeyOrder.cmp (seen (g.S.Store.facts c.args.source.now.store) c.args.source.now.tables c.args.source.now.blocks) (seen (g.S.Store.facts c.loop-index.source.store) c.loop-index.source.tables c.loop-index.source.blocks) (seen (g.S.Store.facts c.enter.new.source.store) c.enter.new.source.tables c.enter.new.source.blocks) c.args.row.now c.loop-index.index c.index-row-index.result c.in_ok-cursor.cursor.placed c.in_ok-cursor.cursor.table.value.frame c.loop-index.invariant.carries c.enter.ensures.carries (read_at c.args.row.now c.loop-index.index c.index-row-index.result (omega arith) ∙ ap Some (sym c.index-row-index.is)) c.in_ok-cursor.ensures.placed c.in_ok-cursor.ensures.opened

pub loop-index-preserved : goal.loop-index-preserved
loop-index-preserved g c = searching_on g.K.KeyOrder.cmp c.args.aim (seen (g.S.Store.facts c.args.source.now.store) c.args.source.now.tables c.args.source.now.blocks) (seen (g.S.Store.facts c.loop-index.source.store) c.loop-index.source.tables c.loop-index.source.blocks) (seen (g.S.Store.facts c.enter.new.source.store) c.enter.new.source.tables c.enter.new.source.blocks) c.args.row.now c.args.start c.loop-index.index c.loop-index.invariant c.index-row-index.result c.enter.ensures.carries (read_at c.args.row.now c.loop-index.index c.index-row-index.result (omega arith) ∙ ap Some (sym c.index-row-index.is)) c.in_ok-cursor.cursor.placed c.in_ok-cursor.cursor.table.value.frame c.in_ok-cursor.cursor.here c.in_ok-cursor.ensures.found (sym c.stands.ensures ∙ c.if-stands.false) c.in_ok-cursor.ensures.still

pub returns-clause-carries : goal.returns-clause-carries
returns-clause-carries g c = c.loop-index.invariant.carries

pub returns-clause-found : goal.returns-clause-found
returns-clause-found g c = let over = c.loop-index-test.false in searching_none g.K.KeyOrder.cmp c.args.aim (seen (g.S.Store.facts c.args.source.now.store) c.args.source.now.tables c.args.source.now.blocks) (seen (g.S.Store.facts c.loop-index.source.store) c.loop-index.source.tables c.loop-index.source.blocks) c.args.row.now c.args.start c.loop-index.index c.loop-index.invariant (omega (arith, over))

pub returns-in_err-cursor-clause-still : goal.returns-in_err-cursor-clause-still
returns-in_err-cursor-clause-still g c =
    let p = err_from_is_err_and c.from_residual.result c.from_residual.ensures.1 in
    rw (p.1, p.2) (still_later _ (g.S.Store.facts c.args.source.now.store) (g.S.Store.facts c.loop-index.source.store) (g.S.Store.facts c.enter.new.source.store) c.loop-index.invariant.still c.in_err-cursor.ensures.still)

pub returns-then-stands-clause-still : goal.returns-then-stands-clause-still
returns-then-stands-clause-still g c = c.in_ok-cursor.ensures.still ∙ c.loop-index.invariant.still

pub returns-clause-still : goal.returns-clause-still
returns-clause-still g c = c.loop-index.invariant.still
