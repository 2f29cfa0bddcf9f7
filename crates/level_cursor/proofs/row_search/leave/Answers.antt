use Rattle.std.proofs.Common.{None, inr, ◌∙◌}
use Rattle.std.proofs.lemmas.Result.{err_from_is_err_and}
use Rattle.cursor.specs.Cuts.{End}
use Rattle.cursor.specs.Merging.{listed}
use Rattle.table_access.specs.Tables.{seen}
use Rattle.level_cursor.proofs.Refusing.{entered_torn, long_one, refused_later, refused_so}
use Rattle.cursor.proofs.Turns.{still_later}
use Rattle.level_cursor.proofs.Searching.{read_opened}
use Rattle.level_cursor.proofs.row_search.leave.Goals as goal

pub returns-in_err-cursor-clause-refused : goal.returns-in_err-cursor-clause-refused
returns-in_err-cursor-clause-refused g c =
    let p = err_from_is_err_and c.from_residual.result c.from_residual.ensures.1 in
    rw (p.1, p.2) (refused_so c.in_err-cursor.field-0.0 _ _ _ _ _ (λ none list cut has same. none list cut has) c.in_err-cursor.ensures.refused)

pub returns-in_err-to_last-clause-refused : goal.returns-in_err-to_last-clause-refused
returns-in_err-to_last-clause-refused g c =
    let p = err_from_is_err_and c.from_residual-in_err-to_last.result c.from_residual-in_err-to_last.ensures.1 in
    rw (p.1, p.2)
    (refused_later c.in_err-to_last.field-0.0 _ _ _ _ _ _ _ c.in_ok-cursor.ensures.carries.reads c.to_last.ensures.carries.reads
    (λ t none list cut has same. entered_torn g.K.KeyOrder.cmp (seen (g.S.Store.facts c.args.source.now.store) c.args.source.now.tables c.args.source.now.blocks) (seen (g.S.Store.facts c.open.new.source.store) c.open.new.source.tables c.open.new.source.blocks) c.args.placed.now c.in_ok-cursor.cursor.placed c.in_ok-cursor.cursor.table.value.frame c.in_ok-cursor.cursor.here (listed list None) End cut c.in_ok-cursor.ensures.placed c.in_ok-cursor.ensures.carries t c.in_ok-cursor.ensures.opened (c.in_ok-cursor.ensures.found t list has) same (none (listed list None) (c.in_ok-cursor.ensures.found t list has)))
    (λ t long. inr (long_one g.K.KeyOrder.cmp (seen (g.S.Store.facts c.args.source.now.store) c.args.source.now.tables c.args.source.now.blocks) (seen (g.S.Store.facts c.open.new.source.store) c.open.new.source.tables c.open.new.source.blocks) c.args.placed.now c.in_ok-cursor.cursor.table.value.frame t c.in_ok-cursor.ensures.opened long)) c.in_err-to_last.ensures.refused)

pub returns-clause-opened : goal.returns-clause-opened
returns-clause-opened g c = rw c.to_last.ensures.table (λ t file has. c.in_ok-cursor.ensures.opened (c.to_last.ensures.carries.reads.faithful t) file has)

pub returns-clause-found : goal.returns-clause-found
returns-clause-found g c =
    rw (c.to_last.ensures.placed, c.to_last.ensures.table) (λ t list has. c.in_ok-to_last.ensures.moves t (listed list None) (c.in_ok-cursor.ensures.found (c.to_last.ensures.carries.reads.faithful t) list has))

pub returns-in_err-to_last-clause-still : goal.returns-in_err-to_last-clause-still
returns-in_err-to_last-clause-still g c =
    let p = err_from_is_err_and c.from_residual-in_err-to_last.result c.from_residual-in_err-to_last.ensures.1 in
    rw (p.1, p.2) (still_later _ (g.S.Store.facts c.args.source.now.store) (g.S.Store.facts c.open.new.source.store) (g.S.Store.facts c.to_last.new.source.store) c.in_ok-cursor.ensures.still c.in_err-to_last.ensures.still)

pub returns-clause-still : goal.returns-clause-still
returns-clause-still g c = c.in_ok-to_last.ensures.still ∙ c.in_ok-cursor.ensures.still

pub returns-in_err-to_last-clause-carries : goal.returns-in_err-to_last-clause-carries
returns-in_err-to_last-clause-carries g c = read_opened g.K.KeyOrder.cmp (seen (g.S.Store.facts c.args.source.now.store) c.args.source.now.tables c.args.source.now.blocks) (seen (g.S.Store.facts c.open.new.source.store) c.open.new.source.tables c.open.new.source.blocks) (seen (g.S.Store.facts c.to_last.new.source.store) c.to_last.new.source.tables c.to_last.new.source.blocks) c.args.placed.now.table.number c.in_ok-cursor.cursor.placed.table.number (λ i. (c.in_ok-cursor.ensures.placed i).table.number) c.in_ok-cursor.ensures.carries c.to_last.ensures.carries

pub returns-clause-carries : goal.returns-clause-carries
returns-clause-carries g c = read_opened g.K.KeyOrder.cmp (seen (g.S.Store.facts c.args.source.now.store) c.args.source.now.tables c.args.source.now.blocks) (seen (g.S.Store.facts c.open.new.source.store) c.open.new.source.tables c.open.new.source.blocks) (seen (g.S.Store.facts c.to_last.new.source.store) c.to_last.new.source.tables c.to_last.new.source.blocks) c.args.placed.now.table.number c.in_ok-cursor.cursor.placed.table.number (λ i. (c.in_ok-cursor.ensures.placed i).table.number) c.in_ok-cursor.ensures.carries c.to_last.ensures.carries
