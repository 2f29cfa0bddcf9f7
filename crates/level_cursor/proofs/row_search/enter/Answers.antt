use Rattle.std.proofs.Common.{None, inr, ◌∙◌}
use Rattle.std.proofs.lemmas.Result.{err_from_is_err_and}
use Rattle.cursor.specs.Cuts.{Below, Front}
use Rattle.cursor.specs.Merging.{listed}
use Rattle.table_access.specs.Tables.{seen}
use Rattle.level_cursor.proofs.Refusing.{entered_torn, long_one, refused_later, refused_so}
use Rattle.level_cursor.proofs.Searching.{entered_first, entered_key, first_refused, key_refused, read_opened}
use Rattle.cursor.proofs.Turns.{still_later}
use Rattle.level_cursor.proofs.row_search.enter.Goals as goal

pub returns-in_err-cursor-clause-refused : goal.returns-in_err-cursor-clause-refused
returns-in_err-cursor-clause-refused g c =
    let p = err_from_is_err_and c.from_residual.result c.from_residual.ensures.1 in
    rw (p.1, p.2) (refused_so c.in_err-cursor.field-0.0 _ _ _ _ _ (λ none list goal cut has aimed same. none list cut has) c.in_err-cursor.ensures.refused)

pub returns-in_err-to_first-in-First-clause-refused : goal.returns-in_err-to_first-in-First-clause-refused
returns-in_err-to_first-in-First-clause-refused g c =
    let p = err_from_is_err_and c.from_residual-in_err-to_first-in-First.result c.from_residual-in_err-to_first-in-First.ensures.1 in
    rw (p.1, p.2)
    (refused_later c.in_err-to_first-in-First.field-0.0 _ _ _ _ _ _ _ c.in_ok-cursor.ensures.carries.reads c.to_first.ensures.carries.reads
    (λ t none list goal cut has aimed same. entered_torn g.K.KeyOrder.cmp (seen (g.S.Store.facts c.args.source.now.store) c.args.source.now.tables c.args.source.now.blocks) (seen (g.S.Store.facts c.open.new.source.store) c.open.new.source.tables c.open.new.source.blocks) c.args.placed.now c.in_ok-cursor.cursor.placed c.in_ok-cursor.cursor.table.value.frame c.in_ok-cursor.cursor.here (listed list None) Front cut c.in_ok-cursor.ensures.placed c.in_ok-cursor.ensures.carries t c.in_ok-cursor.ensures.opened (c.in_ok-cursor.ensures.found t list has) (first_refused g.K.KeyOrder.cmp list goal cut (rw c.in-First.is at aimed) same) (none (listed list None) (c.in_ok-cursor.ensures.found t list has)))
    (λ t long. inr (long_one g.K.KeyOrder.cmp (seen (g.S.Store.facts c.args.source.now.store) c.args.source.now.tables c.args.source.now.blocks) (seen (g.S.Store.facts c.open.new.source.store) c.open.new.source.tables c.open.new.source.blocks) c.args.placed.now c.in_ok-cursor.cursor.table.value.frame t c.in_ok-cursor.ensures.opened long)) c.in_err-to_first-in-First.ensures.refused)

pub returns-in_ok-to_first-in-First-clause-opened : goal.returns-in_ok-to_first-in-First-clause-opened
returns-in_ok-to_first-in-First-clause-opened g c =
    rw c.to_first.ensures.table (λ t file has. c.in_ok-cursor.ensures.opened (c.to_first.ensures.carries.reads.faithful t) file has)

pub returns-in_ok-to_first-in-First-clause-found : goal.returns-in_ok-to_first-in-First-clause-found
returns-in_ok-to_first-in-First-clause-found g c =
    rw (c.in-First.is, c.to_first.ensures.placed, c.to_first.ensures.table)
    (λ t list has goal aimed.
    entered_first g.K.KeyOrder.cmp (seen (g.S.Store.facts c.args.source.now.store) c.args.source.now.tables c.args.source.now.blocks) (seen (g.S.Store.facts c.open.new.source.store) c.open.new.source.tables c.open.new.source.blocks) (seen (g.S.Store.facts c.to_first.new.source.store) c.to_first.new.source.tables c.to_first.new.source.blocks) c.args.placed.now
    c.in_ok-cursor.cursor.placed c.in_ok-cursor.cursor.table.value.frame c.in_ok-cursor.cursor.here c.to_first.new.self.here c.to_first.ensures.carries c.in_ok-cursor.ensures.found t list has goal aimed
    (c.in_ok-to_first-in-First.ensures.moves t))

pub returns-in_err-to_key-in-From-clause-refused : goal.returns-in_err-to_key-in-From-clause-refused
returns-in_err-to_key-in-From-clause-refused g c =
    let p = err_from_is_err_and c.from_residual-in_err-to_key-in-From.result c.from_residual-in_err-to_key-in-From.ensures.1 in
    rw (p.1, p.2)
    (refused_later c.in_err-to_key-in-From.field-0.0 _ _ _ _ _ _ _ c.in_ok-cursor.ensures.carries.reads c.to_key.ensures.carries.reads
    (λ t none list goal cut has aimed same. key_refused g.K.KeyOrder.cmp list c.in-From.target goal cut (rw c.in-From.is at aimed) same (λ key is its. entered_torn g.K.KeyOrder.cmp (seen (g.S.Store.facts c.args.source.now.store) c.args.source.now.tables c.args.source.now.blocks) (seen (g.S.Store.facts c.open.new.source.store) c.open.new.source.tables c.open.new.source.blocks) c.args.placed.now c.in_ok-cursor.cursor.placed c.in_ok-cursor.cursor.table.value.frame c.in_ok-cursor.cursor.here (listed list None) (Below key) cut c.in_ok-cursor.ensures.placed c.in_ok-cursor.ensures.carries t c.in_ok-cursor.ensures.opened (c.in_ok-cursor.ensures.found t list has) its (none key is (listed list None) (c.in_ok-cursor.ensures.found t list has))))
    (λ t long. inr (long_one g.K.KeyOrder.cmp (seen (g.S.Store.facts c.args.source.now.store) c.args.source.now.tables c.args.source.now.blocks) (seen (g.S.Store.facts c.open.new.source.store) c.open.new.source.tables c.open.new.source.blocks) c.args.placed.now c.in_ok-cursor.cursor.table.value.frame t c.in_ok-cursor.ensures.opened long)) c.in_err-to_key-in-From.ensures.refused)

pub returns-in_ok-to_key-in-From-clause-opened : goal.returns-in_ok-to_key-in-From-clause-opened
returns-in_ok-to_key-in-From-clause-opened g c =
    rw c.to_key.ensures.table (λ t file has. c.in_ok-cursor.ensures.opened (c.to_key.ensures.carries.reads.faithful t) file has)

pub returns-in_ok-to_key-in-From-clause-found : goal.returns-in_ok-to_key-in-From-clause-found
returns-in_ok-to_key-in-From-clause-found g c =
    rw (c.in-From.is, c.to_key.ensures.placed, c.to_key.ensures.table)
    (λ t list has goal aimed.
    entered_key g.K.KeyOrder.cmp (seen (g.S.Store.facts c.args.source.now.store) c.args.source.now.tables c.args.source.now.blocks) (seen (g.S.Store.facts c.open.new.source.store) c.open.new.source.tables c.open.new.source.blocks) (seen (g.S.Store.facts c.to_key.new.source.store) c.to_key.new.source.tables c.to_key.new.source.blocks) c.args.placed.now
    c.in_ok-cursor.cursor.placed c.in_ok-cursor.cursor.table.value.frame c.in_ok-cursor.cursor.here c.to_key.new.self.here c.to_key.ensures.carries c.in_ok-cursor.ensures.found t list has c.in-From.target goal aimed
    (λ key is. c.in_ok-to_key-in-From.ensures.moves key is t))

pub returns-in_err-to_first-in-First-clause-still : goal.returns-in_err-to_first-in-First-clause-still
returns-in_err-to_first-in-First-clause-still g c =
    let p = err_from_is_err_and c.from_residual-in_err-to_first-in-First.result c.from_residual-in_err-to_first-in-First.ensures.1 in
    rw (p.1, p.2) (still_later _ (g.S.Store.facts c.args.source.now.store) (g.S.Store.facts c.open.new.source.store) (g.S.Store.facts c.to_first.new.source.store) c.in_ok-cursor.ensures.still c.in_err-to_first-in-First.ensures.still)

pub returns-in_ok-to_first-in-First-clause-still : goal.returns-in_ok-to_first-in-First-clause-still
returns-in_ok-to_first-in-First-clause-still g c = c.in_ok-to_first-in-First.ensures.still ∙ c.in_ok-cursor.ensures.still

pub returns-in_err-to_key-in-From-clause-still : goal.returns-in_err-to_key-in-From-clause-still
returns-in_err-to_key-in-From-clause-still g c =
    let p = err_from_is_err_and c.from_residual-in_err-to_key-in-From.result c.from_residual-in_err-to_key-in-From.ensures.1 in
    rw (p.1, p.2) (still_later _ (g.S.Store.facts c.args.source.now.store) (g.S.Store.facts c.open.new.source.store) (g.S.Store.facts c.to_key.new.source.store) c.in_ok-cursor.ensures.still c.in_err-to_key-in-From.ensures.still)

pub returns-in_ok-to_key-in-From-clause-still : goal.returns-in_ok-to_key-in-From-clause-still
returns-in_ok-to_key-in-From-clause-still g c = c.in_ok-to_key-in-From.ensures.still ∙ c.in_ok-cursor.ensures.still

pub returns-in_err-to_first-in-First-clause-carries : goal.returns-in_err-to_first-in-First-clause-carries
returns-in_err-to_first-in-First-clause-carries g c = read_opened g.K.KeyOrder.cmp (seen (g.S.Store.facts c.args.source.now.store) c.args.source.now.tables c.args.source.now.blocks) (seen (g.S.Store.facts c.open.new.source.store) c.open.new.source.tables c.open.new.source.blocks) (seen (g.S.Store.facts c.to_first.new.source.store) c.to_first.new.source.tables c.to_first.new.source.blocks) c.args.placed.now.table.number c.in_ok-cursor.cursor.placed.table.number (λ i. (c.in_ok-cursor.ensures.placed i).table.number) c.in_ok-cursor.ensures.carries c.to_first.ensures.carries

pub returns-in_ok-to_first-in-First-clause-carries : goal.returns-in_ok-to_first-in-First-clause-carries
returns-in_ok-to_first-in-First-clause-carries g c = read_opened g.K.KeyOrder.cmp (seen (g.S.Store.facts c.args.source.now.store) c.args.source.now.tables c.args.source.now.blocks) (seen (g.S.Store.facts c.open.new.source.store) c.open.new.source.tables c.open.new.source.blocks) (seen (g.S.Store.facts c.to_first.new.source.store) c.to_first.new.source.tables c.to_first.new.source.blocks) c.args.placed.now.table.number c.in_ok-cursor.cursor.placed.table.number (λ i. (c.in_ok-cursor.ensures.placed i).table.number) c.in_ok-cursor.ensures.carries c.to_first.ensures.carries

pub returns-in_err-to_key-in-From-clause-carries : goal.returns-in_err-to_key-in-From-clause-carries
returns-in_err-to_key-in-From-clause-carries g c = read_opened g.K.KeyOrder.cmp (seen (g.S.Store.facts c.args.source.now.store) c.args.source.now.tables c.args.source.now.blocks) (seen (g.S.Store.facts c.open.new.source.store) c.open.new.source.tables c.open.new.source.blocks) (seen (g.S.Store.facts c.to_key.new.source.store) c.to_key.new.source.tables c.to_key.new.source.blocks) c.args.placed.now.table.number c.in_ok-cursor.cursor.placed.table.number (λ i. (c.in_ok-cursor.ensures.placed i).table.number) c.in_ok-cursor.ensures.carries c.to_key.ensures.carries

pub returns-in_ok-to_key-in-From-clause-carries : goal.returns-in_ok-to_key-in-From-clause-carries
returns-in_ok-to_key-in-From-clause-carries g c = read_opened g.K.KeyOrder.cmp (seen (g.S.Store.facts c.args.source.now.store) c.args.source.now.tables c.args.source.now.blocks) (seen (g.S.Store.facts c.open.new.source.store) c.open.new.source.tables c.open.new.source.blocks) (seen (g.S.Store.facts c.to_key.new.source.store) c.to_key.new.source.tables c.to_key.new.source.blocks) c.args.placed.now.table.number c.in_ok-cursor.cursor.placed.table.number (λ i. (c.in_ok-cursor.ensures.placed i).table.number) c.in_ok-cursor.ensures.carries c.to_key.ensures.carries
