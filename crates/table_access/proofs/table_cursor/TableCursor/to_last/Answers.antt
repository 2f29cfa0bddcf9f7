use Rattle.std.proofs.Common.{◌≡◌, length, arith, ap, ◌∙◌}
use Rattle.std.proofs.lemmas.Result.{err_from_is_err_and}
use Rattle.table_access.specs.Tables.{seen}
use Rattle.table_access.proofs.Arrivals.{last_moved, refused_as}
use Rattle.table_access.proofs.Cutting.{torn_last}
use Rattle.table.specs.declared.handle.Place.{Place}
use Rattle.table.specs.Frame.{Opened}
use Rattle.table_access.proofs.table_cursor.TableCursor.to_last.Goals as goal

pub returns-in_err-self-clause-refused : goal.returns-in_err-self-clause-refused
returns-in_err-self-clause-refused g c =
    let p = err_from_is_err_and c.from_residual.result c.from_residual.ensures.1 in
    let places = ap (length {A = Place}) (c.places-end.ensures ∙ ap (λ (o : Opened). o.frame.places) c.deref.ensures) in
    rw (p.1, p.2)
    (refused_as c.in_err-self.field-0.0 _ _ _ _ _
    (λ lacks at lists.
    let l = lists.has.same_length in
    torn_last g.K.KeyOrder.cmp g.met.K.KeyOrder.total (seen (g.S.Store.facts c.args.source.now.store) c.args.source.now.tables c.args.source.now.blocks) c.args.self.now.placed c.args.self.now.table.value.frame c.args.self.now.here at lists (length c.places-end.result.now) (places ∙ l) lacks)
    (rw c.deref-2.ensures at c.in_err-self.ensures.refused))

pub returns-clause-moves : goal.returns-clause-moves
returns-clause-moves g c = λ t at lists.
    let found = rw c.deref-2.ensures at c.in_ok-self.ensures.found in
    let places = ap (length {A = Place}) (c.places-end.ensures ∙ ap (λ (o : Opened). o.frame.places) c.deref.ensures) in
    let end : length c.places-end.result.now ≡ length lists.groups = places ∙ lists.has.same_length in
    last_moved g.K.KeyOrder.cmp (seen (g.S.Store.facts c.args.source.now.store) c.args.source.now.tables c.args.source.now.blocks)
    (seen (g.S.Store.facts c.search_back.new.source.store) c.search_back.new.source.tables c.search_back.new.source.blocks) c.args.self.now.placed c.args.self.now.table.value.frame c.args.self.now.here c.in_ok-self.field-0 at
    c.in_ok-self.ensures.carries t lists (length c.places-end.result.now) end (found t lists.groups lists.has (omega (arith, end)))
