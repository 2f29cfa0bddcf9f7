use Rattle.std.proofs.lemmas.Result.{err_from_is_err_and}
use Rattle.table_access.specs.Tables.{seen}
use Rattle.table_access.specs.TableLaws.{carries_itself}
use Rattle.std.proofs.Common.{sym, ◌∙◌}
use Rattle.table_access.specs.TableLaws.{placed_in}
use Rattle.table_access.proofs.Arrivals.{refused_as}
use Rattle.table_access.proofs.Cutting.{some_place, torn_prev}
use Rattle.table_access.proofs.Strides.{stays_put, went_back, reached_back, ended_back}
use Rattle.table_access.proofs.table_cursor.TableCursor.step_back.Goals as goal

pub returns-in_err-end-clause-steps : goal.returns-in_err-end-clause-steps
returns-in_err-end-clause-steps g c =
    let p = err_from_is_err_and c.from_residual.result c.from_residual.ensures.1 in
    let old = seen (g.S.Store.facts c.args.source.now.store) c.args.source.now.tables c.args.source.now.blocks in
    rw p.1 (λ t at lists. stays_put g.K.KeyOrder.cmp old old c.args.self.now.placed c.args.self.now.table.value.frame c.args.self.now.here c.step_back.new.here at (carries_itself {numbers = λ number. ⊥} g.K.KeyOrder.cmp old) t lists (c.in_err-end.ensures.err lists.groups at.place lists.place))

pub returns-in-None-clause-steps : goal.returns-in-None-clause-steps
returns-in-None-clause-steps g c = λ t at lists.
    let steps = rw c.in-None.is at c.in_ok-end.ensures.ok in
    let old = seen (g.S.Store.facts c.args.source.now.store) c.args.source.now.tables c.args.source.now.blocks in
    went_back g.K.KeyOrder.cmp old old c.args.self.now.placed c.args.self.now.table.value.frame c.args.self.now.here c.step_back.new.here at (carries_itself {numbers = λ number. ⊥} g.K.KeyOrder.cmp old) t lists (steps lists.groups at.place lists.place)

pub returns-in_err-found-clause-steps : goal.returns-in_err-found-clause-steps
returns-in_err-found-clause-steps g c =
    let p = err_from_is_err_and c.from_residual-in_err-found.result c.from_residual-in_err-found.ensures.1 in
    let steps = rw c.in-Some.is at c.in_ok-end.ensures.ok in
    rw p.1
    (λ t at lists.
    stays_put g.K.KeyOrder.cmp (seen (g.S.Store.facts c.args.source.now.store) c.args.source.now.tables c.args.source.now.blocks)
    (seen (g.S.Store.facts c.search_back.new.source.store) c.search_back.new.source.tables c.search_back.new.source.blocks) c.args.self.now.placed c.args.self.now.table.value.frame c.args.self.now.here c.step_back.new.here at
    c.search_back.ensures.carries t lists (steps lists.groups at.place lists.place).0)

pub returns-in-Some-2-clause-steps : goal.returns-in-Some-2-clause-steps
returns-in-Some-2-clause-steps g c = λ t at lists.
    let found = rw (c.deref.ensures, c.in-Some-2.is) at c.in_ok-found.ensures.found in
    let steps = rw c.in-Some.is at c.in_ok-end.ensures.ok in
    let step = steps lists.groups at.place lists.place in
    reached_back g.K.KeyOrder.cmp (seen (g.S.Store.facts c.args.source.now.store) c.args.source.now.tables c.args.source.now.blocks)
    (seen (g.S.Store.facts c.search_back.new.source.store) c.search_back.new.source.tables c.search_back.new.source.blocks) c.args.self.now.placed c.args.self.now.table.value.frame c.args.self.now.here at
    c.in_ok-found.ensures.carries t lists c.in-Some-2.found c.in-Some.end step.2 (found t lists.groups lists.has step.1)

pub returns-in-None-2-clause-steps : goal.returns-in-None-2-clause-steps
returns-in-None-2-clause-steps g c = λ t at lists.
    let found = rw (c.deref.ensures, c.in-None-2.is) at c.in_ok-found.ensures.found in
    let steps = rw c.in-Some.is at c.in_ok-end.ensures.ok in
    let step = steps lists.groups at.place lists.place in
    let old = seen (g.S.Store.facts c.args.source.now.store) c.args.source.now.tables c.args.source.now.blocks in
    let new = seen (g.S.Store.facts c.search_back.new.source.store) c.search_back.new.source.tables c.search_back.new.source.blocks in (
      ended_back g.K.KeyOrder.cmp old new c.args.self.now.placed c.args.self.now.table.value.frame c.args.self.now.here at c.in_ok-found.ensures.carries t lists c.in-Some.end step.2 (found t lists.groups lists.has step.1),
      stays_put g.K.KeyOrder.cmp old new c.args.self.now.placed c.args.self.now.table.value.frame c.args.self.now.here c.step_back.new.here at c.in_ok-found.ensures.carries t lists step.0,
    )

pub returns-in_err-found-clause-refused : goal.returns-in_err-found-clause-refused
returns-in_err-found-clause-refused g c =
    let p = err_from_is_err_and c.from_residual-in_err-found.result c.from_residual-in_err-found.ensures.1 in
    let steps = rw c.in-Some.is at c.in_ok-end.ensures.ok in
    rw (p.1, p.2)
    (refused_as c.in_err-found.field-0.0 _ _ _ _ _
    (λ lacks at lists.
    let n = some_place at.place (sym (placed_in lists.groups c.args.self.now.here at.place lists.place) ∙ c.requires) in
    torn_prev g.K.KeyOrder.cmp g.met.K.KeyOrder.total (seen (g.S.Store.facts c.args.source.now.store) c.args.source.now.tables c.args.source.now.blocks) c.args.self.now.placed c.args.self.now.table.value.frame c.args.self.now.here at lists n.0 c.in-Some.end n.1 (steps lists.groups at.place lists.place).1 (steps lists.groups at.place lists.place).2 lacks)
    (rw c.deref.ensures at c.in_err-found.ensures.refused))
