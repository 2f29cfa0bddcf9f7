use Rattle.std.proofs.Common.{ℕ, IsTrue, sym, ap, subst, ◌∙◌}
use Rattle.store.specs.Files.{Facts}
use Rattle.std.proofs.lemmas.Result.{err_from_is_err_and}
use Rattle.cursor.specs.Cuts.{TornAt, first_cut}
use Rattle.compact.proofs.Jobs.{starts, refuses-moving}
use Rattle.compact.proofs.job.Job.start.Goals as goal

pub returns-in_err-first-clause-refused : goal.returns-in_err-first-clause-refused
returns-in_err-first-clause-refused g c =
    let p = err_from_is_err_and c.from_residual-in_err-first.result c.from_residual-in_err-first.ensures.1 in
    rw (p.1, p.2) (refuses-moving c.in_err-first.field-0.0 (g.C.Cursor.facts c.args.source.now) (g.C.Cursor.facts c.first.new.source)
    (g.S.Store.facts (g.H.HasStore.store_of c.args.source.now)) (g.S.Store.facts (g.H.HasStore.store_of c.first.new.source))
    (TornAt g.C.Cursor.lists g.C.Cursor.torn first_cut c.args.cursor c.args.source.now) (g.C.Cursor.limited c.args.cursor c.args.source.now) ⊥
    (c.requires.facts c.args.source.now) (c.requires.facts c.first.new.source) c.in_err-first.ensures.still c.in_err-first.ensures.refused)

pub returns-clause-started : goal.returns-clause-started
returns-clause-started g c = λ deep next at t h apart ungathered outside.
    starts g.K.KeyOrder.cmp deep g.S.Store.facts g.H.HasStore.store_of g.H.HasStore.with_store g.H.HasStore.gathers g.C.Cursor.facts g.C.Cursor.lists g.C.Cursor.keeps g.C.Cursor.limited g.C.Cursor.torn g.C.Cursor.leaves g.C.Cursor.over
    c.requires.facts c.requires.gathers c.new-2.result.items c.args.cursor c.first.new.self c.in_ok-selection.selection c.new-4.result c.args.source.now c.first.new.source next at c.new-4.ensures.empty c.new-2.ensures.items
    (c.in_ok-selection.ensures.none g.K.KeyOrder.cmp deep) (c.new-4.ensures.none (g.S.Store.facts (g.H.HasStore.store_of c.first.new.source)) next)
    c.in_ok-first.ensures.moves c.in_ok-first.ensures.stays t h apart ungathered outside

pub returns-clause-stood : goal.returns-clause-stood
returns-clause-stood g c =
    let failures : Facts → ℕ = λ f. f.failures in
    ap failures (sym (c.requires.facts c.first.new.source)) ∙ c.in_ok-first.ensures.still ∙ ap failures (c.requires.facts c.args.source.now)

pub returns-clause-limits : goal.returns-clause-limits
returns-clause-limits g c = λ t past. c.in_ok-first.ensures.stays.limit (subst (λ (f : Facts). IsTrue f.faithful) (sym (c.requires.facts c.first.new.source)) t) past

pub returns-clause-torn : goal.returns-clause-torn
returns-clause-torn g c = λ t cut torn. c.in_ok-first.ensures.stays.tear (subst (λ (f : Facts). IsTrue f.faithful) (sym (c.requires.facts c.first.new.source)) t) cut torn
