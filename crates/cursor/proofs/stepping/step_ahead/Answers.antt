use Rattle.std.proofs.Common.{sym, ◌∙◌, subst}
use Rattle.cursor.specs.Cuts.{Cut, TornAt, first_cut, next_cut}
use Rattle.cursor.proofs.Cutting.{next_nowhere}
use Rattle.cursor.proofs.Turns.{refuses_as}
use Rattle.cursor.proofs.stepping.step_ahead.Goals as goal

pub returns-clause-refused : goal.returns-clause-refused
returns-clause-refused g c =
    let cursor = c.args.cursor.now in
    let s = c.args.source.now in
    refuses_as c.first.result (g.C.Cursor.facts s) (g.C.Cursor.facts c.first.new.source) (TornAt g.C.Cursor.lists g.C.Cursor.torn first_cut cursor s) (TornAt g.C.Cursor.lists g.C.Cursor.torn next_cut cursor s)
    (g.C.Cursor.limited cursor s)
    (λ there at l. subst (λ (cut : Cut). g.C.Cursor.torn cursor s cut) (sym (next_nowhere at (sym (g.met.C.Cursor.placed cursor s at l) ∙ (sym c.stands.ensures ∙ c.if-stands.false)))) (there at l))
    c.first.ensures.refused
