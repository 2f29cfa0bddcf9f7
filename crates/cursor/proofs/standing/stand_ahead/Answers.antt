use Rattle.std.proofs.Common.{ℕ, Option, subst}
use Rattle.cursor.specs.Merging.{listed}
use Rattle.cursor.specs.Views.{is_user_below}
use Rattle.cursor.proofs.Befores.{get_among}
use Rattle.cursor.proofs.Standings.{here_ahead, here_past, ahead_there, entry_place}
use Rattle.std.proofs.lemmas.Result.{err_from_is_err_and}
use Rattle.cursor.specs.Cuts.{next_cut}
use Rattle.cursor.proofs.Wanderings.{refused_at}
use Rattle.cursor.proofs.standing.stand_ahead.Goals as goal

pub returns-in_ok-step_off-in-Here-clause-stands : goal.returns-in_ok-step_off-in-Here-clause-stands
returns-in_ok-step_off-in-Here-clause-stands g c = λ t entries entry value v same h.
    let here = rw c.in-Here.is at h in
    let at = entry_place entries here.0 entry here.2 in
    here_past g.K.KeyOrder.cmp g.met.K.KeyOrder.total g.met.K.KeyOrder.exact g.C.Cursor.lists g.C.Cursor.stands g.met.C.Cursor.rises g.met.C.Cursor.placed c.args.cursor.now c.step_off.new.cursor c.args.source.now c.step_off.new.source entries c.args.sequence entry c.args.user.now same here.0 at.0 here.1 at.2
    (c.in_ok-step_off-in-Here.ensures.moves t entries at.0 (subst (λ (place : Option ℕ). g.C.Cursor.lists c.args.cursor.now c.args.source.now (listed entries place)) at.1 here.1))

pub returns-in_ok-step_ahead-in-Behind-clause-stands : goal.returns-in_ok-step_ahead-in-Behind-clause-stands
returns-in_ok-step_ahead-in-Behind-clause-stands g c = λ t entries entry value v same h.
    let here = rw c.in-Behind.is at h in
    ahead_there g.K.KeyOrder.cmp g.met.K.KeyOrder.total g.met.K.KeyOrder.exact g.C.Cursor.lists g.C.Cursor.stands g.met.C.Cursor.rises g.met.C.Cursor.placed c.step_ahead.new.cursor c.step_ahead.new.cursor c.step_ahead.new.source c.step_ahead.new.source entries c.args.sequence entry c.args.user.now same
    (c.in_ok-step_ahead-in-Behind.ensures.moves t (is_user_below g.K.KeyOrder.cmp entry.key.user) entries here.0)

pub returns-in_ok-find_again-in-Astray-clause-stands : goal.returns-in_ok-find_again-in-Astray-clause-stands
returns-in_ok-find_again-in-Astray-clause-stands g c = λ t entries entry value v same h.
    let here = rw c.in-Astray.is at h in
    let at = get_among entries entry v.0.member in
    here_ahead g.K.KeyOrder.cmp g.met.K.KeyOrder.total g.met.K.KeyOrder.exact g.C.Cursor.lists g.C.Cursor.stands g.met.C.Cursor.rises g.met.C.Cursor.placed c.find_again.new.cursor c.find_again.new.cursor c.find_again.new.source c.find_again.new.source entries c.args.sequence entry c.args.user.now same _
    (c.in_ok-find_again-in-Astray.ensures.finds t entries entry at.0 here.0 v same at.1 here.1) at.1

pub returns-in_err-step_off-in-Here-clause-refused : goal.returns-in_err-step_off-in-Here-clause-refused
returns-in_err-step_off-in-Here-clause-refused g c =
    let p = err_from_is_err_and c.from_residual.result c.from_residual.ensures.1 in
    rw (p.1, p.2)
    (refused_at g.C.Cursor.lists g.C.Cursor.torn next_cut _ (g.C.Cursor.facts c.args.source.now) (g.C.Cursor.facts c.step_off.new.source) c.args.cursor.now c.args.source.now (g.C.Cursor.limited c.args.cursor.now c.args.source.now)
    c.in_err-step_off-in-Here.ensures.refused)

pub returns-in_err-step_ahead-in-Behind-clause-refused : goal.returns-in_err-step_ahead-in-Behind-clause-refused
returns-in_err-step_ahead-in-Behind-clause-refused g c =
    let p = err_from_is_err_and c.from_residual-in_err-step_ahead-in-Behind.result c.from_residual-in_err-step_ahead-in-Behind.ensures.1 in
    rw (p.1, p.2)
    (refused_at g.C.Cursor.lists g.C.Cursor.torn next_cut _ (g.C.Cursor.facts c.args.source.now) (g.C.Cursor.facts c.step_ahead.new.source) c.args.cursor.now c.args.source.now (g.C.Cursor.limited c.args.cursor.now c.args.source.now)
    c.in_err-step_ahead-in-Behind.ensures.refused)
