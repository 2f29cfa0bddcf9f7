use Rattle.std.proofs.Common.{sym, subst, ◌∙◌}
use Rattle.std.proofs.lemmas.Result.{err_from_is_err_and}
use Rattle.block.specs.Places.{Placed}
use Rattle.table_access.specs.TablePlaces.{IsInBlock}
use Rattle.table_access.proofs.Stepping.{stepped_to_front, stands_first}
use Rattle.table_access.proofs.table_cursor.step_back.Goals as goal

pub returns-in_err-prev-clause-err : goal.returns-in_err-prev-clause-err
returns-in_err-prev-clause-err g c =
    let p = err_from_is_err_and c.from_residual.result c.from_residual.ensures.1 in
    rw p.1 (λ groups place h. subst (λ (cursor : Placed). IsInBlock groups c.in-Some.here.index cursor place) (sym c.in_err-prev.ensures.err) (rw c.in-Some.is at h))

pub returns-then-has_prev-clause-ok : goal.returns-then-has_prev-clause-ok
returns-then-has_prev-clause-ok g c = λ groups place h.
    stepped_to_front groups c.in-Some.here.index c.in-Some.here.cursor c.prev.new.self place (rw c.in-Some.is at h) (sym c.has_prev.ensures ∙ c.if-has_prev.true) c.in_ok-prev.ensures.ok

pub returns-clause-ok : goal.returns-clause-ok
returns-clause-ok g c = λ groups place h.
    let here = rw c.in-Some.is at h in
    let last = stands_first groups c.in-Some.here.index c.in-Some.here.cursor c.in-Some.here.cursor place here (sym c.has_prev.ensures ∙ c.if-has_prev.false) in
    (here, last.0, last.1)
