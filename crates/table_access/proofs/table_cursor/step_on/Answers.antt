use Rattle.std.proofs.Common.{sym, subst, ◌∙◌}
use Rattle.std.proofs.lemmas.Result.{err_from_is_err_and}
use Rattle.block.specs.Places.{Placed}
use Rattle.table_access.specs.TablePlaces.{IsInBlock}
use Rattle.table_access.proofs.Stepping.{stepped, stands_last}
use Rattle.table_access.proofs.table_cursor.step_on.Goals as goal

pub returns-in_err-next-clause-err : goal.returns-in_err-next-clause-err
returns-in_err-next-clause-err g c =
    let p = err_from_is_err_and c.from_residual.result c.from_residual.ensures.1 in
    rw p.1 (λ groups place h. subst (λ (cursor : Placed). IsInBlock groups c.in-Some.here.index cursor place) (sym c.in_err-next.ensures.err) (rw c.in-Some.is at h))

pub returns-then-has_next-clause-ok : goal.returns-then-has_next-clause-ok
returns-then-has_next-clause-ok g c = λ groups place h.
    stepped groups c.in-Some.here.index c.in-Some.here.cursor c.next.new.self place (rw c.in-Some.is at h) (sym c.has_next.ensures ∙ c.if-has_next.true) c.in_ok-next.ensures.ok

pub returns-clause-ok : goal.returns-clause-ok
returns-clause-ok g c = λ groups place h.
    let here = rw c.in-Some.is at h in
    let last = stands_last groups c.in-Some.here.index c.in-Some.here.cursor c.in-Some.here.cursor place here (sym c.has_next.ensures ∙ c.if-has_next.false) in
    (here, last.0, last.1)
