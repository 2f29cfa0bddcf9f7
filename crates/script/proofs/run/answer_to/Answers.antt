use Rattle.std.proofs.Common.{[], ◌∷◌, inl, inr, refl}
use Rattle.std.specs.Prelude.{Some, None}
use Rattle.ikey.specs.Orders.{order_of}
use Rattle.script.proofs.Written.{on_err}
use Rattle.script.proofs.Brought.{answered_none, answered_bad, answered_one}
use Rattle.script.proofs.Ways.{bad_goes, one_goes}
use Rattle.script.proofs.run.answer_to.Goals as goal

pub returns-in_err-read_line-clause-stopped : goal.returns-in_err-read_line-clause-stopped
returns-in_err-read_line-clause-stopped g c =
    on_err c.from_residual.result _ ([], [], [], inl refl, answered_none c.args.way (order_of g.K.KeyOrder.name g.K.KeyOrder.cmp) g.S.Store.facts c.args.session.now, refl)

pub returns-in_ok-push_answer-in-None-clause-done : goal.returns-in_ok-push_answer-in-None-clause-done
returns-in_ok-push_answer-in-None-clause-done g c =
    let says = rw c.in-None.is at c.in_ok-read_line.ensures in (
      None ∷ [],
      [],
      answered_bad c.args.way (order_of g.K.KeyOrder.name g.K.KeyOrder.cmp) g.S.Store.facts c.args.session.now c.args.line.now says,
      c.in_ok-push_answer-in-None.ensures.ok,
      bad_goes c.args.way.strict,
    )

pub returns-in_err-push_answer-in-None-clause-stopped : goal.returns-in_err-push_answer-in-None-clause-stopped
returns-in_err-push_answer-in-None-clause-stopped g c =
    on_err c.from_residual-in_err-push_answer-in-None.result _ (
      [],
      [],
      [],
      inl refl,
      answered_none c.args.way (order_of g.K.KeyOrder.name g.K.KeyOrder.cmp) g.S.Store.facts c.args.session.now,
      c.in_err-push_answer-in-None.ensures.err,
    )

pub returns-in_ok-push_answer-in-Some-clause-done : goal.returns-in_ok-push_answer-in-Some-clause-done
returns-in_ok-push_answer-in-Some-clause-done g c =
    let says = rw c.in-Some.is at c.in_ok-read_line.ensures in
    let brought = c.work_behind-worked.ensures c.give-answer.ensures.outcome.allowed in (
      Some c.in-Some.command ∷ [],
      c.give-answer.result ∷ [],
      answered_one c.args.way (order_of g.K.KeyOrder.name g.K.KeyOrder.cmp) g.S.Store.facts c.args.session.now c.give-answer.new.session c.work_behind-worked.new.session c.args.line.now c.in-Some.command c.give-answer.result
          says c.give-answer.ensures brought,
      c.in_ok-push_answer-in-Some.ensures.ok,
      one_goes c.args.way.strict c.goes_on.result c.give-answer.result c.goes_on.ensures.exact,
    )

pub returns-in_err-push_answer-in-Some-clause-stopped : goal.returns-in_err-push_answer-in-Some-clause-stopped
returns-in_err-push_answer-in-Some-clause-stopped g c =
    let says = rw c.in-Some.is at c.in_ok-read_line.ensures in
    let brought = c.work_behind-worked.ensures c.give-answer.ensures.outcome.allowed in
    on_err c.from_residual-in_err-push_answer-in-Some.result _ (
      c.args.line.now ∷ [],
      Some c.in-Some.command ∷ [],
      c.give-answer.result ∷ [],
      inr refl,
      answered_one c.args.way (order_of g.K.KeyOrder.name g.K.KeyOrder.cmp) g.S.Store.facts c.args.session.now c.give-answer.new.session c.work_behind-worked.new.session c.args.line.now c.in-Some.command c.give-answer.result
          says c.give-answer.ensures brought,
      c.in_err-push_answer-in-Some.ensures.err,
    )
