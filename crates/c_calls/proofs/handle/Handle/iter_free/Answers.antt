use Rattle.std.proofs.Common.{rules, subst}
use Rattle.c_calls.specs.Calls.{DropDone, bytewise}
use Rattle.c_calls.proofs.handle.Handle.iter_free.Goals as goal

pub returns : goal.returns
returns g c =
    let answer = c.iter_release-answer.result in
    let done : DropDone bytewise g.S.Store.facts c.args.id c.forget.new.self.db c.iter_release-answer.new.self answer = record {
      step = c.iter_release-answer.ensures.step;
      outcome = c.iter_release-answer.ensures.outcome;
      caused = c.iter_release-answer.ensures.caused;
    } in
    (answer, search rules, subst (λ old. DropDone bytewise g.S.Store.facts c.args.id old c.iter_release-answer.new.self answer) c.forget.ensures.db done)
