use Rattle.std.proofs.Common.{rules, ℕ, Option, subst}
use Rattle.c_calls.specs.Calls.{GetDone, bytewise}
use Rattle.c_calls.proofs.handle.Handle.get.Goals as goal

pub returns : goal.returns
returns g c =
    let at : Option ℕ → Type 0 =
    λ o. GetDone bytewise g.S.Store.facts c.args.key.now o c.args.self.now.db c.get-answer.new.self c.get-answer.result in
    let done : at c.snapshot_of.result = record {
      step = c.get-answer.ensures.step;
      outcome = c.get-answer.ensures.outcome;
      caused = c.get-answer.ensures.caused;
    } in
    (c.get-answer.result, search rules, subst at c.snapshot_of.ensures done)
