use Rattle.std.proofs.Common.{rules, ℕ, Option, subst, inl}
use Rattle.c_calls.specs.Calls.{IterDone, bytewise}
use Rattle.c_calls.proofs.handle.Handle.iter_new.Goals as goal

pub returns-in_default : goal.returns-in_default
returns-in_default g c =
    let at : Option ℕ → Type 0 =
    λ o. IterDone bytewise g.S.Store.facts o c.args.self.now.db c.iter-answer.new.self c.iter-answer.result in
    let done : at c.snapshot_of.result = record {
      step = c.iter-answer.ensures.step;
      outcome = c.iter-answer.ensures.outcome;
      caused = c.iter-answer.ensures.caused;
    } in
    inl (c.iter-answer.result, search rules, subst at c.snapshot_of.ensures done)

pub returns : goal.returns
returns g c =
    let at : Option ℕ → Type 0 =
    λ o. IterDone bytewise g.S.Store.facts o c.args.self.now.db c.iter-answer.new.self c.iter-answer.result in
    let done : at c.snapshot_of.result = record {
      step = c.iter-answer.ensures.step;
      outcome = c.iter-answer.ensures.outcome;
      caused = c.iter-answer.ensures.caused;
    } in
    inl (c.iter-answer.result, search rules, subst at c.snapshot_of.ensures done)
