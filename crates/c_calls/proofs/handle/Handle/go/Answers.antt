use Rattle.std.proofs.Common.{rules, subst, sym}
use Rattle.c_calls.specs.Calls.{KeepsPair, MoveDone, bytewise}
use Rattle.c_calls.specs.Motions.{going}
use Rattle.c_calls.proofs.handle.Handle.go.Goals as goal

pub returns : goal.returns
returns g c =
    let answer = c.moved-answer.result in (
      answer,
      search rules,
      subst (λ new. MoveDone bytewise g.S.Store.facts c.args.id (going c.args.motion) c.args.self.now.db new answer)
          (sym c.keep_found.ensures.db) c.moved-answer.ensures.done,
      subst (λ its. KeepsPair c.args.id answer its.items c.keep_found.new.self.iterators.items) c.moved-answer.ensures.still
          c.keep_found.ensures.kept,
    )
