use Rattle.std.proofs.Common.{sym, ap, subst}
use Rattle.machine.specs.Causes.{Motion}
use Rattle.c_calls.specs.Calls.{MoveDone, bytewise}
use Rattle.c_calls.specs.Motions.{going}
use Rattle.c_calls.proofs.handle.Handle.moved.Goals as goal

pub returns-in-First-clause-done : goal.returns-in-First-clause-done
returns-in-First-clause-done g c =
    let at : Motion → Type 0 =
    λ to. MoveDone bytewise g.S.Store.facts c.args.id to c.args.self.now.db c.iter_first.new.self c.iter_first.result in
    subst at (sym (ap going c.in-First.is))
    (record { step = c.iter_first.ensures.step; outcome = c.iter_first.ensures.outcome; caused = c.iter_first.ensures.caused })

pub returns-in-Last-clause-done : goal.returns-in-Last-clause-done
returns-in-Last-clause-done g c =
    let at : Motion → Type 0 =
    λ to. MoveDone bytewise g.S.Store.facts c.args.id to c.args.self.now.db c.iter_last.new.self c.iter_last.result in
    subst at (sym (ap going c.in-Last.is))
    (record { step = c.iter_last.ensures.step; outcome = c.iter_last.ensures.outcome; caused = c.iter_last.ensures.caused })

pub returns-in-Seek-clause-done : goal.returns-in-Seek-clause-done
returns-in-Seek-clause-done g c =
    let at : Motion → Type 0 =
    λ to. MoveDone bytewise g.S.Store.facts c.args.id to c.args.self.now.db c.iter_seek.new.self c.iter_seek.result in
    subst at (sym (ap going c.in-Seek.is))
    (record { step = c.iter_seek.ensures.step; outcome = c.iter_seek.ensures.outcome; caused = c.iter_seek.ensures.caused })

pub returns-in-Next-clause-done : goal.returns-in-Next-clause-done
returns-in-Next-clause-done g c =
    let at : Motion → Type 0 =
    λ to. MoveDone bytewise g.S.Store.facts c.args.id to c.args.self.now.db c.iter_next.new.self c.iter_next.result in
    subst at (sym (ap going c.in-Next.is))
    (record { step = c.iter_next.ensures.step; outcome = c.iter_next.ensures.outcome; caused = c.iter_next.ensures.caused })

pub returns-in-Prev-clause-done : goal.returns-in-Prev-clause-done
returns-in-Prev-clause-done g c =
    let at : Motion → Type 0 =
    λ to. MoveDone bytewise g.S.Store.facts c.args.id to c.args.self.now.db c.iter_prev.new.self c.iter_prev.result in
    subst at (sym (ap going c.in-Prev.is))
    (record { step = c.iter_prev.ensures.step; outcome = c.iter_prev.ensures.outcome; caused = c.iter_prev.ensures.caused })
