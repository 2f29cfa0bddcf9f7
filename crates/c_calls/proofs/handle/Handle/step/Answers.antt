use Rattle.std.proofs.Common.{rules, Ok, ap, subst, sym, ◌∙◌}
use Rattle.c_calls.specs.Calls.{MoveDone, bytewise}
use Rattle.c_calls.specs.Motions.{way_of}
use Rattle.c_calls.specs.Standings.{moved_to}
use Rattle.c_calls.proofs.handle.Handle.step.Goals as goal

pub returns-in-Err : goal.returns-in-Err
returns-in-Err g c = (c.in-Err.error, search rules, c.in-Err.ensures.done, ap (λ its. its.items) c.in-Err.ensures.still)

pub returns-in-Ok : goal.returns-in-Ok
returns-in-Ok g c = (
  c.in-Ok.found,
  subst (λ db. MoveDone bytewise g.S.Store.facts c.args.id (way_of c.args.backwards) c.args.self.now.db db (Ok c.in-Ok.found))
      (sym c.keep.ensures.db) c.in-Ok.ensures.done,
  c.keep.ensures.kept ∙ ap (λ its. moved_to c.args.id c.in-Ok.found its.items) c.in-Ok.ensures.still,
)
