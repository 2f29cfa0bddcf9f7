use Rattle.std.proofs.Common.{subst, sym}
use Rattle.c_calls.specs.Calls.{bytewise}
use Rattle.c_calls.specs.Folders.{Begins}
use Rattle.c_calls.proofs.opens.open.Goals as goal

pub returns-in-Ok-clause-opened : goal.returns-in-Ok-clause-opened
returns-in-Ok-clause-opened g c =
    let done : Begins bytewise g.S.Store.facts c.args.mode c.args.options c.args.store c.in-Ok.db = record {
      ids = c.first.result;
      begun = c.first.ensures;
      step = c.in-Ok.ensures.ok;
      sizes = c.in-Ok.ensures.options;
      found = c.in-Ok.ensures.found;
      stops = c.in-Ok.ensures.stops_ok;
      loses = c.in-Ok.ensures.loses_on_ok;
    } in
    subst (λ db. Begins bytewise g.S.Store.facts c.args.mode c.args.options c.args.store db) (sym c.of.ensures.db) done
