use Rattle.std.proofs.Common.{rules}
use Rattle.c_calls.proofs.handle.Handle.compact_all.Goals as goal

pub returns : goal.returns
returns g c = (
  c.compact_all-answer.result,
  search rules,
  record {
    step = c.compact_all-answer.ensures.step;
    outcome = c.compact_all-answer.ensures.outcome;
    caused = c.compact_all-answer.ensures.caused;
    stops = c.compact_all-answer.ensures.stops;
    loses = c.compact_all-answer.ensures.loses;
  },
)
