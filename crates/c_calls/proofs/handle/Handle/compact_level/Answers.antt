use Rattle.std.proofs.Common.{rules}
use Rattle.c_calls.proofs.handle.Handle.compact_level.Goals as goal

pub returns : goal.returns
returns g c = (
  c.compact_level-answer.result,
  search rules,
  record {
    step = c.compact_level-answer.ensures.step;
    outcome = c.compact_level-answer.ensures.outcome;
    caused = c.compact_level-answer.ensures.caused;
    stops = c.compact_level-answer.ensures.stops;
    loses = c.compact_level-answer.ensures.loses;
  },
)
