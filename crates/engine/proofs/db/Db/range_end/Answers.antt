use Rattle.engine.specs.Follows.{unit_answer}
use Rattle.engine.proofs.RangeLeads.{leads_as}
use Rattle.engine.proofs.db.Db.range_end.Goals as goal

pub returns-clause-step : goal.returns-clause-step
returns-clause-step g c = leads_as (λ m n h. (unit_answer c.iter_release.result, h)) c.iter_release.ensures.step
