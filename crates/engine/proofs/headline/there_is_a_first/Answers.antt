use Rattle.engine.proofs.Beginnings.{there_is_one, there_is_one_of_map}
use Rattle.engine.proofs.headline.there_is_a_first.Goals as goal

pub returns-clause-directory : goal.returns-clause-directory
returns-clause-directory c = there_is_one c.distinct_law.ensures c.one_manifest.ensures

pub returns-clause-map : goal.returns-clause-map
returns-clause-map c = there_is_one_of_map c.one_manifest.ensures
