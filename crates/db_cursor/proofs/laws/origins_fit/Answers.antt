use Rattle.db_cursor.proofs.Origins.{origins_held}
use Rattle.db_cursor.proofs.laws.origins_fit.Goals as goal

pub returns : goal.returns
returns c = origins_held
