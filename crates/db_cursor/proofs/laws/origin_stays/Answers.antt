use Rattle.db_cursor.proofs.Origins.{origin_stays}
use Rattle.db_cursor.proofs.laws.origin_stays.Goals as goal

pub returns : goal.returns
returns c = origin_stays
