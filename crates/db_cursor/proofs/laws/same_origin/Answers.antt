use Rattle.db_cursor.proofs.Origins.{same_origin}
use Rattle.db_cursor.proofs.laws.same_origin.Goals as goal

pub returns : goal.returns
returns c = same_origin
