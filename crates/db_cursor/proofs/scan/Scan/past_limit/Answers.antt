use Rattle.db_cursor.proofs.ScanSteps.{past_limit}
use Rattle.db_cursor.proofs.scan.Scan.past_limit.Goals as goal

pub returns : goal.returns
returns g c = past_limit g.K.KeyOrder.cmp c.args.self.now
