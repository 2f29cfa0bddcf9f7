use Rattle.db_cursor.proofs.ScanSteps.{may_kept}
use Rattle.db_cursor.proofs.scan.Scan.may_stay.Goals as goal

pub returns : goal.returns
returns g c = may_kept g.K.KeyOrder.cmp c.args.self.now
