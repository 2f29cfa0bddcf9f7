use Rattle.db_cursor.proofs.ScanSteps.{scan_kept}
use Rattle.db_cursor.proofs.scan.Scan.stays.Goals as goal

pub returns : goal.returns
returns g c = scan_kept g.K.KeyOrder.cmp c.args.self.now
