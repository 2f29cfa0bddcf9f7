use Rattle.db_cursor.proofs.Untorn.{intact_scan}
use Rattle.db_cursor.proofs.scan.Scan.is_intact.Goals as goal

pub returns : goal.returns
returns g c = intact_scan g.K.KeyOrder.cmp c.args.self.now
