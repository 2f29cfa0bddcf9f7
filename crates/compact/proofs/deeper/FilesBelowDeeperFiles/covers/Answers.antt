use Rattle.compact.proofs.Covering.{covered}
use Rattle.compact.proofs.deeper.FilesBelowDeeperFiles.covers.Goals as goal

pub returns : goal.returns
returns g c = covered g.K.KeyOrder.cmp c.args.self.now.level c.args.self.now.version.now.tables c.args.user.now c.is_free_below.result c.is_free_below.ensures
