use Rattle.std.proofs.Common.{refl}
use Rattle.cursor.specs.Views.{walk_first}
use Rattle.db_cursor.specs.Whole.{whole}
use Rattle.db_cursor.proofs.ScanSteps.{scanned}
use Rattle.db_cursor.proofs.scan.Scan.first.Goals as goal

pub returns : goal.returns
returns g c =
    scanned g.K.KeyOrder.cmp (λ s. whole (g.S.Store.facts s.tables.store) s.tables.tables s.tables.blocks s.memory) (λ s w. record s { memory = w }) (λ s w. refl) walk_first c.args.source.now c.first.new.source c.args.self.now (record c.args.self.now { walk = c.first.new.self }) c.first.result
    c.first.ensures.moves c.first.ensures.sequence (record { generation = refl; sealed = refl; version = refl }) c.first.ensures.stays c.first.ensures.still c.first.ensures.at_hand c.first.ensures.stayed c.first.ensures.left c.first.ensures.refused
