use Rattle.std.proofs.Common.{refl}
use Rattle.cursor.specs.Views.{walk_prev}
use Rattle.db_cursor.specs.Whole.{whole}
use Rattle.db_cursor.proofs.ScanSteps.{scanned}
use Rattle.db_cursor.proofs.scan.Scan.prev.Goals as goal

pub returns : goal.returns
returns g c =
    scanned g.K.KeyOrder.cmp (λ s. whole (g.S.Store.facts s.tables.store) s.tables.tables s.tables.blocks s.memory) (λ s w. record s { memory = w }) (λ s w. refl) walk_prev c.args.source.now c.prev.new.source c.args.self.now (record c.args.self.now { walk = c.prev.new.self }) c.prev.result
    c.prev.ensures.moves c.prev.ensures.sequence (record { generation = refl; sealed = refl; version = refl }) c.prev.ensures.stays c.prev.ensures.still c.prev.ensures.at_hand c.prev.ensures.stayed c.prev.ensures.left c.prev.ensures.refused
