use Rattle.std.proofs.Common.{refl}
use Rattle.cursor.specs.Views.{walk_last}
use Rattle.db_cursor.specs.Whole.{whole}
use Rattle.db_cursor.proofs.ScanSteps.{scanned}
use Rattle.db_cursor.proofs.scan.Scan.last.Goals as goal

pub returns : goal.returns
returns g c =
    scanned g.K.KeyOrder.cmp (λ s. whole (g.S.Store.facts s.tables.store) s.tables.tables s.tables.blocks s.memory) (λ s w. record s { memory = w }) (λ s w. refl) walk_last c.args.source.now c.last.new.source c.args.self.now (record c.args.self.now { walk = c.last.new.self }) c.last.result
    c.last.ensures.moves c.last.ensures.sequence (record { generation = refl; sealed = refl; version = refl }) c.last.ensures.stays c.last.ensures.still c.last.ensures.at_hand c.last.ensures.stayed c.last.ensures.left c.last.ensures.refused
