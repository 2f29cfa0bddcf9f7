use Rattle.std.proofs.Common.{refl}
use Rattle.cursor.specs.Views.{walk_to}
use Rattle.db_cursor.specs.Whole.{whole}
use Rattle.db_cursor.proofs.ScanSteps.{scanned}
use Rattle.db_cursor.proofs.scan.Scan.seek.Goals as goal

pub returns : goal.returns
returns g c =
    scanned g.K.KeyOrder.cmp (λ s. whole (g.S.Store.facts s.tables.store) s.tables.tables s.tables.blocks s.memory) (λ s w. record s { memory = w }) (λ s w. refl) (walk_to g.K.KeyOrder.cmp c.args.target.now) c.args.source.now c.seek.new.source c.args.self.now (record c.args.self.now { walk = c.seek.new.self }) c.seek.result
    c.seek.ensures.moves c.seek.ensures.sequence (record { generation = refl; sealed = refl; version = refl }) c.seek.ensures.stays c.seek.ensures.still c.seek.ensures.at_hand c.seek.ensures.stayed c.seek.ensures.left c.seek.ensures.refused
