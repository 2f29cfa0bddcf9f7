use Rattle.std.proofs.Common.{refl}
use Rattle.cursor.specs.Views.{walk_next}
use Rattle.db_cursor.specs.Whole.{whole}
use Rattle.db_cursor.proofs.ScanSteps.{scanned}
use Rattle.db_cursor.proofs.scan.Scan.next.Goals as goal

pub returns : goal.returns
returns g c =
    scanned g.K.KeyOrder.cmp (λ s. whole (g.S.Store.facts s.tables.store) s.tables.tables s.tables.blocks s.memory) (λ s w. record s { memory = w }) (λ s w. refl) walk_next c.args.source.now c.next.new.source c.args.self.now (record c.args.self.now { walk = c.next.new.self }) c.next.result
    c.next.ensures.moves c.next.ensures.sequence (record { generation = refl; sealed = refl; version = refl }) c.next.ensures.stays c.next.ensures.still c.next.ensures.at_hand c.next.ensures.stayed c.next.ensures.left c.next.ensures.refused
