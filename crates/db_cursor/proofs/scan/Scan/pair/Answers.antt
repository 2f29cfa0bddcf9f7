use Rattle.std.proofs.Common.{◌∙◌, sym}
use Rattle.db_cursor.specs.Scans.{ListsMerged}
use Rattle.db_cursor.specs.Whole.{whole}
use Rattle.db_cursor.proofs.AtHand.{same_pair, pair_placed, pair_there}
use Rattle.db_cursor.proofs.ScanSteps.{read_whole}
use Rattle.db_cursor.proofs.scan.Scan.pair.Goals as goal

pub returns : goal.returns
returns g c = λ at h.
    let walk = c.args.self.now.walk in
    let s = c.args.source.now in
    let stands = sym c.stands.ensures ∙ c.if-not-stands.false in
    let there = pair_there g.K.KeyOrder.cmp (ListsMerged g.K.KeyOrder.cmp) walk.cursor walk.sequence walk.stands walk.position walk.here.key.items walk.here.value.items (whole (g.S.Store.facts s.tables.store) s.tables.tables s.tables.blocks s.memory) h.walk.0 at stands h.walk.2 in
    let over = read_whole g.K.KeyOrder.cmp (λ s. whole (g.S.Store.facts s.tables.store) s.tables.tables s.tables.blocks s.memory) c.args.self.now s at h.walk in
    let both = c.value.ensures at there.0 there.1 over there.2 there.3 in
    same_pair c.in_ok-key.key c.in_ok-value.value there.1 (c.in_ok-key.ensures ∙ c.key.ensures ∙ both.0) (c.in_ok-value.ensures ∙ both.1) ∙ sym (pair_placed at there.0 there.1 there.2 there.3)
