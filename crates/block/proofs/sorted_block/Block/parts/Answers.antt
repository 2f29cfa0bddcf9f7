use Rattle.std.proofs.Common.{subst}
use Rattle.block.specs.Reading.{Contents}
use Rattle.block.specs.Spots.{HasRestarts}
use Rattle.block.proofs.Restarts.{opened_restarts}
use Rattle.block.proofs.sorted_block.Block.parts.Goals as goal

pub returns-clause-restarts : goal.returns-clause-restarts
returns-clause-restarts g c =
    let b = c.self.inside in
    subst (λ (v : Contents). HasRestarts v.body c.split_at-2.result.1.now) c.self.view_is
    (rw (c.split_at-2.ensures.back, c.split_at.ensures.front, c.deref.ensures.value, c.len.ensures, ← c.deref.ensures.len, c.deref.ensures.value) (opened_restarts g.O.EntryOrder.below b.bytes.items b.body_length c.self.invariant))
