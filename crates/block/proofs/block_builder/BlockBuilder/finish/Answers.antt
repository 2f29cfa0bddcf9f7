use Rattle.std.proofs.Common.{subst}
use Rattle.block.specs.Block.{IsBlock}
use Rattle.block.specs.Written.{Added}
use Rattle.block.proofs.BuilderLaws.{built_block}
use Rattle.block.proofs.block_builder.BlockBuilder.finish.Goals as goal

pub returns-clause-block : goal.returns-clause-block
returns-clause-block g c =
    let b = c.self.inside in
    subst (λ (v : Added). IsBlock g.O.EntryOrder.below c.put_trailer.new.out.items v.pairs) c.self.view_is
    (built_block g.O.EntryOrder.below b.out.items b.restarts.items b.last_key.items b.count b.interval c.put_trailer.new.out.items c.self.invariant (rw c.deref.ensures.value at c.in_ok-put_trailer.ensures))
