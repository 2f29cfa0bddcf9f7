use Rattle.std.proofs.Common.{◌≡◌, ◌+◌, ◌*◌, length, ap, sym, ◌∙◌, arith}
use Rattle.block.specs.Built.{written_length}
use Rattle.block.proofs.BuilderLaws.{built_size, length-block}
use Rattle.block.proofs.block_builder.BlockBuilder.size.Goals as goal

pub returns-clause-size : goal.returns-clause-size
returns-clause-size g c =
    let b = c.self.inside in
    let counted : c.len.result + 4 * c.len-2.result + 8 ≡ length b.out.items + 4 * length b.restarts.items + 8 = omega (arith, c.len.ensures, c.len-2.ensures) in
    counted ∙ built_size g.O.EntryOrder.below b.out.items b.restarts.items b.last_key.items b.count b.interval c.self.invariant ∙ ap written_length c.self.view_is

pub returns-clause-written : goal.returns-clause-written
returns-clause-written g c bytes h =
    let b = c.self.inside in
    let counted : c.len.result + 4 * c.len-2.result + 8 ≡ length b.out.items + 4 * length b.restarts.items + 8 = omega (arith, c.len.ensures, c.len-2.ensures) in
    counted ∙ built_size g.O.EntryOrder.below b.out.items b.restarts.items b.last_key.items b.count b.interval c.self.invariant ∙ ap written_length c.self.view_is
    ∙ sym (length-block c.args.self.now.interval c.args.self.now.pairs bytes h)
