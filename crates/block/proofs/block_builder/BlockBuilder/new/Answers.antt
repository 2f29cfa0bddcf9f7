use Rattle.std.proofs.Common.{ap, ◌∙◌}
use Rattle.block.specs.Reading.{pairs_of}
use Rattle.block.proofs.BuilderLaws.{built_new, no_pairs_yet}
use Rattle.block.proofs.block_builder.BlockBuilder.new.Goals as goal

pub invariant_of-result : goal.invariant_of-result
invariant_of-result g c = rw (c.new.ensures.items, c.new-2.ensures.items, c.new-3.ensures.items) (built_new g.O.EntryOrder.below c.args.interval c.requires)

pub returns : goal.returns
returns g c = let none = ap pairs_of c.new.ensures.items ∙ no_pairs_yet in λ i. record { interval = c.args.interval; pairs = none i }
