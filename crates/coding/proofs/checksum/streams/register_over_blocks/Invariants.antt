use Rattle.std.proofs.Common.{◌≡◌, drop, flat_map}
use Rattle.coding.specs.Checksum.{register_after}
use Rattle.coding.specs.Streams.{register_of}
use Rattle.coding.proofs.checksum.streams.register_over_blocks.Given as goal

-- the blocks that are left lead from the streams to where all blocks lead
abbrev pub invariant-loop-block : goal.invariant-loop-block
invariant-loop-block l =
    register_after (register_of l.streams) (flat_map (λ block. block) (drop l.block-index l.more)) ≡ register_after l.start (flat_map (λ block. block) l.blocks)
