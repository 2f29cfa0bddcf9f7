use Rattle.coding.proofs.Blocks.{over_block}
use Rattle.coding.proofs.checksum.streams.Streams.words_of.Goals as goal

pub returns : goal.returns
returns c =
    over_block c.args.block.now c.from_le_bytes.result c.from_le_bytes-2.result c.from_le_bytes-3.result c.from_le_bytes-4.result
    c.told-block c.fits-block c.from_le_bytes.ensures c.from_le_bytes-2.ensures c.from_le_bytes-3.ensures c.from_le_bytes-4.ensures
