use Rattle.std.proofs.Common.{arith}
use Rattle.coding.proofs.Words.{by_table_8}
use Rattle.coding.proofs.checksum.register_over_byte.Goals as goal

pub returns : goal.returns
returns c = by_table_8 c.args.register c.from.result c.args.byte c.from.ensures (omega arith)
