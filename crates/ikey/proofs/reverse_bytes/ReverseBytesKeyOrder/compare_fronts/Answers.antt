use Rattle.std.specs.Ordering.{nat_cmp}
use Rattle.std.specs.Cmp.Lexicographic.{slice_cmp}
use Rattle.ikey.proofs.FrontNumbers.{turned-decides}
use Rattle.ikey.proofs.reverse_bytes.ReverseBytesKeyOrder.compare_fronts.Goals as goal

pub returns : goal.returns
returns c = turned-decides (slice_cmp nat_cmp) c.args.a c.args.b c.compare_bytes.result c.compare_bytes.ensures
