use Rattle.std.proofs.Common.{sym, arith}
use Rattle.block.proofs.Words.{shared_below}
use Rattle.block.proofs.entry.shared_in_words.Goals as goal

pub returns-clause-small : goal.returns-clause-small
returns-clause-small c = (shared_below c.args.x c.args.y (omega (arith, c.ranges.x)) (omega (arith, c.ranges.y)) c.requires.differ).0

pub returns-clause-value : goal.returns-clause-value
returns-clause-value c = sym (shared_below c.args.x c.args.y (omega (arith, c.ranges.x)) (omega (arith, c.ranges.y)) c.requires.differ).1
