use Rattle.std.proofs.Common.{length}
use Rattle.memtable.proofs.levels.+append.Given as goal

abbrev pub decreases-append : goal.decreases-append
decreases-append l = length l.levels.now
