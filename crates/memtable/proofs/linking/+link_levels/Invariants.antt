use Rattle.std.proofs.Common.{length}
use Rattle.memtable.proofs.linking.+link_levels.Given as goal

abbrev pub decreases-link_levels : goal.decreases-link_levels
decreases-link_levels l = length l.levels.now
