use Rattle.std.proofs.Common.{◌≡◌, map}
use Rattle.std.specs.List.{AllByRecursion}
use Rattle.memtable.specs.Levels.{count_to}
use Rattle.memtable.specs.internal.Ranks.{HasRank, number_of}
use Rattle.memtable.proofs.sorting.ranked_of.Given as goal

abbrev pub invariant-loop-index : goal.invariant-loop-index
invariant-loop-index l = (map number_of l.ranked.items ≡ count_to l.index) × AllByRecursion (HasRank l.entries) l.ranked.items
