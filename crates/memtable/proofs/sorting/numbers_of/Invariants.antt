use Rattle.std.proofs.Common.{◌≡◌, map, take}
use Rattle.memtable.specs.internal.Ranks.{number_of}
use Rattle.memtable.proofs.sorting.numbers_of.Given as goal

abbrev pub invariant-loop-one : goal.invariant-loop-one
invariant-loop-one l = l.numbers.items ≡ map number_of (take l.one-index l.ranked)
