use Rattle.std.proofs.Common.{◌≡◌, ◌+◌, take, drop}
use Rattle.filter.specs.Cuts.{total}
use Rattle.filter.proofs.builder.place_of.Given as goal

-- the hashes up to those of the filter, and of the later filters that are left
abbrev pub invariant-loop-later : goal.invariant-loop-later
invariant-loop-later l = l.place ≡ total (take (l.index + 1) l.counts) + total (drop l.later-index l.later-items)
