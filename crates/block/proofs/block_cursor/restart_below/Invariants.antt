use Rattle.std.proofs.Common.{◌≡◌, ◌-◌, ◌*◌, ◌<◌, ◌≤◌, ℕ, Some, length}
use Rattle.std.specs.List.{slice_get}
use Rattle.block.specs.Spots.{HasRestarts, StartsBelow, StartsNotBelow}
use Rattle.block.proofs.block_cursor.restart_below.Given as goal

-- the keys before the restart `low` are below the target, and the key at `high` isn't
abbrev pub invariant-loop-low : goal.invariant-loop-low
invariant-loop-low g l = record {
  ordered : l.low < l.high;
  inside : 4 * l.high ≤ length l.restarts;
  below : (h : HasRestarts l.body l.restarts) (restart : ℕ) → slice_get h.list l.low ≡ Some restart → StartsBelow g.O.EntryOrder.below l.target l.body restart;
  above : (h : HasRestarts l.body l.restarts) (restart : ℕ) → slice_get h.list l.high ≡ Some restart → StartsNotBelow g.O.EntryOrder.below l.target l.body restart;
}

abbrev pub decreases-loop-low : goal.decreases-loop-low
decreases-loop-low g l = l.high - l.low
