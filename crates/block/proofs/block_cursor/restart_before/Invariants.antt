use Rattle.std.proofs.Common.{◌≡◌, ◌-◌, ◌*◌, ◌<◌, ◌≤◌, ℕ, List, Some, length}
use Rattle.std.specs.List.{slice_get}
use Rattle.block.specs.Spots.{HasRestarts}
use Rattle.block.proofs.block_cursor.restart_before.Given as goal

abbrev pub invariant-loop-low : goal.invariant-loop-low
invariant-loop-low l = record {
  ordered : l.low < l.high;
  inside : 4 * l.high ≤ length l.restarts;
  below : (body : List ℕ) (h : HasRestarts body l.restarts) (restart : ℕ) → slice_get h.list l.low ≡ Some restart → restart < l.offset;
  above : (body : List ℕ) (h : HasRestarts body l.restarts) (restart : ℕ) → slice_get h.list l.high ≡ Some restart → l.offset ≤ restart;
}

abbrev pub decreases-loop-low : goal.decreases-loop-low
decreases-loop-low l = l.high - l.low
