use Rattle.std.proofs.Common.{◌≡◌, ◌<◌, ◌≤◌, ◌+◌, ◌-◌, ℕ, length, get_or}
use Rattle.ikey.specs.Below.{IsBelowInternal}
use Rattle.table.specs.declared.handle.Place.{Place}
use Rattle.table.proofs.bounds.first_place.Given as goal

abbrev pub decreases-loop-low : goal.decreases-loop-low
decreases-loop-low g l = l.high - l.low

abbrev pub invariant-loop-low : goal.invariant-loop-low
invariant-loop-low g l = (l.low ≤ l.high) × (l.high ≤ length l.places) × ((i : ℕ) (d : Place) → l.low ≡ i + 1 → IsBelowInternal g.K.KeyOrder.cmp (get_or l.places i d).key l.target)
    × ((d : Place) → l.high < length l.places → IsBelowInternal g.K.KeyOrder.cmp (get_or l.places l.high d).key l.target → ⊥)
