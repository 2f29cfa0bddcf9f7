use Rattle.std.proofs.Common.{◌≡◌, ◌<◌, ◌≤◌, ◌+◌, ◌-◌, ℕ, length, get_or}
use Rattle.std.specs.declared.cmp.Ordering.TheVariants.{Less}
use Rattle.recover.specs.declared.logged.Logged.{Logged}
use Rattle.recover.proofs.logged.first_of.Given as goal

abbrev pub decreases-loop-low : goal.decreases-loop-low
decreases-loop-low g l = l.high - l.low

abbrev pub invariant-loop-low : goal.invariant-loop-low
invariant-loop-low g l = (l.low ≤ l.high) × (l.high ≤ length l.logged) × ((i : ℕ) (d : Logged) → l.low ≡ i + 1 → g.K.KeyOrder.cmp (get_or l.logged i d).key.now l.key ≡ Less)
    × ((d : Logged) → l.high < length l.logged → g.K.KeyOrder.cmp (get_or l.logged l.high d).key.now l.key ≡ Less → ⊥)
