use Rattle.std.proofs.Common.{◌≡◌, ◌≤◌, ◌+◌, ◌-◌, length, drop}
use Rattle.std.specs.Prelude.{nat_eq}
use Rattle.std.specs.List.{common_prefix_len}
use Rattle.block.proofs.entry.shared_from.Given as goal

-- the bytes so far are the same
abbrev pub invariant-loop-shared : goal.invariant-loop-shared
invariant-loop-shared l =
    (l.start + common_prefix_len nat_eq (drop l.start l.a) (drop l.start l.b) ≡ l.shared + common_prefix_len nat_eq (drop l.shared l.a) (drop l.shared l.b)) × (l.shared ≤ length l.a) × (l.shared ≤ length l.b)

abbrev pub decreases-loop-shared : goal.decreases-loop-shared
decreases-loop-shared l = length l.a - l.shared
