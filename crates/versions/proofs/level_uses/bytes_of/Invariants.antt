use Rattle.std.proofs.Common.{◌≡◌, ◌≤◌, ◌+◌, ◌-◌, ◌^◌, min, drop, sum_by}
use Rattle.versions.proofs.level_uses.bytes_of.Given as goal

-- with what is left of the tables
abbrev pub invariant-loop-placed : goal.invariant-loop-placed
invariant-loop-placed l =
    (min (l.bytes + sum_by (λ p. p.table.size) (drop l.placed-index l.tables)) (2 ^ 64 - 1) ≡ min (sum_by (λ p. p.table.size) l.tables) (2 ^ 64 - 1))
    × (l.bytes ≤ 2 ^ 64 - 1)
