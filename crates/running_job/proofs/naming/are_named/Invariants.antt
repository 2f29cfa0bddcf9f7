use Rattle.std.proofs.Common.{◌<◌, ◌^◌}
use Rattle.std.specs.List.{AllWithin}
use Rattle.running_job.proofs.naming.are_named.Given as goal

-- all so far can be named
abbrev pub invariant-loop-placed : goal.invariant-loop-placed
invariant-loop-placed l = AllWithin (λ placed. (placed.level < 7) × (placed.table.number < 2 ^ 64)) l.tables 0 l.placed-index
