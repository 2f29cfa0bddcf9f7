use Rattle.std.proofs.Common.{◌≡◌}
use Rattle.std.specs.List.{AllWithin}
use Rattle.running_job.proofs.open_job.has_number.Given as goal

-- none so far has the number
abbrev pub invariant-loop-placed : goal.invariant-loop-placed
invariant-loop-placed l = AllWithin (λ placed. placed.table.number ≡ l.number → ⊥) l.tables 0 l.placed-index
