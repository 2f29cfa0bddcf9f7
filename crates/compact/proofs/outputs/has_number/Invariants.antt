use Rattle.std.proofs.Common.{◌≡◌}
use Rattle.std.specs.List.{AllWithin}
use Rattle.compact.proofs.outputs.has_number.Given as goal

-- none so far has the number
abbrev pub invariant-loop-table : goal.invariant-loop-table
invariant-loop-table l = AllWithin (λ table. table.number ≡ l.number → ⊥) l.tables 0 l.table-index
