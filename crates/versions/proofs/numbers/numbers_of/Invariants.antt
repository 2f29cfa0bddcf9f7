use Rattle.std.proofs.Common.{◌≡◌, map, take}
use Rattle.versions.proofs.numbers.numbers_of.Given as goal

abbrev pub invariant-loop-placed : goal.invariant-loop-placed
invariant-loop-placed l = l.numbers.items ≡ map (λ p. p.table.number) (take l.placed-index l.tables)
