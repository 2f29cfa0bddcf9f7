use Rattle.std.proofs.Common.{arith, sum_by, ap, List}
use Rattle.std.proofs.lemmas.List.{drop_all}
use Rattle.edits.specs.declared.field.PlacedTable.{PlacedTable}
use Rattle.versions.proofs.level_uses.bytes_of.Goals as goal

pub returns : goal.returns
returns c =
    let none = ap (λ (ts : List PlacedTable). sum_by (λ p. p.table.size) ts) (drop_all c.loop-placed.placed-index c.args.tables.now c.loop-placed-test.false) in
    omega (arith, none, c.loop-placed.invariant.0, c.loop-placed.invariant.1)
