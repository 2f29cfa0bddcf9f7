use Rattle.std.proofs.Common.{◌<◌, arith}
use Rattle.edits.specs.declared.field.PlacedTable.{PlacedTable}
use Rattle.versions.proofs.Elements.{at_read, front_more}
use Rattle.versions.proofs.searching.search_start.Goals as goal

pub loop-low-preserved-then-tables-middle : goal.loop-low-preserved-then-tables-middle
loop-low-preserved-then-tables-middle c =
    let lower : PlacedTable → Type 0 = λ p. p.level < c.args.level in
    let h = at_read lower c.args.tables.now _ c.index-tables-middle.result (omega arith) (omega (arith, c.if-tables-middle.true)) in
    record {
      within = omega arith;
      end = omega arith;
      lower = front_more lower c.args.tables.now _ h (λ k less d. omega (arith, c.requires k _ d less (omega arith), h d));
      higher = c.loop-low.invariant.higher;
    }
