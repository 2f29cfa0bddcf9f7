use Rattle.std.proofs.Common.{◌≡◌, List, ℕ, Some, subst, sym, arith}
use Rattle.std.specs.Prelude.{slice_get}
use Rattle.std.proofs.lemmas.Option.{slice_get_within}
use Rattle.edits.specs.declared.field.PlacedTable.{PlacedTable}
use Rattle.ikey.specs.Below.{IsBelowInternal}
use Rattle.level_cursor.proofs.Lists.{get_is, read_before}
use Rattle.level_cursor.proofs.row_search.first_table.Goals as goal

pub loop-low-init : goal.loop-low-init
loop-low-init g c = record { within = omega arith; end = omega arith; front = λ k placed e at. absurd (omega (arith, e)); here = λ placed at below. absurd (let within = slice_get_within c.args.row.now _ placed at in omega (arith, within)) }

pub loop-low-preserved-then-is_below : goal.loop-low-preserved-then-is_below
loop-low-preserved-then-is_below g c = record {
  within = omega arith;
  end = omega arith;
  front = read_before (λ (placed : PlacedTable). IsBelowInternal g.K.KeyOrder.cmp placed.table.largest c.args.target.now) c.args.row.now _ c.index-row-middle.result (omega arith)
      (subst (λ (bytes : List ℕ). IsBelowInternal g.K.KeyOrder.cmp bytes c.args.target.now) c.as_slice.ensures c.if-is_below.ensures);
  here = c.loop-low.invariant.here;
}

pub loop-low-preserved : goal.loop-low-preserved
loop-low-preserved g c = record {
  within = omega arith;
  end = omega arith;
  front = c.loop-low.invariant.front;
  here = λ placed at below. c.if-is_below.ensures (subst (λ (bytes : List ℕ). IsBelowInternal g.K.KeyOrder.cmp bytes c.args.target.now) (sym c.as_slice.ensures)
      (subst (λ (p : PlacedTable). IsBelowInternal g.K.KeyOrder.cmp p.table.largest c.args.target.now) (sym (get_is c.args.row.now _ placed c.index-row-middle.result at)) below));
}

pub returns : goal.returns
returns g c = record { inside = omega arith; front = c.loop-low.invariant.front; here = λ placed at. c.loop-low.invariant.here placed (subst (λ (n : ℕ). slice_get c.args.row.now n ≡ Some placed) (omega arith) at) }
