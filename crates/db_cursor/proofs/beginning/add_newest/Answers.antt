use Rattle.std.proofs.Common.{◌≡◌, ◌-◌, ◌++◌, ℕ, suc, List, map, ap, ◌∙◌, arith}
use Rattle.db_cursor.specs.internal.Rows.{newest_ranges, spot_of, spots_of, Spot}
use Rattle.db_cursor.proofs.Ranges.{level_fits, newest_left}
use Rattle.db_cursor.proofs.beginning.add_newest.Goals as goal

pub add_row-requires-clause-within : goal.add_row-requires-clause-within
add_row-requires-clause-within g c =
    let fits = level_fits 0 c.args.version.now.value.tables in
    omega (arith, c.loop-index-test.true, c.loop-index.invariant.1, fits)

pub loop-index-preserved : goal.loop-index-preserved
loop-index-preserved g c =
    let tables = c.args.version.now.value.tables in
    let index = c.loop-index.index - 1 in
    let one : suc index ≡ c.loop-index.index = omega (arith, c.loop-index-test.true) in (
      ap (λ (spots : List Spot). spots ++ spots_of tables (newest_ranges index)) c.in_ok-add_row.ensures
          ∙ newest_left tables (map spot_of c.loop-index.cursors.items) index
          ∙ ap (λ (n : ℕ). map spot_of c.loop-index.cursors.items ++ spots_of tables (newest_ranges n)) one
          ∙ c.loop-index.invariant.0,
      omega (arith, c.loop-index.invariant.1),
    )
