use Rattle.std.proofs.Common.{◌≡◌, ◌+◌, ◌++◌, suc, length, map, refl, sym, ap, ◌∙◌, arith, append-nil}
use Rattle.db_cursor.specs.internal.Rows.{below, range_kept, spot_of, spots_of}
use Rattle.versions.specs.Levels.{Placement, tables_at}
use Rattle.db_cursor.proofs.Ranges.{below_first, below_next, level_added, level_within}
use Rattle.db_cursor.proofs.beginning.add_levels.Goals as goal

pub loop-level-init : goal.loop-level-init
loop-level-init g c =
    let tables = c.args.version.now.value.tables in
    let own : length c.level-from.result.now ≡ length (tables_at 0 tables) = ap length (c.level-from.ensures ∙ ap (λ (v : Placement). tables_at 0 v.tables) c.deref-2.ensures) in
    (0, refl, omega arith, own ∙ sym (below_first tables), sym (append-nil (map spot_of c.args.cursors.now.items)))

pub overflow_add-end : goal.overflow_add-end
overflow_add-end g c =
    let tables = c.args.version.now.value.tables in
    let i = c.loop-level.invariant in
    let own : length c.level.result.now ≡ length (tables_at (suc i.0) tables) = ap length (c.level.ensures ∙ (λ j. tables_at (i.1 j) (c.deref-in-loop-level.ensures j).tables)) in
    let fits = level_within (suc i.0) tables in
    let all : length c.tables-tables.result.now ≡ length tables = ap length (c.tables-tables.ensures.is ∙ ap (λ (v : Placement). v.tables) c.deref.ensures) in
    let bound = c.tables-tables.type_inv.0 in
    omega (arith, own, fits, i.3, all, bound)

pub add_row-requires-clause-within : goal.add_row-requires-clause-within
add_row-requires-clause-within g c =
    let tables = c.args.version.now.value.tables in
    let i = c.loop-level.invariant in
    let own : length c.level.result.now ≡ length (tables_at (suc i.0) tables) = ap length (c.level.ensures ∙ (λ j. tables_at (i.1 j) (c.deref-in-loop-level.ensures j).tables)) in
    let fits = level_within (suc i.0) tables in
    omega (arith, own, fits, i.3)

pub loop-level-preserved : goal.loop-level-preserved
loop-level-preserved g c =
    let tables = c.args.version.now.value.tables in
    let i = c.loop-level.invariant in
    let own : length c.level.result.now ≡ length (tables_at (suc i.0) tables) = ap length (c.level.ensures ∙ (λ j. tables_at (i.1 j) (c.deref-in-loop-level.ensures j).tables)) in
    let end : c.loop-level.from + length c.level.result.now ≡ below (suc i.0) tables + length (tables_at (suc i.0) tables) = omega (arith, own, i.3) in (
      suc i.0,
      omega (arith, i.1),
      omega (arith, i.1, c.loop-level-test.true),
      end ∙ sym (below_next (suc i.0) tables),
      c.in_ok-add_row.ensures
          ∙ (λ j. i.4 j ++ spots_of tables (range_kept (i.3 j) (end j)))
          ∙ level_added tables (map spot_of c.args.cursors.now.items) i.0,
    )
