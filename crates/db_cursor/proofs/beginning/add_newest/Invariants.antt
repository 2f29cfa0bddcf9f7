use Rattle.std.proofs.Common.{◌≡◌, ◌≤◌, ◌++◌, length, map}
use Rattle.db_cursor.specs.internal.Rows.{newest_ranges, spot_of, spots_of}
use Rattle.versions.specs.Levels.{tables_at}
use Rattle.db_cursor.proofs.beginning.add_newest.Given as goal

abbrev pub invariant-loop-index : goal.invariant-loop-index
invariant-loop-index g l =
    (map spot_of l.cursors.items ++ spots_of l.fn.version.value.tables (newest_ranges l.index)
    ≡ map spot_of l.fn.cursors.items ++ spots_of l.fn.version.value.tables (newest_ranges (length (tables_at 0 l.fn.version.value.tables))))
    × (l.index ≤ length (tables_at 0 l.fn.version.value.tables))

abbrev pub decreases-loop-index : goal.decreases-loop-index
decreases-loop-index g l = l.index
