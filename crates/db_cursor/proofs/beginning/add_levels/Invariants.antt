use Rattle.std.proofs.Common.{◌≡◌, ◌≤◌, ◌++◌, ◌-◌, ℕ, suc, map}
use Rattle.db_cursor.specs.internal.Rows.{below, deeper_ranges, spot_of, spots_of}
use Rattle.db_cursor.proofs.beginning.add_levels.Given as goal

abbrev pub invariant-loop-level : goal.invariant-loop-level
invariant-loop-level g l =
    (above : ℕ) × (l.level ≡ suc above) × (above ≤ 6) × (l.from ≡ below (suc above) l.fn.version.value.tables)
    × (map spot_of l.cursors.items ≡ map spot_of l.fn.cursors.items ++ spots_of l.fn.version.value.tables (deeper_ranges l.fn.version.value.tables above))

abbrev pub decreases-loop-level : goal.decreases-loop-level
decreases-loop-level g l = 7 - l.level
