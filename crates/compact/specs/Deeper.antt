-- Which user keys the tables below the output level of a compaction cover.
use Rattle.std.specs.Prelude.{ℕ, Bool, ◌&&◌, List, nat_lt}
use Rattle.std.specs.List.{list_any}
use Rattle.std.specs.declared.cmp.Ordering.{Ordering}
use Rattle.edits.specs.declared.field.PlacedTable.{PlacedTable}
use Rattle.versions.specs.Ranges.{covers}

-- a table of a level below this one covers the user key
abbrev pub is_covered_below : (List ℕ → List ℕ → Ordering) → ℕ → List PlacedTable → List ℕ → Bool
is_covered_below cmp level tables user = list_any (λ placed. nat_lt level placed.level && covers cmp placed user) tables
