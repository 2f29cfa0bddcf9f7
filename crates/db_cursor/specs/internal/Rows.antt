-- Over which memtables and which of a version's tables a scan has cursors (LevelDB's
-- db/version_set.cc, Version::AddIterators).
use Rattle.std.specs.Prelude.{◌+◌, ◌++◌, ℕ, zero, suc, Bool, Option, Some, None, List, [], ◌∷◌, is_some, length, map, nat_lt, false, if◌then◌else◌}
use Rattle.edits.specs.declared.field.PlacedTable.{PlacedTable}
use Rattle.db_cursor.specs.declared.source_cursor.SourceCursor.{SourceCursor}
use Rattle.db_cursor.specs.declared.source_cursor.SourceCursor.TheVariants.{Memory, Row}
use Rattle.memtables.specs.Places.{MemoriesPlace}
use Rattle.versions.specs.Levels.{tables_at}

-- What a new cursor goes over: a memtable, or of these tables those from one index to another.
-- It may have opened one.
pub data Spot : Type 0 where
  OfMemory : MemoriesPlace → Spot
  OfRow : List PlacedTable → ℕ → ℕ → Bool → Spot

abbrev pub spot_of : {K : Type 0} {g : _} → SourceCursor K g → Spot
spot_of (Memory cursor) = OfMemory cursor
spot_of (Row cursor) = OfRow cursor.version.value.tables cursor.from cursor.end (is_some cursor.here)

-- a cursor over the memtable of a generation that stands nowhere
abbrev pub place_in : ℕ → ℕ → MemoriesPlace
place_in sequence generation = record { generation = generation; place = record { sequence = sequence; node = None; key = [] } }

-- over the current memtable, and over the sealed one, if there is one
abbrev pub memory_spots : ℕ → ℕ → Option ℕ → List Spot
memory_spots sequence generation None = OfMemory (place_in sequence generation) ∷ []
memory_spots sequence generation (Some sealed) = OfMemory (place_in sequence generation) ∷ OfMemory (place_in sequence sealed) ∷ []

abbrev pub spots_of : List PlacedTable → List (ℕ × ℕ) → List Spot
spots_of tables ranges = map (λ (range : ℕ × ℕ). OfRow tables range.0 range.1 false) ranges

-- from one index to another, if that is any
abbrev pub range_kept : ℕ → ℕ → List (ℕ × ℕ)
range_kept from end = if nat_lt from end then (from, end) ∷ [] else []

-- each of so many, the last one first
abbrev pub newest_ranges : ℕ → List (ℕ × ℕ)
newest_ranges zero = []
newest_ranges (suc index) = (index, suc index) ∷ newest_ranges index

-- how many have lower levels
abbrev pub below : ℕ → List PlacedTable → ℕ
below level [] = zero
below level (placed ∷ tables) = if nat_lt placed.level level then suc (below level tables) else below level tables

-- those of the levels 1 to this one
abbrev pub deeper_ranges : List PlacedTable → ℕ → List (ℕ × ℕ)
deeper_ranges tables zero = []
deeper_ranges tables (suc level) =
    deeper_ranges tables level ++ range_kept (below (suc level) tables) (below (suc level) tables + length (tables_at (suc level) tables))
