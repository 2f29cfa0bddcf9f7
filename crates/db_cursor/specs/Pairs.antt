-- The pairs of a view, in the order of their keys (LevelDB's include/leveldb/iterator.h).
use Rattle.std.specs.Prelude.{ℕ, List, Option, slice_get}
use Rattle.std.specs.Option.{option_map, option_and_then}
use Rattle.cursor.specs.Views.{Walked}
use Rattle.ikey.specs.Entries.{Pair}

-- such a pair, as a walk lists it
abbrev pub listed_pair : List ℕ × List ℕ → Pair
listed_pair pair = record { key = pair.0; value = pair.1 }

abbrev pub tuple_of : Pair → List ℕ × List ℕ
tuple_of pair = (pair.key, pair.value)

-- the pair on which a walk stands
abbrev pub pair_on : Walked → Option (List ℕ × List ℕ)
pair_on at = option_map tuple_of (option_and_then (slice_get at.pairs) at.place)
