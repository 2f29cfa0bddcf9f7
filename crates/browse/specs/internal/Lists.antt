-- Pairs in the order in which a walk through a range comes to them.
use Rattle.std.specs.Prelude.{ℕ, ◌+◌, Bool, if◌then◌else◌, List, [], ◌∷◌, length, reverse, take, drop, Option, Some, None}
use Rattle.machine.specs.Walks.{count_below}
use Rattle.engine.specs.Ranges.{Cmp, Pair, is_before_end, is_from, start_of}
use Rattle.browse.specs.declared.choice.Choice.{Choice}

-- how many pairs at the front come before the end of a range
abbrev pub end_of : Cmp → Option (List ℕ) → List Pair → ℕ
end_of cmp None pairs = length pairs
end_of cmp (Some to) pairs = count_below cmp to pairs

-- the pairs from the first one on that a walk comes to
abbrev pub starting : Cmp → Choice → List Pair → List Pair
starting cmp choice pairs =
    if choice.backwards then reverse (take (end_of cmp choice.keys.to pairs) pairs) else drop (start_of cmp choice.keys.from pairs) pairs

-- those behind the pair of an index, as the walk goes
abbrev pub behind : Bool → ℕ → List Pair → List Pair
behind backwards i pairs = if backwards then reverse (take i pairs) else drop (i + 1) pairs

-- whether a walk that comes to this key isn't past the range
abbrev pub in_reach : Cmp → Choice → List ℕ → Bool
in_reach cmp choice key = if choice.backwards then is_from cmp choice.keys.from key else is_before_end cmp choice.keys.to key

-- those at the front that aren't past the range
abbrev pub reach : Cmp → Choice → List Pair → List Pair
reach cmp choice [] = []
reach cmp choice (pair ∷ pairs) = if in_reach cmp choice pair.0 then pair ∷ reach cmp choice pairs else []

abbrev pub all_of : List Pair → List Pair
all_of pairs = pairs

abbrev pub settled : Cmp → Choice → Option Pair → Option Pair
settled cmp choice None = None
settled cmp choice (Some pair) = if in_reach cmp choice pair.0 then Some pair else None
