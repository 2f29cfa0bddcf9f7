-- How much room entries need in table files.
use Rattle.std.specs.Prelude.{◌<◌, ◌≤◌, ◌+◌, ◌^◌, ℕ, List, [], ◌∷◌, length}
use Rattle.ikey.specs.declared.entry.Entry.{Entry}
use Rattle.ikey.specs.Entries.{Pair, value_kept}

-- the bytes of the keys and values of these entries, and 64 more for each
abbrev pub room_of : List Entry → ℕ
room_of [] = 0
room_of (entry ∷ entries) = length entry.key + length (value_kept entry.value) + 64 + room_of entries

-- the bytes of the keys and values of these pairs, and so many more for each
unfoldable pub load : ℕ → List Pair → ℕ
load more [] = 0
load more (pair ∷ pairs) = length pair.key + length pair.value + more + load more pairs

-- These pairs, and these entries after them, need more bytes than a block may have.
abbrev pub AreTooMany : List Pair → List Entry → Type 0
AreTooMany pairs entries = 2 ^ 30 < load 56 pairs + room_of entries

-- Only entries that need so many bytes may need a block that is too long to be read.
abbrev pub AreLarge : List Entry → Type 0
AreLarge entries = 2 ^ 29 ≤ room_of entries
