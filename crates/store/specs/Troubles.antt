-- The notes that a store takes of what was wrong.
use Rattle.std.specs.Prelude.{◌≡◌, ℕ, List, take}
use Rattle.std.specs.Hash.DefaultHasher.{wrapping_add}
use Rattle.store.specs.declared.trouble.ShortName.{ShortName}
use Rattle.store.specs.declared.trouble.Trouble.{Trouble}

-- the bytes of a name that are kept
abbrev pub bytes_of : ShortName → List ℕ
bytes_of name = take name.length name.bytes

-- It is of the file of this name, of which 48 bytes are kept.
abbrev pub NamesFile : List ℕ → Trouble → Type 0
NamesFile name trouble = bytes_of trouble.name ≡ take 48 name

-- A note, as it is taken after another one: it has that one's count, and one more.
abbrev pub behind : Trouble → Trouble → Trouble
behind trouble last = record trouble { count = wrapping_add last.count 1 }
