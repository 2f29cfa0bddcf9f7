-- Version edits (LevelDB's db/version_edit.cc): fields one after the other, each a tag and its
-- content.
use Rattle.std.specs.Prelude.{◌≡◌, ◌⊎◌, ◌<◌, ◌≤◌, ◌^◌, ℕ, List, [], ◌∷◌, ◌++◌, length}
use Rattle.coding.specs.Varint.{IsVarint, IsString}
use Rattle.coding.specs.declared.error.ReadError.{ReadError}
use Rattle.coding.specs.declared.error.ReadError.TheVariants.{Memory, Corrupt, Unsupported}
use Rattle.edits.specs.declared.field.Field.{Field}
use Rattle.edits.specs.declared.field.Field.TheVariants.{Comparator, LogNumber, NextFileNumber, LastSequence, CompactPointer, DeletedFile, NewFile, PreviousLogNumber}
use Rattle.edits.specs.declared.field.PlacedTable.{PlacedTable}
use Rattle.edits.specs.declared.field.TableFile.{TableFile}
use Rattle.coding.specs.Spelling.{InTurn}
use Rattle.ikey.specs.Keys.{Key, IsKey}

-- a number of at most 64 bits, a sequence number, a level, the number of a table
abbrev pub IsLong : List ℕ → ℕ → Type 0
IsLong bytes n = IsVarint bytes n × (n < 2 ^ 64)

abbrev pub IsSequence : List ℕ → ℕ → Type 0
IsSequence bytes n = IsVarint bytes n × (n < 2 ^ 56)

abbrev pub IsLevel : List ℕ → ℕ → Type 0
IsLevel bytes n = IsVarint bytes n × (n < 7)

abbrev pub IsTableNumber : List ℕ → ℕ → Type 0
IsTableNumber bytes n = IsLong bytes n × (0 < n)

-- these bytes are an internal key
abbrev pub IsInternal : List ℕ → Type 0
IsInternal bytes = (key : Key) × IsKey bytes key

-- a string that is one
abbrev pub SpellsKey : List ℕ → List ℕ → Type 0
SpellsKey bytes key = IsString bytes key × IsInternal key

-- a table: its number, its size, its smallest and its largest key
abbrev pub SpellsTable : List ℕ → TableFile → Type 0
SpellsTable bytes table = InTurn IsTableNumber (InTurn IsLong (InTurn SpellsKey SpellsKey)) bytes (table.number, (table.size, (table.smallest, table.largest)))

abbrev pub IsPlaced : List ℕ → PlacedTable → Type 0
IsPlaced bytes placed = InTurn IsLevel SpellsTable bytes (placed.level, placed.table)

abbrev pub field_tag : Field → ℕ
field_tag (Comparator name) = 1
field_tag (LogNumber n) = 2
field_tag (NextFileNumber n) = 3
field_tag (LastSequence n) = 4
field_tag (CompactPointer level key) = 5
field_tag (DeletedFile level number) = 6
field_tag (NewFile placed) = 7
field_tag (PreviousLogNumber n) = 9

-- what stands after the tag
abbrev pub IsContent : List ℕ → Field → Type 0
IsContent bytes (Comparator name) = IsString bytes name
IsContent bytes (LogNumber n) = IsLong bytes n
IsContent bytes (NextFileNumber n) = IsLong bytes n
IsContent bytes (LastSequence n) = IsSequence bytes n
IsContent bytes (CompactPointer level key) = InTurn IsLevel SpellsKey bytes (level, key)
IsContent bytes (DeletedFile level number) = InTurn IsLevel IsLong bytes (level, number)
IsContent bytes (NewFile placed) = IsPlaced bytes placed
IsContent bytes (PreviousLogNumber n) = IsLong bytes n

-- A field. Tags are numbers of varying width; those known are below 128, and so one byte.
abbrev pub IsField : List ℕ → Field → Type 0
IsField [] field = ⊥
IsField (tag ∷ bytes) field = (tag ≡ field_tag field) × IsContent bytes field

-- the bytes are these fields, one after the other, and nothing after them
abbrev pub IsEdit : List ℕ → List Field → Type 0
IsEdit bytes [] = bytes ≡ []
IsEdit bytes (field ∷ fields) = (first rest : List ℕ) × IsField first field × IsEdit rest fields × (bytes ≡ first ++ rest)

-- ---- the limit of reading

-- a table has a number of 2 ^ 62 or more
abbrev pub IsPastLimit : Field → Type 0
IsPastLimit (NewFile placed) = 2 ^ 62 ≤ placed.table.number
IsPastLimit (DeletedFile level number) = 2 ^ 62 ≤ number
IsPastLimit field = ⊥

abbrev pub IsWithinLimit : Field → Type 0
IsWithinLimit (NewFile placed) = placed.table.number < 2 ^ 62
IsWithinLimit (DeletedFile level number) = number < 2 ^ 62
IsWithinLimit field = Unit {0}

-- some field of the edit is past the limit
abbrev pub HasPastLimit : List Field → Type 0
HasPastLimit [] = ⊥
HasPastLimit (field ∷ fields) = IsPastLimit field ⊎ HasPastLimit fields

-- Why bytes weren't read: out of memory, since they are damaged, or since they are past what is
-- supported.
abbrev pub RefusesFor : ReadError → Type 0 → Type 0 → Type 0
RefusesFor Memory damaged unsupported = Unit {0}
RefusesFor (Corrupt what) damaged unsupported = damaged
RefusesFor (Unsupported what) damaged unsupported = unsupported

-- ---- what is written

-- the parts of a field are in range, so that it has an encoding
abbrev pub IsTableProper : TableFile → Type 0
IsTableProper table =
    (0 < table.number) × (table.number < 2 ^ 64) × (table.size < 2 ^ 64) × (length table.smallest < 2 ^ 32) × (length table.largest < 2 ^ 32) × IsInternal table.smallest × IsInternal table.largest

abbrev pub IsProper : Field → Type 0
IsProper (Comparator name) = length name < 2 ^ 32
IsProper (LogNumber n) = n < 2 ^ 64
IsProper (NextFileNumber n) = n < 2 ^ 64
IsProper (LastSequence n) = n < 2 ^ 56
IsProper (CompactPointer level key) = (level < 7) × (length key < 2 ^ 32) × IsInternal key
IsProper (DeletedFile level number) = (level < 7) × (number < 2 ^ 64)
IsProper (NewFile placed) = (placed.level < 7) × IsTableProper placed.table
IsProper (PreviousLogNumber n) = n < 2 ^ 64

-- the level and the number by which fields of one tag are ordered
abbrev pub place_of : Field → ℕ × ℕ
place_of (CompactPointer level key) = (level, 0)
place_of (DeletedFile level number) = (level, number)
place_of (NewFile placed) = (placed.level, placed.table.number)
place_of field = (0, 0)

abbrev pub IsPlacedBefore : ℕ × ℕ → ℕ × ℕ → Type 0
IsPlacedBefore a b = (a.0 < b.0) ⊎ ((a.0 ≡ b.0) × (a.1 < b.1))

abbrev pub IsWrittenBefore : Field → Field → Type 0
IsWrittenBefore a b = (field_tag a < field_tag b) ⊎ ((field_tag a ≡ field_tag b) × IsPlacedBefore (place_of a) (place_of b))

-- our writer's order: by tag, then by level, then by number
abbrev pub IsInOrder : List Field → Type 0
IsInOrder [] = Unit {0}
IsInOrder (field ∷ []) = Unit {0}
IsInOrder (field ∷ next ∷ fields) = IsWrittenBefore field next × IsInOrder (next ∷ fields)
