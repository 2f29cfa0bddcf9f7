-- The layout that the edits of a MANIFEST leave (LevelDB's doc/impl.md, "Manifest", and its
-- db/version_set.cc, VersionSet::Recover and VersionSet::Builder).
use Rattle.std.specs.Prelude.{◌≡◌, ◌≢◌, ◌⊎◌, ◌==◌, ◌&&◌, ◌||◌, nat_lt, ℕ, Bool, true, false, if◌then◌else◌, codes, List, [], ◌∷◌, ◌++◌, map, Option, Some, None, unwrap_or, option_map, option_and_then}
use Rattle.std.specs.List.{AllByRecursion}
use Rattle.std.specs.Option.{option_or}
use Rattle.edits.specs.declared.field.Field.{Field}
use Rattle.edits.specs.declared.field.Field.TheVariants.{Comparator, LogNumber, NextFileNumber, LastSequence, CompactPointer, DeletedFile, NewFile, PreviousLogNumber}
use Rattle.edits.specs.declared.field.PlacedTable.{PlacedTable}
use Rattle.edits.specs.declared.layout.Layout.{Layout}

-- the fields of all edits, in order
abbrev pub fields_of : List (List Field) → List Field
fields_of [] = []
fields_of (edit ∷ edits) = edit ++ fields_of edits

-- ---- the order of keys

abbrev pub IsComparator : List ℕ → Field → Type 0
IsComparator name (Comparator other) = other ≡ name
IsComparator name field = Unit {0}

-- the field names another order
abbrev pub IsOther : List ℕ → Field → Type 0
IsOther name (Comparator other) = other ≢ name
IsOther name field = ⊥

-- a field of these does
abbrev pub NamesOther : List ℕ → List Field → Type 0
NamesOther name [] = ⊥
NamesOther name (field ∷ fields) = IsOther name field ⊎ NamesOther name fields

-- no field of these names an order
abbrev pub names_none : List Field → Bool
names_none [] = true
names_none (Comparator name ∷ fields) = false
names_none (field ∷ fields) = names_none fields

-- the name of the order of bytes
abbrev pub bytewise : List ℕ
bytewise = codes "leveldb.BytewiseComparator"

-- Each order that is named is this one, and where none is, this is the order of bytes.
abbrev pub AreOfOrder : List ℕ → List Field → Type 0
AreOfOrder name fields = AllByRecursion (IsComparator name) fields × (names_none fields ≡ true → name ≡ bytewise)

-- Another order is named, or none is, and this isn't the order of bytes.
abbrev pub AreOfOther : List ℕ → List Field → Type 0
AreOfOther name fields = NamesOther name fields ⊎ ((names_none fields ≡ true) × (name ≢ bytewise))

-- ---- numbers: of each the last that is said counts

abbrev pub log_number_in : Field → Option ℕ
log_number_in (LogNumber n) = Some n
log_number_in field = None

abbrev pub next_file_number_in : Field → Option ℕ
next_file_number_in (NextFileNumber n) = Some n
next_file_number_in field = None

abbrev pub last_sequence_in : Field → Option ℕ
last_sequence_in (LastSequence n) = Some n
last_sequence_in field = None

abbrev pub previous_log_number_in : Field → Option ℕ
previous_log_number_in (PreviousLogNumber n) = Some n
previous_log_number_in field = None

abbrev pub compact_pointer_in : ℕ → Field → Option (List ℕ)
compact_pointer_in level (CompactPointer other key) = if other == level then Some key else None
compact_pointer_in level field = None

-- what the last field says that says anything
abbrev pub last_said : {V : Type 0} → (Field → Option V) → List Field → Option V
last_said said [] = None
last_said said (field ∷ fields) = option_or (last_said said fields) (said field)

-- ---- tables, by level and then by number

-- the table comes before the other
abbrev pub is_before : PlacedTable → PlacedTable → Bool
is_before a b = nat_lt a.level b.level || (a.level == b.level && nat_lt a.table.number b.table.number)

abbrev pub is_at : ℕ → ℕ → PlacedTable → Bool
is_at level number placed = placed.level == level && placed.table.number == number

-- the tables without the one at this level of this number, where it is there
abbrev pub without : ℕ → ℕ → List PlacedTable → Option (List PlacedTable)
without level number [] = None
without level number (placed ∷ tables) =
    if is_at level number placed then Some tables else option_map (λ others. placed ∷ others) (without level number tables)

-- a table has this number, at whichever level
abbrev pub is_used : ℕ → List PlacedTable → Bool
is_used number [] = false
is_used number (placed ∷ tables) = placed.table.number == number || is_used number tables

-- the tables with one more in its place
abbrev pub inserted : PlacedTable → List PlacedTable → List PlacedTable
inserted new [] = new ∷ []
inserted new (placed ∷ tables) = if is_before new placed then new ∷ placed ∷ tables else placed ∷ inserted new tables

-- the same, where none of its number is there
abbrev pub with_table : PlacedTable → List PlacedTable → Option (List PlacedTable)
with_table new tables = if is_used new.table.number tables then None else Some (inserted new tables)

-- what the deleted files of these fields leave of the tables, and what the new ones add to them
abbrev pub after_deleted : List Field → List PlacedTable → Option (List PlacedTable)
after_deleted [] tables = Some tables
after_deleted (DeletedFile level number ∷ fields) tables = option_and_then (after_deleted fields) (without level number tables)
after_deleted (field ∷ fields) tables = after_deleted fields tables

abbrev pub after_new : List Field → List PlacedTable → Option (List PlacedTable)
after_new [] tables = Some tables
after_new (NewFile placed ∷ fields) tables = option_and_then (after_new fields) (with_table placed tables)
after_new (field ∷ fields) tables = after_new fields tables

-- Within an edit deleted files go before new ones.
abbrev pub after_edit : List Field → List PlacedTable → Option (List PlacedTable)
after_edit edit tables = option_and_then (after_new edit) (after_deleted edit tables)

-- The tables after these edits. There are none where an edit deletes a file that isn't there, or
-- adds a number that is.
abbrev pub after_edits : List (List Field) → List PlacedTable → Option (List PlacedTable)
after_edits [] tables = Some tables
after_edits (edit ∷ edits) tables = option_and_then (after_edits edits) (after_edit edit tables)

-- ---- the layout

abbrev pub levels : List ℕ
levels = 0 ∷ 1 ∷ 2 ∷ 3 ∷ 4 ∷ 5 ∷ 6 ∷ []

-- The edits leave this layout, under the order of this name.
pub record IsLayout (name : List ℕ) (edits : List (List Field)) (layout : Layout) : Type 0 where
  pub order : AreOfOrder name (fields_of edits)
  pub log_number : last_said log_number_in (fields_of edits) ≡ Some layout.log_number
  pub next_file_number : last_said next_file_number_in (fields_of edits) ≡ Some layout.next_file_number
  pub last_sequence : last_said last_sequence_in (fields_of edits) ≡ Some layout.last_sequence
  -- 0 means that there is none
  pub previous_log_number : layout.previous_log_number ≡ unwrap_or (last_said previous_log_number_in (fields_of edits)) 0
  pub compact_pointers : layout.compact_pointers.items ≡ map (λ level. last_said (compact_pointer_in level) (fields_of edits)) levels
  pub tables : after_edits edits [] ≡ Some layout.tables.items
