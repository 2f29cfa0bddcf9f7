-- The edit with which a new MANIFEST begins: all of a layout (LevelDB's db/version_set.cc,
-- VersionSet::WriteSnapshot).
use Rattle.std.specs.Prelude.{◌≡◌, ◌≢◌, ◌<◌, ◌^◌, ◌==◌, ℕ, suc, if◌then◌else◌, List, [], ◌∷◌, ◌++◌, length, map, Option, Some, None}
use Rattle.std.specs.List.{AllByRecursion}
use Rattle.edits.specs.declared.field.Field.{Field}
use Rattle.edits.specs.declared.field.Field.TheVariants.{Comparator, LogNumber, NextFileNumber, LastSequence, CompactPointer, NewFile, PreviousLogNumber}
use Rattle.edits.specs.declared.field.PlacedTable.{PlacedTable}
use Rattle.edits.specs.declared.layout.Layout.{Layout}
use Rattle.edits.specs.Edit.{IsEdit, IsInternal, IsTableProper, IsPlacedBefore}

-- ---- what the layouts that edits leave have in common

-- an internal key that an edit can hold, if there is one
abbrev pub IsPointer : Option (List ℕ) → Type 0
IsPointer None = Unit {0}
IsPointer (Some key) = (length key < 2 ^ 32) × IsInternal key

abbrev pub IsPlacedProper : PlacedTable → Type 0
IsPlacedProper placed = (placed.level < 7) × IsTableProper placed.table

-- the table comes before the other, by level and then by number, and has another number
abbrev pub IsFollowedBy : PlacedTable → PlacedTable → Type 0
IsFollowedBy a b = IsPlacedBefore (a.level, a.table.number) (b.level, b.table.number) × (a.table.number ≢ b.table.number)

-- the same of each table and all after it
abbrev pub AreInPlace : List PlacedTable → Type 0
AreInPlace [] = Unit {0}
AreInPlace (placed ∷ tables) = AllByRecursion (IsFollowedBy placed) tables × AreInPlace tables

-- a pointer for each level, and tables of distinct numbers by level and number, all in range
pub record IsKept (layout : Layout) : Type 0 where
  pub levels : length layout.compact_pointers.items ≡ 7
  pub keys : AllByRecursion IsPointer layout.compact_pointers.items
  pub proper : AllByRecursion IsPlacedProper layout.tables.items
  pub in_place : AreInPlace layout.tables.items

-- the edit was read from some bytes
abbrev pub WasRead : List Field → Type 0
WasRead edit = (bytes : List ℕ) × IsEdit bytes edit

-- ---- the edit

-- the compact pointers of the levels from this one on that have any
abbrev pub pointer_fields : ℕ → List (Option (List ℕ)) → List Field
pointer_fields level [] = []
pointer_fields level (None ∷ pointers) = pointer_fields (suc level) pointers
pointer_fields level (Some key ∷ pointers) = CompactPointer level key ∷ pointer_fields (suc level) pointers

-- 0 means that there is none
abbrev pub previous_fields : ℕ → List Field
previous_fields number = if number == 0 then [] else PreviousLogNumber number ∷ []

-- the layout in one edit, under the order of this name
abbrev pub snapshot_fields : List ℕ → Layout → List Field
snapshot_fields name layout =
    Comparator name ∷ LogNumber layout.log_number ∷ NextFileNumber layout.next_file_number ∷ LastSequence layout.last_sequence
    ∷ (pointer_fields 0 layout.compact_pointers.items ++ map NewFile layout.tables.items ++ previous_fields layout.previous_log_number)

-- the same tables and compact pointers under these numbers
pub record IsRenumbered (log_number previous_log_number next_file_number last_sequence : ℕ) (old new : Layout) : Type 0 where
  pub log : new.log_number ≡ log_number
  pub previous_log : new.previous_log_number ≡ previous_log_number
  pub next_file : new.next_file_number ≡ next_file_number
  pub sequence : new.last_sequence ≡ last_sequence
  pub compact_pointers : new.compact_pointers.items ≡ old.compact_pointers.items
  pub tables : new.tables.items ≡ old.tables.items

-- a table that the reader of edits takes
abbrev pub IsBelowLimit : PlacedTable → Type 0
IsBelowLimit placed = placed.table.number < 2 ^ 62
