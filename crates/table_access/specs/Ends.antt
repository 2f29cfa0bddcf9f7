-- The first and the last key of a table, which its version edit says (LevelDB's db/version_edit.h,
-- FileMetaData).
use Rattle.std.specs.Prelude.{◌≡◌, ℕ, suc, List, Some, length, slice_get}
use Rattle.cursor.specs.Places.{Cmp}
use Rattle.edits.specs.declared.field.PlacedTable.{PlacedTable}
use Rattle.ikey.specs.Entries.{InternalEntry, Pair}
use Rattle.ikey.specs.Keys.{IsKey}
use Rattle.table.specs.Frame.{Frame, IsFrame}
use Rattle.table.specs.Intact.{IsIntact}
use Rattle.table.specs.declared.handle.Place.{Place}

-- the first pair has this key, if there is one
abbrev pub BeginsAt : List ℕ → List Pair → Type 0
BeginsAt key pairs = (pair : Pair) → slice_get pairs 0 ≡ Some pair → pair.key ≡ key

-- and so has the last one
abbrev pub EndsAt : List ℕ → List Pair → Type 0
EndsAt key pairs = (last : ℕ) (pair : Pair) → suc last ≡ length pairs → slice_get pairs last ≡ Some pair → pair.key ≡ key

-- The first of so many blocks begins at the smallest key of its table's edit, and the last one ends
-- at the largest.
pub record HasEnds (placed : PlacedTable) (count index : ℕ) (pairs : List Pair) : Type 0 where
  pub first : index ≡ 0 → BeginsAt placed.table.smallest pairs
  pub last : suc index ≡ count → EndsAt placed.table.largest pairs

-- The same for all blocks of a table
abbrev pub HaveEnds : PlacedTable → List (List Pair) → Type 0
HaveEnds placed groups = (index : ℕ) (pairs : List Pair) → slice_get groups index ≡ Some pairs → HasEnds placed (length groups) index pairs

-- the block of this index is one, as its place in the index and the table's edit say
pub record IsIntactIn (cmp : Cmp) (placed : PlacedTable) (file : List ℕ) (places : List Place) (index : ℕ) (pairs : List Pair) : Type 0 where
  pub intact : IsIntact cmp file places index pairs
  pub ends : HasEnds placed (length places) index pairs

-- the file of this frame has it
abbrev pub HasIntactIn : Cmp → PlacedTable → Frame → ℕ → List Pair → List ℕ → Type 0
HasIntactIn cmp placed frame index pairs file = IsFrame cmp file frame → IsIntactIn cmp placed file frame.places index pairs

-- The first and the last of a table's entries have the keys of its edit.
pub record HasKeysOf (placed : PlacedTable) (entries : List InternalEntry) : Type 0 where
  pub first : (entry : InternalEntry) → slice_get entries 0 ≡ Some entry → IsKey placed.table.smallest entry.key
  pub last : (last : ℕ) (entry : InternalEntry) → suc last ≡ length entries → slice_get entries last ≡ Some entry → IsKey placed.table.largest entry.key
