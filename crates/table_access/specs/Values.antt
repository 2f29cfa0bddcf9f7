-- What a table says of a user key.
use Rattle.std.specs.Prelude.{◌≡◌, ◌⊎◌, ℕ, List, Option, Some, None, map, slice_get}
use Rattle.block.specs.Places.{Placed}
use Rattle.cursor.specs.Places.{Cmp}
use Rattle.edits.specs.declared.field.PlacedTable.{PlacedTable}
use Rattle.filter.specs.Hash.{hash_of}
use Rattle.ikey.specs.declared.entry.Entry.{Entry}
use Rattle.ikey.specs.Entries.{InternalEntry, Pair, entry_of, value_of}
use Rattle.ikey.specs.Keys.{Key, IsKey, IsFirstKey}
use Rattle.ikey.specs.Views.{IsNewest, IsUnseen}
use Rattle.table.specs.declared.handle.Place.{Place}
use Rattle.table.specs.Frame.{AnyLong, Frame, IsFrame, TableDenies, handles}
use Rattle.table.specs.Refusals.{IsFirstPlace, IsFrameUnsupported}
use Rattle.table.specs.Table.{IsTable}
use Rattle.table_access.specs.Ends.{HasKeysOf}

-- what a search for a user key has found: nothing where none of its entries is seen, and else what
-- the newest one put
abbrev pub IsLookUp : List Entry → ℕ → List ℕ → Option (Option (List ℕ)) → Type 0
IsLookUp entries sequence key None = IsUnseen entries sequence key
IsLookUp entries sequence key (Some value) =
    (entry : Entry) × IsNewest entries sequence entry × (entry.key ≡ key) × (value ≡ entry.value)

-- the same holds of the entries of a table
abbrev pub HasValue : Cmp → List ℕ → List ℕ → ℕ → Option (Option (List ℕ)) → Type 0
HasValue cmp file key sequence value = (entries : List InternalEntry) → IsTable cmp file entries → IsLookUp (map entry_of entries) sequence key value

-- ---- parts of a search

-- what an entry says of a user key: nothing where it is of another one
abbrev pub SaysOfEntry : InternalEntry → List ℕ → Option (Option (List ℕ)) → Type 0
SaysOfEntry entry key None = entry.key.user ≡ key → ⊥
SaysOfEntry entry key (Some value) = (entry.key.user ≡ key) × (value ≡ value_of entry.key.kind entry.value)

-- the pair that the cursor stands on has an internal key
abbrev pub StandsOnKey : Placed → Type 0
StandsOnKey cursor = (index : ℕ) (pair : Pair) → cursor.place ≡ Some index → slice_get cursor.pairs index ≡ Some pair → (key : Key) × IsKey pair.key key

-- or it has none
abbrev pub StandsOnNone : Placed → Type 0
StandsOnNone cursor = (index : ℕ) (pair : Pair) (key : Key) → cursor.place ≡ Some index → slice_get cursor.pairs index ≡ Some pair → IsKey pair.key key → ⊥

-- the filter says that the block of this index has no entry of the user key, and the block's bound
-- is of another one
pub record DeniesKey (frame : Frame) (start : ℕ) (key : List ℕ) : Type 0 where
  pub place : Place
  pub bound : Key
  pub place_is : slice_get frame.places start ≡ Some place
  pub bound_is : IsKey place.key bound
  pub other : bound.user ≡ key → ⊥
  pub denied : TableDenies frame.filter place.handle.offset (hash_of key)

-- it says so of the first block that can have an entry of the user key up to this sequence number
pub record IsDenied (cmp : Cmp) (frame : Frame) (key : List ℕ) (sequence : ℕ) : Type 0 where
  pub target : List ℕ
  pub start : ℕ
  pub target_is : IsFirstKey key sequence target
  pub start_is : IsFirstPlace cmp target frame.places start
  pub denies : DeniesKey frame start key

-- ---- refusals

-- the file is no table of this edit
abbrev pub IsNoTable : Cmp → PlacedTable → List ℕ → Type 0
IsNoTable cmp placed file = (entries : List InternalEntry) → IsTable cmp file entries → HasKeysOf placed entries → ⊥

-- a block of the frame isn't supported, or a data block has more bytes than those that are read
abbrev pub IsTablePastLimit : Cmp → List ℕ → Type 0
IsTablePastLimit cmp file = IsFrameUnsupported file ⊎ ((frame : Frame) × IsFrame cmp file frame × AnyLong (handles frame))
