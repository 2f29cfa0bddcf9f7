-- What holds a table together: footer, metaindex, filter block and index (LevelDB's
-- doc/table_format.md).
use Rattle.std.specs.Prelude.{◌≡◌, ◌≢◌, ◌<◌, ◌≤◌, ◌-◌, ◌^◌, ◌⊎◌, ℕ, List, [], ◌∷◌, ◌++◌, Option, Some, None, length, map, replicate, codes}
use Rattle.std.specs.List.{AllByRecursion}
use Rattle.std.specs.declared.cmp.Ordering.{Ordering}
use Rattle.block.specs.Block.{IsBlock}
use Rattle.coding.specs.Spelling.{InTurn}
use Rattle.filter.specs.Blocks.{IsFilterBlock, BlockAdmits, BlockDenies}
use Rattle.ikey.specs.Below.{IsBelowPlain, IsBelowInternal}
use Rattle.ikey.specs.Entries as entries
use Rattle.table.specs.declared.handle.Handle.{Handle}
use Rattle.table.specs.declared.handle.Place.{Place}
use Rattle.table.specs.Stored.{IsHandle, IsStored, AreSeparate}

-- ---- footer

abbrev pub magic : List ℕ
magic = 0x57 ∷ 0xFB ∷ 0x80 ∷ 0x8B ∷ 0x24 ∷ 0x75 ∷ 0x47 ∷ 0xDB ∷ []

-- the handles of metaindex and index, zeros up to 40 bytes, and the magic number
pub record IsFooter (footer : List ℕ) (metaindex index : Handle) : Type 0 where
  pub handles : List ℕ
  pub handles_are : InTurn IsHandle IsHandle handles (metaindex, index)
  pub room : length handles ≤ 40
  pub parts : footer ≡ handles ++ (replicate (40 - length handles) 0 ++ magic)

-- the file ends with the footer of these handles, before which it has so many bytes
pub record HasFooter (file : List ℕ) (before : ℕ) (metaindex index : Handle) : Type 0 where
  pub body : List ℕ
  pub footer : List ℕ
  pub parts : file ≡ body ++ footer
  pub before_is : length body ≡ before
  pub footer_is : IsFooter footer metaindex index

-- ---- metaindex and filter block

abbrev pub filter_name : List ℕ
filter_name = codes "filter.leveldb.BuiltinBloomFilter2"

abbrev pub HasOtherNames : List entries.Pair → Type 0
HasOtherNames pairs = AllByRecursion (λ (pair : entries.Pair). pair.key ≢ filter_name) pairs

-- the metaindex names this filter block, or none; other names count for nothing
abbrev pub NamesFilter : List entries.Pair → Option Handle → Type 0
NamesFilter pairs None = HasOtherNames pairs
NamesFilter pairs (Some handle) =
    (front : List entries.Pair) × (back : List entries.Pair) × (value : List ℕ) × HasOtherNames front × IsHandle value handle
    × (pairs ≡ front ++ record { key = filter_name; value = value } ∷ back)

-- the file's metaindex, in the plain order of byte strings, names this filter block, or none
abbrev pub HasMetaindex : List ℕ → Handle → Option Handle → Type 0
HasMetaindex file metaindex filter =
    (block : List ℕ) × (pairs : List entries.Pair) × IsStored file metaindex block × IsBlock IsBelowPlain block pairs × NamesFilter pairs filter

-- the file has the filter block that is named
abbrev pub HasFilter : List ℕ → Option Handle → Option (List ℕ) → Type 0
HasFilter file None None = Unit {0}
HasFilter file (Some handle) (Some block) = IsStored file handle block × IsFilterBlock block
HasFilter file handle block = ⊥

abbrev pub handles_of : Option Handle → List Handle
handles_of None = []
handles_of (Some handle) = handle ∷ []

-- ---- index

-- the pairs of the index block are these places: a key that bounds a data block, and its handle
abbrev pub ArePlaces : List entries.Pair → List Place → Type 0
ArePlaces [] [] = Unit {0}
ArePlaces (pair ∷ pairs) (place ∷ places) = (pair.key ≡ place.key) × IsHandle pair.value place.handle × ArePlaces pairs places
ArePlaces pairs places = ⊥

-- the file's index, in the order of internal keys, has these places
abbrev pub HasIndex : (List ℕ → List ℕ → Ordering) → List ℕ → Handle → List Place → Type 0
HasIndex cmp file index places =
    (block : List ℕ) × (pairs : List entries.Pair) × IsStored file index block × IsBlock (IsBelowInternal cmp) block pairs × ArePlaces pairs places

-- ---- all of it

-- a table as it is opened: its index, and its filter block if it has one
pub record Frame : Type 0 where
  pub places : List Place
  pub filter : Option (List ℕ)

-- where the data blocks are
abbrev pub handles : Frame → List Handle
handles frame = map (λ (place : Place). place.handle) frame.places

-- the file has this frame, and no block of it reaches into the footer or into another
pub record IsFrame (cmp : List ℕ → List ℕ → Ordering) (file : List ℕ) (frame : Frame) : Type 0 where
  pub before : ℕ
  pub metaindex : Handle
  pub index : Handle
  pub filter_handle : Option Handle
  pub footer : HasFooter file before metaindex index
  pub metaindex_is : HasMetaindex file metaindex filter_handle
  pub index_is : HasIndex cmp file index frame.places
  pub filter_is : HasFilter file filter_handle frame.filter
  pub separate : AreSeparate before (metaindex ∷ index ∷ (handles_of filter_handle ++ handles frame))

-- ---- the limit on what is read

-- the block has more bytes than those that are read
abbrev pub IsLongBlock : Handle → Type 0
IsLongBlock handle = 2 ^ 30 < handle.size

-- one of the blocks has
abbrev pub AnyLong : List Handle → Type 0
AnyLong [] = ⊥
AnyLong (handle ∷ handles) = IsLongBlock handle ⊎ AnyLong handles

-- one of the blocks that hold the table together has
abbrev pub IsOversized : (cmp : List ℕ → List ℕ → Ordering) (file : List ℕ) (frame : Frame) → IsFrame cmp file frame → Type 0
IsOversized cmp file frame is = AnyLong (is.metaindex ∷ is.index ∷ handles_of is.filter_handle)

-- a table that is open: the name of its file, how many bytes stand before the footer, and what was
-- read of it
pub record Opened : Type 0 where
  pub name : List ℕ
  pub before : ℕ
  pub frame : Frame

-- ---- the filter's answers

-- what a table says of a user key in the data block at an offset, by the key's hash: without a
-- filter block it admits all
abbrev pub TableAdmits : Option (List ℕ) → ℕ → ℕ → Type 0
TableAdmits None offset h = Unit {0}
TableAdmits (Some filter) offset h = BlockAdmits filter offset h

abbrev pub TableDenies : Option (List ℕ) → ℕ → ℕ → Type 0
TableDenies None offset h = ⊥
TableDenies (Some filter) offset h = BlockDenies filter offset h
