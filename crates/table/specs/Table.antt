-- A table file as the list of its entries (LevelDB's doc/table_format.md).
use Rattle.std.specs.Prelude.{◌≡◌, ◌<◌, ◌⊎◌, ℕ, List, [], ◌∷◌, Option, Some, None, length}
use Rattle.std.specs.List.{AllByRecursion, flat_map}
use Rattle.std.specs.declared.cmp.Ordering.{Ordering}
use Rattle.block.specs.Block.{IsBlock, AreAbove}
use Rattle.filter.specs.Blocks.{BlockAdmits}
use Rattle.filter.specs.Hash.{hash_of}
use Rattle.ikey.specs.Below.{IsBelowInternal}
use Rattle.ikey.specs.Entries.{InternalEntry, Pair, IsPair}
use Rattle.ikey.specs.Keys.{Key, IsKey}
use Rattle.table.specs.Stored.{IsStored}
use Rattle.table.specs.declared.handle.Handle.{Handle}
use Rattle.table.specs.declared.handle.Place.{Place}
use Rattle.table.specs.Frame.{Frame, IsFrame}

-- ---- data blocks

-- the file has the data block of these pairs at this handle
abbrev pub HasBlock : (List ℕ → List ℕ → Ordering) → List ℕ → Handle → List Pair → Type 0
HasBlock cmp file handle pairs = (block : List ℕ) × IsStored file handle block × IsBlock (IsBelowInternal cmp) block pairs

-- the data blocks in the order of their places
abbrev pub AreData : (List ℕ → List ℕ → Ordering) → List ℕ → List Place → List (List Pair) → Type 0
AreData cmp file [] [] = Unit {0}
AreData cmp file (place ∷ places) (pairs ∷ others) = HasBlock cmp file place.handle pairs × AreData cmp file places others
AreData cmp file places blocks = ⊥

-- ---- bounds

-- one of two internal keys isn't above the other
abbrev pub IsAtMost : (List ℕ → List ℕ → Ordering) → List ℕ → List ℕ → Type 0
IsAtMost cmp a b = (a ≡ b) ⊎ IsBelowInternal cmp a b

-- no key of a block is above its bound, and each key of the next block is
abbrev pub IsBound : (List ℕ → List ℕ → Ordering) → List ℕ → List Pair → List (List Pair) → Type 0
IsBound cmp bound pairs [] = AllByRecursion (λ (pair : Pair). IsAtMost cmp pair.key bound) pairs
IsBound cmp bound pairs (next ∷ others) =
    AllByRecursion (λ (pair : Pair). IsAtMost cmp pair.key bound) pairs × AllByRecursion (λ (pair : Pair). IsBelowInternal cmp bound pair.key) next

abbrev pub AreBounds : (List ℕ → List ℕ → Ordering) → List Place → List (List Pair) → Type 0
AreBounds cmp [] [] = Unit {0}
AreBounds cmp (place ∷ places) (pairs ∷ others) = IsBound cmp place.key pairs others × AreBounds cmp places others
AreBounds cmp places blocks = ⊥

-- ---- filters

-- the filter block admits the user key of each pair of the block at an offset
abbrev pub AdmitsAll : List ℕ → ℕ → List Pair → Type 0
AdmitsAll filter offset pairs = AllByRecursion (λ (pair : Pair). (key : Key) → IsKey pair.key key → BlockAdmits filter offset (hash_of key.user)) pairs

-- each filter admits every user key that it covers
abbrev pub AreAdmitted : Option (List ℕ) → List Place → List (List Pair) → Type 0
AreAdmitted None places blocks = Unit {0}
AreAdmitted (Some filter) (place ∷ places) (pairs ∷ others) = AdmitsAll filter place.handle.offset pairs × AreAdmitted (Some filter) places others
AreAdmitted (Some filter) places blocks = Unit {0}

-- ---- tables

-- each pair is an entry
abbrev pub ArePairs : List Pair → List InternalEntry → Type 0
ArePairs [] [] = Unit {0}
ArePairs (pair ∷ pairs) (entry ∷ entries) = IsPair pair entry × ArePairs pairs entries
ArePairs pairs entries = ⊥

-- After this frame the file has these entries: those of its data blocks joined, at least one,
-- rising strictly, each within the bounds of its block and admitted by its filter.
pub record IsFilled (cmp : List ℕ → List ℕ → Ordering) (file : List ℕ) (frame : Frame) (entries : List InternalEntry) : Type 0 where
  pub blocks : List (List Pair)
  pub data_is : AreData cmp file frame.places blocks
  pub bounds : AreBounds cmp frame.places blocks
  pub entries_are : ArePairs (flat_map (λ (pairs : List Pair). pairs) blocks) entries
  pub some : 0 < length entries
  pub rises : AreAbove (IsBelowInternal cmp) None (flat_map (λ (pairs : List Pair). pairs) blocks)
  pub admitted : AreAdmitted frame.filter frame.places blocks

-- the file is the table of these entries
abbrev pub IsTable : (List ℕ → List ℕ → Ordering) → List ℕ → List InternalEntry → Type 0
IsTable cmp file entries = (frame : Frame) × IsFrame cmp file frame × IsFilled cmp file frame entries

-- ---- laws

-- no file is two tables
abbrev pub OneTable : Type 0
OneTable = (cmp : List ℕ → List ℕ → Ordering) (file : List ℕ) (entries others : List InternalEntry) → IsTable cmp file entries → IsTable cmp file others → entries ≡ others
