-- What of a table's bytes is refused: what isn't supported, and what is damaged.
use Rattle.std.specs.Prelude.{◌≡◌, ◌≢◌, ◌<◌, ◌≤◌, ◌+◌, ◌⊎◌, ℕ, List, [], ◌∷◌, ◌++◌, Option, Some, length, take, drop, slice_index_or}
use Rattle.std.specs.List.{AllByRecursion, flat_map}
use Rattle.std.specs.declared.cmp.Ordering.{Ordering}
use Rattle.ikey.specs.Below.{IsBelowInternal}
use Rattle.ikey.specs.Entries.{Pair}
use Rattle.table.specs.declared.handle.Handle.{Handle}
use Rattle.table.specs.declared.handle.Place.{Place}
use Rattle.table.specs.Checking.{IsRight}
use Rattle.table.specs.Frame.{Frame, HasFooter, HasMetaindex, HasFilter, IsFrame, IsLongBlock}
use Rattle.table.specs.Stored.{trailer_of_type, end_of}
use Rattle.table.specs.Table.{HasBlock, AreData}

-- ---- one block

-- from the handle's offset on, the file has a block of another type than 0, with the right checksum
pub record HasOtherType (file : List ℕ) (handle : Handle) : Type 0 where
  pub kind : ℕ
  pub other : kind ≢ 0
  pub block : List ℕ
  pub size : length block ≡ handle.size
  pub parts : take (handle.size + 5) (drop handle.offset file) ≡ block ++ trailer_of_type kind block

-- the file has all bytes of the block, and it is longer than those that are read, or of another
-- type
abbrev pub IsUnsupported : List ℕ → Handle → Type 0
IsUnsupported file handle = ((end_of handle ≤ length file) × IsLongBlock handle) ⊎ HasOtherType file handle

-- there is no data block, nor one that isn't supported
abbrev pub IsDamaged : (List ℕ → List ℕ → Ordering) → List ℕ → Handle → Type 0
IsDamaged cmp file handle = ((pairs : List Pair) → HasBlock cmp file handle pairs → ⊥) × (IsUnsupported file handle → ⊥)

-- ---- all data blocks

-- this is so of one of the blocks
abbrev pub IsOfOne : (Handle → Type 0) → List Place → Type 0
IsOfOne is [] = ⊥
IsOfOne is (place ∷ places) = is place.handle ⊎ IsOfOne is places

-- One of the blocks is damaged, or one of its pairs isn't right. `previous` is the bound of the
-- block before the first.
abbrev pub IsWrong : (List ℕ → List ℕ → Ordering) → List ℕ → Option (List ℕ) → Option (List ℕ) → List Place → Type 0
IsWrong cmp file filter previous [] = ⊥
IsWrong cmp file filter previous (place ∷ places) =
    IsDamaged cmp file place.handle
    ⊎ ((pairs : List Pair) × HasBlock cmp file place.handle pairs × (AllByRecursion (IsRight cmp filter previous place) pairs → ⊥))
    ⊎ IsWrong cmp file filter (Some place.key) places

-- the blocks have no pair
abbrev pub AreEmpty : (List ℕ → List ℕ → Ordering) → List ℕ → List Place → Type 0
AreEmpty cmp file places = (blocks : List (List Pair)) × AreData cmp file places blocks × (flat_map (λ (pairs : List Pair). pairs) blocks ≡ [])

-- The block of this index is the first that can have the target: its key isn't below it, and that
-- of the one before is.
pub record IsFirstPlace (cmp : List ℕ → List ℕ → Ordering) (target : List ℕ) (places : List Place) (index : ℕ) : Type 0 where
  pub inside : index ≤ length places
  pub front : (i : ℕ) (d : Place) → index ≡ i + 1 → IsBelowInternal cmp (slice_index_or places i d).key target
  pub found : (d : Place) → index < length places → IsBelowInternal cmp (slice_index_or places index d).key target → ⊥

-- this is so of a block from there on
abbrev pub IsOfOneFrom : (List ℕ → List ℕ → Ordering) → List ℕ → (Handle → Type 0) → List Place → Type 0
IsOfOneFrom cmp target is places = (index : ℕ) × IsFirstPlace cmp target places index × IsOfOne is (drop index places)

-- ---- the frame

-- the metaindex isn't supported, or the filter block that it names
abbrev pub IsFilterUnsupported : List ℕ → Handle → Type 0
IsFilterUnsupported file metaindex =
    IsUnsupported file metaindex ⊎ ((handle : Handle) × HasMetaindex file metaindex (Some handle) × IsUnsupported file handle)

-- Of metaindex, filter block and index the first that isn't read isn't supported.
pub record IsFrameUnsupported (file : List ℕ) : Type 0 where
  pub before : ℕ
  pub metaindex : Handle
  pub index : Handle
  pub footer : HasFooter file before metaindex index
  pub which : IsFilterUnsupported file metaindex
      ⊎ ((handle : Option Handle) × (filter : Option (List ℕ)) × HasMetaindex file metaindex handle × HasFilter file handle filter × IsUnsupported file index)

-- there is no frame, nor one that isn't supported
abbrev pub IsFrameDamaged : (List ℕ → List ℕ → Ordering) → List ℕ → Type 0
IsFrameDamaged cmp file = ((frame : Frame) → IsFrame cmp file frame → ⊥) × (IsFrameUnsupported file → ⊥)
