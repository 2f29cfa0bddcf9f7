-- What the calls that write a table do to a store, and when they refuse.
use Rattle.std.specs.Prelude.{◌≡◌, ◌≢◌, ◌<◌, ◌≤◌, ◌+◌, ◌^◌, ◌⊎◌, ℕ, List, [], ◌∷◌, ◌++◌, Some, length, IsTrue}
use Rattle.std.specs.FinMap.{get}
use Rattle.std.specs.declared.cmp.Ordering.{Ordering}
use Rattle.block.specs.Block.{IsBlock}
use Rattle.block.specs.Written.{last_key}
use Rattle.coding.specs.declared.error.DbError.{DbError}
use Rattle.coding.specs.declared.error.DbError.TheVariants.{OutOfMemory, Io, Unsupported}
use Rattle.filter.specs.Builder.{IsWritten}
use Rattle.ikey.specs.Below.{IsBelowPlain}
use Rattle.ikey.specs.Entries.{InternalEntry, Pair}
use Rattle.store.specs.Calls.{FailsAsWrite}
use Rattle.store.specs.Files.{Files, Synced, Facts}
use Rattle.store.specs.Stops.{WritesOnly}
use Rattle.table.specs.Building.{Building, AddsAllHashes, data_length, index_length}
use Rattle.table.specs.Frame.{Frame, IsFrame, IsFooter, IsOversized, AnyLong, filter_name, handles}
use Rattle.table.specs.Stored.{IsHandle, stored}
use Rattle.table.specs.Table.{IsFilled, ArePairs}

-- ---- the store

-- but for the file of this name, the files are as before
abbrev pub KeepsOthers : Files → Files → List ℕ → Type 0
KeepsOthers old new name = (other : List ℕ) → other ≢ name → get new other ≡ get old other

-- but for the file of this name, what is synced is as before
abbrev pub SyncsOnly : Synced → Synced → List ℕ → Type 0
SyncsOnly old new name = (other : List ℕ) → other ≢ name → new other ≡ old other

-- A call that writes this file alone. Once a store has returned something else than what was
-- written, that is so for good. The failures don't fall, each of them is a failed write, and the
-- lock is left alone. A process crash at any moment leaves the others too.
pub record Writes (old new : Facts) (name : List ℕ) : Type 0 where
  pub faithful : IsTrue new.faithful → IsTrue old.faithful
  pub failures : old.failures ≤ new.failures
  pub writes : FailsAsWrite old new
  pub denials : new.denials ≡ old.denials
  pub locked : new.locked ≡ old.locked
  pub others : IsTrue new.faithful → KeepsOthers old.files new.files name
  pub synced : IsTrue new.faithful → SyncsOnly old.synced new.synced name
  pub calls : IsTrue new.faithful → WritesOnly old new (λ (other : List ℕ). other ≡ name)

-- ---- refusals

-- Why a table isn't written on: out of memory, while no call of the store failed, or since one
-- failed. Or a block of it would be longer than those that are read, which is so only where this
-- fact holds.
abbrev pub WriteRefuses : DbError → Facts → Facts → Type 0 → Type 0
WriteRefuses OutOfMemory old new too_long = new.failures ≡ old.failures
WriteRefuses Io old new too_long = old.failures < new.failures
WriteRefuses (Unsupported what) old new too_long = too_long
WriteRefuses e old new too_long = ⊥

-- where a data block of these pairs is ended, the index would be too long
abbrev pub NeedsLongIndex : Building → List Pair → Type 0
NeedsLongIndex b pairs =
    (place : Pair) × (last_key pairs ≡ Some place.key) × IsHandle place.value (record { offset = b.offset; size = data_length pairs })
    × (2 ^ 30 < index_length (b.index ++ place ∷ []))

-- with one pair more the data block at hand would be too long, or the index where it is ended
abbrev pub NeedsLongBlock : Building → Pair → Type 0
NeedsLongBlock b pair = (2 ^ 30 < data_length (b.block ++ pair ∷ [])) ⊎ NeedsLongIndex b (b.block ++ pair ∷ [])

-- the index or the filter block of the whole table would be too long
abbrev pub NeedsLongEnds : Building → Type 0
NeedsLongEnds b = NeedsLongIndex b b.block ⊎ ((bytes : List ℕ) × IsWritten b.hashes bytes × (2 ^ 30 < length bytes))

-- ---- what is left

-- What stands after the data blocks, which end at this offset: filter block, metaindex, index and
-- footer.
pub record AreEnds (offset : ℕ) (filter index bytes : List ℕ) : Type 0 where
  pub metaindex : List ℕ
  pub value : List ℕ
  pub footer : List ℕ
  pub value_is : IsHandle value (record { offset = offset; size = length filter })
  pub metaindex_is : IsBlock IsBelowPlain metaindex (record { key = filter_name; value = value } ∷ [])
  pub metaindex_short : length metaindex ≤ 2 ^ 30
  pub footer_is : IsFooter footer
      (record { offset = offset + (length filter + 5); size = length metaindex })
      (record { offset = offset + (length filter + 5) + (length metaindex + 5); size = length index })
  pub parts : bytes ≡ stored filter ++ (stored metaindex ++ (stored index ++ footer))

-- The file is the table of these pairs, with the filter of their user keys, a key once for each of
-- its pairs. None of its blocks is too long to be read.
pub record IsTableOf (cmp : List ℕ → List ℕ → Ordering) (file : List ℕ) (pairs : List Pair) : Type 0 where
  pub entries : List InternalEntry
  pub pairs_are : ArePairs pairs entries
  pub frame : Frame
  pub frame_is : IsFrame cmp file frame
  pub filled : IsFilled cmp file frame entries
  pub hashes : List (List ℕ)
  pub hashed : AddsAllHashes [] frame.places filled.blocks hashes
  pub filter : List ℕ
  pub filter_is : frame.filter ≡ Some filter
  pub filter_written : IsWritten hashes filter
  pub ends_short : IsOversized cmp file frame frame_is → ⊥
  pub data_short : AnyLong (handles frame) → ⊥
