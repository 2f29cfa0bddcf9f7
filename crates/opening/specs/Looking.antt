-- What a look at a directory finds, and why it ends (LevelDB's db/db_impl.cc, DBImpl::Recover).
use Rattle.std.specs.Prelude.{◌≡◌, ◌<◌, ◌≤◌, ◌^◌, ℕ, List, [], Option, Some, None}
use Rattle.coding.specs.declared.error.DbError.{DbError}
use Rattle.store.specs.Files.{Facts, Files}
use Rattle.ikey.specs.Orders.{Order}
use Rattle.ikey.specs.declared.entry.Entry.{Entry}
use Rattle.memtables.specs.Memories.{Memories, sealed_inserts}
use Rattle.edits.specs.Snapshot.{IsKept}
use Rattle.recover.specs.Directory.{IsEmpty}
use Rattle.recover.specs.Entries.{RiseAbove, greatest}
use Rattle.recover.specs.Ranges.{HaveRanges}
use Rattle.recover.specs.Reading.{Recovers, RefusesDirectory, IsBeyondReading, IsInconsistent}
use Rattle.recover.specs.declared.reading.Recovered.{Recovered}

-- The directory is empty, or this was read of its MANIFEST and its logs. No table was, so that it
-- needn't be consistent.
abbrev pub IsFound : Order → Files → Option Recovered → Type 0
IsFound order files None = IsEmpty files
IsFound order files (Some recovered) = Recovers order files recovered

-- What anything that was read keeps to, over any store.
pub record IsProper (order : Order) (recovered : Recovered) : Type 0 where
  pub kept : IsKept recovered.layout
  pub ranges : HaveRanges order recovered.layout.tables.items
  pub numbered : 0 < recovered.next_number
  pub sequence : recovered.used < 2 ^ 56
  pub rising : RiseAbove 0 recovered.entries.items
  pub bounded : greatest recovered.entries.items ≤ recovered.used

-- the files are neither an empty directory nor a consistent one
abbrev pub IsDamaged : Order → Files → Type 0
IsDamaged order files = (IsEmpty files → ⊥) × IsInconsistent order files

-- Why a look ends: out of memory, since the store failed, since the directory is damaged, or has
-- what isn't supported.
abbrev pub RefusesLook : Order → DbError → Facts → Facts → Type 0
RefusesLook order e old new = RefusesDirectory e old new (IsDamaged order old.files) (IsBeyondReading order old.files)

-- ---- what is in memory

-- The memory has these entries, sealed if there are some, and this last sequence number.
pub record IsSealedOf (memory : Memories) (entries : List Entry) (used : ℕ) : Type 0 where
  pub sealed : sealed_inserts memory ≡ entries
  pub unsealed : entries ≡ [] → memory.sealed ≡ None
  pub current : memory.current.inserts ≡ []
  pub last : memory.last ≡ used
