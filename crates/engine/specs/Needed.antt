-- What a compaction of all tables leaves of their entries (LevelDB's doc/impl.md, "Compactions").
use Rattle.std.specs.Prelude.{◌≡◌, ℕ, Bool, false, IsTrue, List, [], ◌∷◌, Contains}
use Rattle.std.specs.Map.{values_of}
use Rattle.compact.specs.Laws.{ArePairsOf}
use Rattle.compact.specs.Needed.{AreNeeded}
use Rattle.ikey.specs.Orders.{Order}
use Rattle.running_job.specs.declared.open_job.OpenJob.{OpenJob}
use Rattle.recover.specs.Directory.{Directory, IsConsistent}
use Rattle.recover.specs.Tables.{tabled}
use Rattle.table_access.specs.Tables.{Seen}
use Rattle.store.specs.Files.{Files}
use Rattle.engine.specs.declared.ids.Ids.{Ids}
use Rattle.engine.specs.OpenDb.{OpenDb}
use Rattle.machine.specs.Machine.{Machine, current}
use Rattle.engine.specs.internal.Standing.{StandsWhole}

-- the sequence numbers that are read at: the last one used, and those of the live snapshots
abbrev pub live_sequences : {K : Type 0} {g : _} → OpenDb K g → List ℕ
live_sequences db = db.memory.last ∷ values_of db.snapshots.entries

-- The compaction keeps the views of exactly those sequence numbers.
pub record IsForLive {K : Type 0} {g : _} (work : OpenJob K g) (db : OpenDb K g) : Type 0 where
  pub each : (sequence : ℕ) → Contains (live_sequences db) sequence → Contains work.job.selection.snapshots sequence
  pub only : (sequence : ℕ) → Contains work.job.selection.snapshots sequence → Contains (live_sequences db) sequence

-- no level lies below the last one
abbrev pub none_below : List ℕ → Bool
none_below key = false

-- ---- what is left

-- The files are a directory, and of the entries of its tables those that must be kept for these
-- sequence numbers are all of them.
pub record HasNeeded (order : Order) (files : Files) (sequences : List ℕ) : Type 0 where
  pub directory : Directory
  pub consistent : IsConsistent order files directory
  pub needed : AreNeeded (tabled directory.tables) sequences none_below (tabled directory.tables)

-- The same holds for the sequence numbers that are read at; and without a snapshot the entries are
-- the pairs of the machine's map, one put each.
pub record HasOnlyNeeded {K : Type 0} {g : _} (order : Order) (files : Files) (db : OpenDb K g) (m : Machine) : Type 0 where
  pub tables : HasNeeded order files (live_sequences db)
  pub pairs : m.snapshots ≡ [] → ArePairsOf (current m) (tabled tables.directory.tables)

-- While the store is faithful, that is what a call leaves, for each state of the machine that the
-- database could be in before.
abbrev pub LeavesNeeded : {K : Type 0} {g : _} → Order → Seen → Seen → OpenDb K g → OpenDb K g → Type 0
LeavesNeeded order old new before after = IsTrue new.facts.faithful → (ids : Ids) (m : Machine) → StandsWhole order old ids before m → HasOnlyNeeded order new.facts.files after m
