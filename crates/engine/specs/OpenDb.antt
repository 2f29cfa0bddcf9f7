-- What an open database answers from.
use Rattle.std.specs.Prelude.{ℕ, Bool, List, Option}
use Rattle.std.specs.BTreeMap.{BTreeMap}
use Rattle.edits.specs.declared.field.PlacedTable.{PlacedTable}
use Rattle.running_job.specs.declared.open_job.OpenJob.{OpenJob}
use Rattle.memtables.specs.Memories.{Memories}
use Rattle.db_cursor.specs.Whole.{Whole}
use Rattle.db_cursor.specs.declared.scan.Scan.{Scan}
use Rattle.table_access.specs.Tables.{Seen}
use Rattle.versions.specs.Levels.{Placement}
use Rattle.opening.specs.declared.directory.DirectoryState.{DirectoryState}
use Rattle.opening.specs.declared.directory.CurrentLog.{CurrentLog}
use Rattle.engine.specs.declared.state.DbState.{DbState}

-- Its memtables, the tables of its version and the compact pointers, the log that writes go to, and
-- what it knows of its directory beside. The compaction that is under way, if one is, the last
-- sequence number that each live snapshot sees, the open iterators, and whether it is broken.
pub record OpenDb (K : Type 0) (g : _) : Type 0 where
  pub memory : Memories
  pub tables : List PlacedTable
  pub compact_pointers : List (Option (List ℕ))
  pub log : CurrentLog
  pub directory : DirectoryState
  pub job : Option (OpenJob K g)
  pub snapshots : BTreeMap ℕ ℕ
  pub iterators : BTreeMap ℕ (Scan K g)
  pub broken : Bool

-- a database beside its memtables
abbrev pub open_db : {K : Type 0} {g : _} → Memories → DbState K g → OpenDb K g
open_db memory state = record {
  memory = memory;
  tables = state.version.value.tables;
  compact_pointers = state.version.value.compact_pointers;
  log = state.log;
  directory = state.directory;
  job = state.job;
  snapshots = state.snapshots;
  iterators = state.iterators;
  broken = state.broken;
}

-- its version
abbrev pub version_of : {K : Type 0} {g : _} → OpenDb K g → Placement
version_of db = record { tables = db.tables; compact_pointers = db.compact_pointers }

-- what its reads go over: its store with what is kept of its tables, and its memtables
abbrev pub whole_of : {K : Type 0} {g : _} → Seen → OpenDb K g → Whole
whole_of source db = record { seen = source; memory = db.memory }
