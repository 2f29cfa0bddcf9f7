-- What a reader answers from: the map of a directory at its last sequence number.
use Rattle.std.specs.Prelude.{◌≡◌, ◌++◌, List, IsTrue}
use Rattle.ikey.specs.Orders.{Order}
use Rattle.ikey.specs.Sources.{IsNewerThan, joined}
use Rattle.ikey.specs.Views.{Contents, IsView}
use Rattle.edits.specs.declared.field.PlacedTable.{PlacedTable}
use Rattle.memtables.specs.Memories.{logged_in}
use Rattle.recover.specs.Directory.{Directory, IsConsistent, entries_in, used_in}
use Rattle.recover.specs.Logs.{logged}
use Rattle.recover.specs.Reading.{Recovers}
use Rattle.recover.specs.declared.reading.Recovered.{Recovered}
use Rattle.store.specs.Files.{Files}
use Rattle.recover.specs.Tables.{TableContent}
use Rattle.versions.specs.Levels.{ListsSameTables, AreInOrder}
use Rattle.table_access.specs.Possible.{MayBeTable}
use Rattle.table_access.specs.Tables.{IsSound}
use Rattle.version_laws.specs.Places.{MayHaveVersion, table_sources}
use Rattle.db_cursor.specs.Whole.{Whole}

-- The files are a consistent directory, whose tables these are, and whose logs' entries are in
-- memory. What is kept of its tables is right. And this is what all its entries put, up to the last
-- sequence number used.
pub record Shows (order : Order) (whole : Whole) (tables : List PlacedTable) (map : Contents) : Type 0 where
  pub directory : Directory
  pub consistent : IsConsistent order whole.seen.facts.files directory
  pub version : ListsSameTables directory.layout.tables.items tables
  pub in_order : AreInOrder order.cmp tables
  pub sound : IsSound order.cmp whole.seen
  pub logs : logged_in whole.memory ≡ logged directory.logs
  pub last : whole.memory.last ≡ used_in directory
  pub view : IsView (entries_in directory) (used_in directory) map

-- As far as their blocks tell, the files may be tables of these; what is in memory is newer than
-- they. What is kept of them is right. And this is what the entries that they may have, and those
-- in memory, put up to the last sequence number used.
pub record MayShow (order : Order) (whole : Whole) (tables : List PlacedTable) (map : Contents) : Type 0 where
  pub contents : List TableContent
  pub sound : IsSound order.cmp whole.seen
  pub may : MayHaveVersion (MayBeTable order.cmp) order whole.seen.facts.files tables contents
  pub newer : IsNewerThan (logged_in whole.memory) (joined (table_sources contents))
  pub view : IsView (logged_in whole.memory ++ joined (table_sources contents)) whole.memory.last map

-- What was read of these files, whatever their tables hold: the directory's tables are listed, its
-- logs' entries are in memory, and what is kept of tables is right.
pub record HoldsRead (order : Order) (files : Files) (whole : Whole) (tables : List PlacedTable) : Type 0 where
  pub recovered : Recovered
  pub read : Recovers order files recovered
  pub same : whole.seen.facts.files ≡ files
  pub listed : ListsSameTables recovered.layout.tables.items tables
  pub in_order : AreInOrder order.cmp tables
  pub sound : IsSound order.cmp whole.seen
  pub logs : logged_in whole.memory ≡ recovered.entries.items
  pub last : whole.memory.last ≡ recovered.used

-- no map is what is shown
abbrev pub ShowsNone : Order → Whole → List PlacedTable → Type 0
ShowsNone order whole tables = (map : Contents) → Shows order whole tables map → ⊥

-- While the store is faithful, a call leaves each map that is shown.
abbrev pub KeepsShown : Order → List PlacedTable → Whole → Whole → Type 0
KeepsShown order tables old new = IsTrue new.seen.facts.faithful → (map : Contents) → Shows order old tables map → Shows order new tables map

-- While the store is faithful, a call leaves each map that may be shown.
abbrev pub KeepsMayShow : Order → List PlacedTable → Whole → Whole → Type 0
KeepsMayShow order tables old new = IsTrue new.seen.facts.faithful → (map : Contents) → MayShow order old tables map → MayShow order new tables map
