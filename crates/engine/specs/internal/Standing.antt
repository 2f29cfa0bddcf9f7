-- Which states of the machine an open database may be in, and which a directory at rest.
use Rattle.std.specs.Prelude.{ℕ, List, ◌++◌, ◌≡◌, ◌≤◌, false, None, map, length, ◌<◌, ◌^◌, true, MatchBool, MatchOption, [], string_bytes}
use Rattle.store.specs.Files.{Facts, Files}
use Rattle.ikey.specs.Orders.{Order}
use Rattle.engine.specs.declared.ids.Ids.{Ids}
use Rattle.machine.specs.Machine.{Machine, current, entry_count, weight}
use Rattle.engine.specs.OpenDb.{OpenDb, whole_of}
use Rattle.engine.specs.Origins.{ComesFrom}
use Rattle.table_access.specs.Tables.{Seen, IsSound, KeepsOf}
use Rattle.ikey.specs.declared.entry.Entry.{Entry}
use Rattle.memtables.specs.Memories.{logged_in}
use Rattle.recover.specs.Tables.{TableContent, tabled}
use Rattle.edits.specs.Names.{IsNumbered, name_of}
use Rattle.edits.specs.declared.names.FileName.TheVariants.{Log}
use Rattle.ikey.specs.Views.{Contents, IsView, AllUpTo}
use Rattle.versions.specs.Levels.{ListsSameTables, AreInOrder}
use Rattle.engine.specs.internal.Accounted.{AreAccounted}
use Rattle.engine.specs.internal.Compacting.{IsCompacting}
use Rattle.opening.specs.internal.Knowing.{HasLogs, KnowsDirectory}
use Rattle.opening.specs.internal.Directories.{CanAppend}
use Rattle.engine.specs.internal.Directory.{IsAtRest, IsReadable}
use Rattle.engine.specs.internal.Live.{AreSnapshots, AreWalks}
use Rattle.engine.specs.internal.Recent.{AreRecent}
use Rattle.engine.specs.internal.Synced.{IsSyncedBut}

-- all its entries, where its tables have these contents
abbrev pub entries_of : {K : Type 0} {g : _} → List TableContent → OpenDb K g → List Entry
entries_of tables db = tabled tables ++ logged_in db.memory

pub record HasCounts (facts : Facts) (m : Machine) : Type 0 where
  pub failures : m.failures ≡ facts.failures
  pub denials : m.denials ≡ facts.denials

-- these are the last ids given
abbrev pub HasIds : Ids → Machine → Type 0
HasIds ids m = (m.last_snapshot ≡ ids.snapshot) × (m.last_iterator ≡ ids.iterator)

-- The log that writes go to is the last of the directory, which has these tables, and whose logs
-- have the entries in memory.
pub record HasLog {K : Type 0} {g : _} (order : Order) (files : Files) (tables : List TableContent) (db : OpenDb K g) : Type 0 where
  pub named : string_bytes db.log.name ≡ name_of (Log db.log.number)
  pub directory : CanAppend order files db.log.number db.log.end tables (logged_in db.memory) db.memory.last
  pub logs : HasLogs directory.directory db.log.number db.memory
  pub knows : KnowsDirectory order files directory.directory db.log.number db.directory

-- The version is that of the directory's tables, and what is kept of them in memory is right, and
-- of tables whose numbers were drawn.
pub record HasTables {K : Type 0} {g : _} (order : Order) (source : Seen) (tables : List TableContent) (db : OpenDb K g) : Type 0 where
  pub version : ListsSameTables (map (λ (content : TableContent). content.placed) tables) db.tables
  pub in_order : AreInOrder order.cmp db.tables
  pub sound : IsSound order.cmp source
  pub drawn : (number : ℕ) → KeepsOf source number → IsNumbered number × (number < db.directory.numbers.next)

-- These entries are those of a map, after this many operations.
pub record HasEntries (entries : List Entry) (last : ℕ) (contents : Contents) (operations : ℕ) : Type 0 where
  pub used : operations ≡ last
  pub fits : last < 2 ^ 56
  pub view : IsView entries last contents
  pub bounded : AllUpTo last entries

-- An open database that isn't broken. Its directory is an undamaged one from which the files may
-- come; what is read of tables is read of the files.
pub record IsServing {K : Type 0} {g : _} (order : Order) (source : Seen) (db : OpenDb K g) (m : Machine) : Type 0 where
  pub whole : m.broken ≡ false
  pub certain : m.in_doubt ≡ None
  pub ideal : Files
  pub origin : ComesFrom order m.damaged source.facts.files ideal
  -- the contents of its tables
  pub contents : List TableContent
  pub log : HasLog order ideal contents db
  pub tables : HasTables order source contents db
  pub entries : HasEntries (entries_of contents db) db.memory.last (current m) m.used
  pub snapshots : AreSnapshots (entries_of contents db) db.memory.last m db.snapshots
  pub iterators : AreWalks order.cmp (whole_of source db) m db.iterators
  pub accounted : AreAccounted (entries_of contents db) (entry_count m) (weight m)
  pub readable : IsReadable order ideal m
  pub numbers : db.directory.numbers.next ≤ m.numbers
  pub synced : IsSyncedBut source.facts db.log db.directory db.tables
  pub recent : AreRecent source.facts db.directory.manifest.number contents (entries_of contents db) log.directory.directory.logs m
  pub job : MatchOption db.job (Unit {0}) (IsCompacting order m.damaged (whole_of source db) ideal db.directory.numbers.next db.snapshots db.iterators log.directory.directory)

-- A broken one: its directory is what counts from now on.
pub record IsBroken (order : Order) (files : Files) (m : Machine) : Type 0 where
  pub broken : m.broken ≡ true
  pub rest : IsAtRest order files m

pub record StandsOpen {K : Type 0} {g : _} (order : Order) (source : Seen) (given : Ids) (db : OpenDb K g) (m : Machine) : Type 0 where
  pub counts : HasCounts source.facts m
  pub ids : HasIds given m
  -- what is synced was accepted
  pub reached : m.synced ≤ length m.batches
  pub opened : m.opened ≡ true
  pub rest : MatchBool db.broken (IsBroken order source.facts.files m) (IsServing order source db m)

-- So it may be in a state without damage.
pub record StandsWhole {K : Type 0} {g : _} (order : Order) (source : Seen) (given : Ids) (db : OpenDb K g) (m : Machine) : Type 0 where
  pub stands : StandsOpen order source given db m
  pub undamaged : m.damaged ≡ false

-- no snapshot and no iterator is live
abbrev pub HasNoViews : Machine → Type 0
HasNoViews m = (m.snapshots ≡ []) × (m.iterators ≡ [])

pub record StandsClosed (order : Order) (facts : Facts) (given : Ids) (m : Machine) : Type 0 where
  pub counts : HasCounts facts m
  pub ids : HasIds given m
  -- what is synced was accepted
  pub reached : m.synced ≤ length m.batches
  pub opened : m.opened ≡ false
  pub broken : m.broken ≡ false
  pub views : HasNoViews m
  pub rest : IsAtRest order facts.files m
