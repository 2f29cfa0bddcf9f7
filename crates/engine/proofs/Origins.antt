-- What is known of the undamaged directory from which the files of an open database may come.
use Rattle.std.proofs.Common.{◌≡◌, ◌⊎◌, ℕ, Bool, false, ◌≤◌, List, Some, None, MatchOption, map, inl, inr, sym, ap, subst, ◌∙◌, Contains}
use Rattle.std.specs.FinMap.{get}
use Rattle.std.specs.declared.cmp.Ordering.{Ordering}
use Rattle.db_cursor.proofs.Origins.{origin_left, origin_written}
use Rattle.db_cursor.proofs.Untorn.{intact_scan}
use Rattle.db_cursor.specs.Origins.{HaveOrigins}
use Rattle.db_cursor.specs.Whole.{Whole}
use Rattle.db_cursor.specs.declared.scan.Scan.{Scan}
use Rattle.directory_writes.proofs.SameChanges.{differs_after, one_change}
use Rattle.directory_writes.specs.Differing.{IsSameChange}
use Rattle.edits.specs.Names.{name_of}
use Rattle.edits.specs.declared.field.PlacedTable.{PlacedTable}
use Rattle.edits.specs.declared.names.FileName.TheVariants.{OldTable, Table}
use Rattle.ikey.specs.Orders.{Order}
use Rattle.machine.specs.Machine.{Machine, Walk, current, entry_count, weight}
use Rattle.reader.specs.internal.Iterators.{IsWalk, walked_of}
use Rattle.recover.specs.Directory.{Directory, IsConsistent}
use Rattle.recover.specs.Tables.{TableContent}
use Rattle.recover.specs.internal.Laws.{OneDirectoryLaw}
use Rattle.store.specs.Files.{Files}
use Rattle.table_access.specs.Tables.{Seen}
use Rattle.engine.specs.OpenDb.{OpenDb, whole_of}
use Rattle.engine.specs.Origins.{ComesFrom}
use Rattle.engine.specs.internal.Accounted.{AreAccounted}
use Rattle.engine.specs.internal.Compacting.{IsCompacting}
use Rattle.engine.specs.internal.Directory.{IsReadable}
use Rattle.engine.specs.internal.Live.{AreSnapshots, AreWalks, IsLiveWalk}
use Rattle.engine.specs.internal.Standing.{HasEntries, HasLog, HasTables, IsServing, entries_of}
use Rattle.engine.specs.internal.Recent.{AreRecent}
use Rattle.engine.specs.internal.Synced.{IsSyncedBut}
use Rattle.engine.proofs.Compacting.{all_contains}

-- ---- as the files change

-- a call that leaves the files leaves it
pub comes_same : (order : Order) (b : Bool) (old new ideal : Files) → new ≡ old → ComesFrom order b old ideal → ComesFrom order b new ideal
comes_same order b old new ideal same h = subst (λ (fs : Files). ComesFrom order b fs ideal) (sym same) h

-- the files of a table's two names stay
abbrev pub StaysUnder : Files → Files → ℕ → Type 0
StaysUnder old new number = (get new (name_of (Table number)) ≡ get old (name_of (Table number))) × (get new (name_of (OldTable number)) ≡ get old (name_of (OldTable number)))

-- a table has the same file in both, by its newer name
abbrev pub IsAlike : Files → Files → ℕ → Type 0
IsAlike new after number = (file : List ℕ) × (get new (name_of (Table number)) ≡ Some file) × (get after (name_of (Table number)) ≡ get new (name_of (Table number)))

-- The same change to both: where each table of what is left was there and stays, or has the same
-- file in both, the files come from that.
pub comes_on : (order : Order) (one : OneDirectoryLaw) (b : Bool) (old new ideal after : Files) (d e : Directory) → ComesFrom order b old ideal → IsSameChange old new ideal after
    → IsConsistent order ideal d → IsConsistent order after e
    → ((placed : PlacedTable) → Contains e.layout.tables.items placed → (Contains d.layout.tables.items placed × StaysUnder old new placed.table.number) ⊎ IsAlike new after placed.table.number)
    → ComesFrom order b new after
comes_on order one b old new ideal after d e from change before behind each = record {
  differs = differs_after old new ideal after from.differs change;
  origins = λ f good placed is.
      let same : f.layout.tables.items ≡ e.layout.tables.items = sym good.placed ∙ ap (λ (cs : List TableContent). map (λ (content : TableContent). content.placed) cs) (one order after f e good behind).3 ∙ behind.placed in
      elim (each placed (subst (λ (ps : List PlacedTable). Contains ps placed) same is)) [
        | inl kept ↦ origin_left order.cmp old new ideal after placed change.stays kept.1.0 kept.1.1 (from.origins d before placed kept.0)
        | inr alike ↦ origin_written order.cmp new after placed alike.0 alike.1 alike.2
      ];
  undamaged = λ is.
      let whole : ideal ≡ old = from.undamaged is in
      let other : IsSameChange old new old after = subst (λ (fs : Files). IsSameChange old new fs after) whole change in
      (one_change old new).2 old after new other (one_change old new).1;
}

-- ---- an open database

module _ {K : Type 0} {g : _} (order : Order) (source : Seen) (db : OpenDb K g) where
  -- the tables of its version come from those of the directory
  pub origins_of : (b : Bool) (ideal : Files) (contents : List TableContent) → ComesFrom order b source.facts.files ideal → HasLog order ideal contents db → HasTables order source contents db
      → HaveOrigins order.cmp source.facts.files ideal db.tables
  origins_of b ideal contents from log tables placed is =
      let a = log.directory in
      let listed : map (λ (content : TableContent). content.placed) contents ≡ a.directory.layout.tables.items =
      ap (λ (cs : List TableContent). map (λ (content : TableContent). content.placed) cs) a.in_tables ∙ a.consistent.placed in
      let at = all_contains (Contains (map (λ (content : TableContent). content.placed) contents)) db.tables placed tables.version.only is in
      from.origins a.directory a.consistent placed (subst (λ (ps : List PlacedTable). Contains ps placed) listed at)

  -- the same of one that serves
  pub origins_in : (m : Machine) (serving : IsServing order source db m) → HaveOrigins order.cmp source.facts.files serving.ideal db.tables
  origins_in m serving = origins_of m.damaged serving.ideal serving.contents serving.origin serving.log serving.tables

-- What is said of one that serves, over a directory that is named.
pub record ServesOver {K : Type 0} {g : _} (order : Order) (source : Seen) (db : OpenDb K g) (m : Machine) (ideal : Files) : Type 0 where
  pub whole : m.broken ≡ false
  pub certain : m.in_doubt ≡ None
  pub origin : ComesFrom order m.damaged source.facts.files ideal
  pub contents : List TableContent
  pub log : HasLog order ideal contents db
  pub tables : HasTables order source contents db
  pub entries : HasEntries (entries_of contents db) db.memory.last (current m) m.used
  pub snapshots : AreSnapshots (entries_of contents db) db.memory.last m db.snapshots
  pub iterators : AreWalks order.cmp (whole_of source db) m db.iterators
  pub accounted : AreAccounted (entries_of contents db) (entry_count m) (weight m)
  pub readable : IsReadable order ideal m
  pub numbers : db.directory.numbers.next ≤ m.numbers
  pub synced : IsSyncedBut source.facts db.log db.directory db.tables
  pub recent : AreRecent source.facts db.directory.manifest.number contents (entries_of contents db) log.directory.directory.logs m
  pub job : MatchOption db.job (Unit {0}) (IsCompacting order m.damaged (whole_of source db) ideal db.directory.numbers.next db.snapshots db.iterators log.directory.directory)

module _ {K : Type 0} {g : _} (order : Order) (source : Seen) (db : OpenDb K g) (m : Machine) where
  pub over_its : (s : IsServing order source db m) → ServesOver order source db m s.ideal
  over_its s = record {
    whole = s.whole;
    certain = s.certain;
    origin = s.origin;
    contents = s.contents;
    log = s.log;
    tables = s.tables;
    entries = s.entries;
    snapshots = s.snapshots;
    iterators = s.iterators;
    accounted = s.accounted;
    readable = s.readable;
    numbers = s.numbers;
    synced = s.synced;
    recent = s.recent;
    job = s.job;
  }

  pub over_files : (s : IsServing order source db m) → m.damaged ≡ false → ServesOver order source db m source.facts.files
  over_files s is = subst (λ (fs : Files). ServesOver order source db m fs) (s.origin.undamaged is) (over_its s)

  -- Without damage its directory is the files themselves.
  abbrev pub undamaged_serving : m.damaged ≡ false → IsServing order source db m → IsServing order source db m
  undamaged_serving is serving =
      let s = over_files serving is in
      record {
        whole = s.whole;
        certain = s.certain;
        ideal = source.facts.files;
        origin = s.origin;
        contents = s.contents;
        log = s.log;
        tables = s.tables;
        entries = s.entries;
        snapshots = s.snapshots;
        iterators = s.iterators;
        accounted = s.accounted;
        readable = s.readable;
        numbers = s.numbers;
        synced = s.synced;
        recent = s.recent;
        job = s.job;
      }

-- ---- what its cursors read

-- without damage an iterator goes over the pairs that its tables have
pub whole_walk : {K : Type 0} {g : _} (cmp : List ℕ → List ℕ → Ordering) (limited damaged : Bool) (whole : Whole) (scan : Scan K g) (walk : Walk) → damaged ≡ false → IsLiveWalk cmp limited damaged whole scan walk → IsWalk cmp limited whole scan walk
whole_walk cmp limited damaged whole scan walk is h = record {
  bound = h.may.bound;
  scan = intact_scan cmp scan whole (walked_of walk) h.may.scan (h.intact is);
  limits = λ within. h.limits within is;
  tables = h.tables;
}
