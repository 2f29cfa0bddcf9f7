-- What the directory of an open database says of its tables, and what calls that only read leave of
-- an open database.
use Rattle.std.proofs.Common.{◌≡◌, ◌⊎◌, ◌<◌, ◌++◌, inl, inr, ℕ, zero, suc, ◌≤◌, Bool, true, false, is_some, IsTrue, IsSome, Option, None, Some, List, [], ◌∷◌, map, MatchBool, MatchOption, refl, sym, ap, subst, ◌∙◌, arith, Contains}
use Rattle.std.specs.FinMap.{get, IsAntisymmetric}
use Rattle.std.specs.Option.{option_or}
use Rattle.edits.specs.Names.{IsNumbered, name_of}
use Rattle.edits.specs.declared.names.FileName.TheVariants.{Log, Table, OldTable}
use Rattle.recover.specs.Numbers.{IsFree}
use Rattle.std.specs.Cmp.{IsTotalOrder}
use Rattle.std.specs.declared.cmp.Ordering.{Ordering}
use Rattle.std.specs.BTreeMap.{BTreeMap}
use Rattle.std.specs.Bool.{nat_eq}
use Rattle.std.specs.Map.{lookup}
use Rattle.cache.specs.Tables.{table_at}
use Rattle.edits.specs.declared.field.PlacedTable.{PlacedTable}
use Rattle.ikey.specs.declared.entry.Entry.{Entry}
use Rattle.ikey.specs.Orders.{Order}
use Rattle.ikey.specs.Sources.{joined, SameEntries}
use Rattle.version_get.specs.Gets.{HasTablesOf, IsTooLong, MayHaveTablesOf}
use Rattle.recover.specs.Report.{IsLongTable}
use Rattle.recover.specs.Tables.{TableContent, IsTableFile, InTables, HasTable, tabled}
use Rattle.recover.proofs.Memberships.{one_of_tables}
use Rattle.db_cursor.specs.internal.SourceLaws.{keeps_any}
use Rattle.db_cursor.specs.Scans.{IsOnePastLimit, KeepsScan, KeepsUpTo, reads_memory, reads_table, tables_of}
use Rattle.db_cursor.specs.internal.Scanning.{ScanIsKept}
use Rattle.db_cursor.specs.Origins.{HaveOrigins}
use Rattle.db_cursor.proofs.Origins.{origins_held}
use Rattle.db_cursor.proofs.ScanSteps.{may_kept}
use Rattle.db_cursor.proofs.Untorn.{intact_scan}
use Rattle.directory_writes.proofs.SameChanges.{log_other}
use Rattle.directory_writes.specs.Differing.{DiffersInTables, IsSameChange}
use Rattle.level_cursor.specs.InRows.{ListsNumber}
use Rattle.db_cursor.specs.Whole.{Whole}
use Rattle.memtables.specs.Memories.{Memories, logged_in}
use Rattle.memtables.specs.PlaceLaws.{left_kept, left_logged, left_sealed}
use Rattle.memtables.specs.Places.{LeavesMemories}
use Rattle.db_cursor.specs.declared.scan.Scan.{Scan}
use Rattle.version_laws.specs.Laws.{VersionLaw}
use Rattle.version_laws.specs.Places.{table_sources, HasVersion}
use Rattle.table_access.specs.Tables.{Seen, IsSound, Carries, KeepsOf, Knows}
use Rattle.table_access.specs.Values.{IsTablePastLimit}
use Rattle.store.specs.Files.{Files, Facts, Synced}
use Rattle.table.proofs.FrameParts.{long_frame}
use Rattle.versions.specs.Levels.{ListsSameTables}
use Rattle.engine.specs.declared.ids.Ids.{Ids}
use Rattle.engine.specs.internal.Directory.{IsReadable}
use Rattle.recover.specs.Limits.{IsWithinLimits}
use Rattle.recover.specs.Logs.{HasLogs, LogContent}
use Rattle.engine.specs.OpenDb.{OpenDb, whole_of}
use Rattle.reader.specs.internal.Iterators.{walked_of}
use Rattle.engine.specs.Origins.{ComesFrom}
use Rattle.engine.specs.internal.Compacting.{IsCompacting}
use Rattle.engine.specs.Reads.{kept_at}
use Rattle.engine.specs.internal.Live.{AreLive, AreWalks, IsBoth, IsLiveWalk}
use Rattle.machine.specs.Machine.{Machine, Walk}
use Rattle.engine.proofs.RecentWrites.{recent_kept}
use Rattle.engine.proofs.Synced.{StaysSynced, stays_same}
use Rattle.engine.specs.InUse.{IsJobTable}
use Rattle.running_job.specs.declared.open_job.OpenJob.{OpenJob}
use Rattle.engine.specs.internal.Logs.{LeavesOrSyncs}
use Rattle.engine.specs.internal.Recent.{AreRecent}
use Rattle.engine.specs.internal.Standing.{HasLog, HasTables, IsBroken, IsServing, StandsOpen}
use Rattle.engine.proofs.Compacting.{each_job, goes_beside, have_itself, known_itself, version_number, version_unowned}
use Rattle.engine.proofs.LiveIds.{live_then}
use Rattle.engine.proofs.Origins.{comes_same}

-- ---- members

abbrev placed_of : List TableContent → List PlacedTable
placed_of contents = map (λ (content : TableContent). content.placed) contents

find_placed : (contents : List TableContent) (p : PlacedTable) → Contains (placed_of contents) p → (c : TableContent) × InTables contents c × (c.placed ≡ p)
find_placed [] p (k, lt, e) = absurd (omega (arith, lt))
find_placed (c ∷ contents) p (zero, lt, e) = (c, inl refl, e)
find_placed (c ∷ contents) p (suc k, lt, e) = let rest = find_placed contents p (k, omega (arith, lt), e) in (rest.0, inr rest.1, rest.2)

pub has_placed : (contents : List TableContent) (c : TableContent) → InTables contents c → Contains (placed_of contents) c.placed
has_placed [] c i = absurd i
has_placed (x ∷ contents) c (inl e) = (0, omega arith, ap (λ (t : TableContent). t.placed) (sym e))
has_placed (x ∷ contents) c (inr i) = let rest = has_placed contents c i in (suc rest.0, omega (arith, rest.1), rest.2)

-- ---- the tables of an open database

-- The undamaged files of its version are tables, and their entries those of the directory's tables.
pub tables_found : {K : Type 0} {g : _} → (order : Order) (source : Seen) (ideal : Files) (contents : List TableContent) (db : OpenDb K g) → VersionLaw → IsTotalOrder order.cmp → IsAntisymmetric order.cmp
    → HasLog order ideal contents db → HasTables order source contents db
    → (found : List TableContent) × HasVersion order ideal db.tables found × SameEntries (joined (table_sources found)) (tabled contents)
tables_found order source ideal contents db law total exact log tables =
    let a = log.directory in
    let d = a.directory in
    let placed : map (λ (content : TableContent). content.placed) contents ≡ d.layout.tables.items = ap (λ (cs : List TableContent). map (λ (content : TableContent). content.placed) cs) a.in_tables ∙ a.consistent.placed in
    let v = law order ideal d db.tables total exact a.consistent (subst (λ (ps : List PlacedTable). ListsSameTables ps db.tables) placed tables.version) tables.in_order in
    (v.0, v.1, subst (λ (cs : List TableContent). SameEntries (joined (table_sources v.0)) (tabled cs)) (sym a.in_tables) v.2)

-- The files themselves may be tables with those entries.
pub may_found : {K : Type 0} {g : _} → (order : Order) (source : Seen) (ideal : Files) (contents found : List TableContent) (db : OpenDb K g) → IsTotalOrder order.cmp → HasTables order source contents db
    → HasVersion order ideal db.tables found → HaveOrigins order.cmp source.facts.files ideal db.tables → MayHaveTablesOf order source db.tables found
may_found order source ideal contents found db total tables version from = (tables.sound, origins_held order source.facts.files ideal db.tables found total version from)

-- Without damage they are.
pub whole_found : {K : Type 0} {g : _} → (order : Order) (source : Seen) (ideal : Files) (contents found : List TableContent) (db : OpenDb K g) → ideal ≡ source.facts.files → HasTables order source contents db
    → HasVersion order ideal db.tables found → HasTablesOf order source db.tables found
whole_found order source ideal contents found db same tables version = (tables.sound, subst (λ (fs : Files). HasVersion order fs db.tables found) same version)

-- a file that is a table, and is past a limit
pub long_table : (order : Order) (file : List ℕ) (entries : List Entry) → IsTableFile order file entries → IsTablePastLimit order.cmp file → IsLongTable order file
long_table order file entries t (inl unsupported) = (t.1.0, (t.1.1, inl (long_frame order.cmp file unsupported t.1.0 t.1.1)))
long_table order file entries t (inr long) = (long.0, (long.1, inr long.2))

-- Where the file of one of them is past a limit, the directory is.
pub passes_limit : {K : Type 0} {g : _} → (order : Order) (source : Seen) (contents found : List TableContent) (db : OpenDb K g) (content : TableContent)
    → HasLog order source.facts.files contents db → HasTables order source contents db → HasVersion order source.facts.files db.tables found → InTables found content → IsTooLong order source content.placed
    → IsWithinLimits order source.facts.files → ⊥
passes_limit order source contents found db content log tables version i long within =
    let a = log.directory in
    let d = a.directory in
    let here : Contains db.tables content.placed = subst (λ (ps : List PlacedTable). Contains ps content.placed) version.placed (has_placed found content i) in
    let listed : Contains (placed_of contents) content.placed = subst (λ (p : PlacedTable). Contains (placed_of contents) p) here.2 (tables.version.only here.0 content.placed here.1) in
    let other = find_placed d.tables content.placed (subst (λ (cs : List TableContent). Contains (placed_of cs) content.placed) a.in_tables listed) in
    let has : HasTable order source.facts.files other.0 = one_of_tables order source.facts.files d.tables other.0 a.consistent.tables other.1 in
    let there : table_at source.facts.files other.0.placed.table.number ≡ Some long.0 = ap (λ (p : PlacedTable). table_at source.facts.files p.table.number) other.2 ∙ long.1 in
    let both : Some has.bytes ≡ Some long.0 = sym has.there ∙ there in
    let same : has.bytes ≡ long.0 = cc in
    within d a.consistent (inr (other.0, other.1, (long.0, there, long_table order long.0 other.0.entries (subst (λ (file : List ℕ). IsTableFile order file other.0.entries) same has.spelled) long.2)))

-- ---- numbers that are taken

is_there : (o : Option (List ℕ)) → IsSome o → is_some o ≡ true
is_there None some = absurd (let bad : false ≡ true = some in cc)
is_there (Some file) some = refl

either_there : (a b : Option (List ℕ)) → IsSome (option_or a b) → (is_some a ≡ true) ⊎ (is_some b ≡ true)
either_there None b some = inr (is_there b some)
either_there (Some file) b some = inl refl

-- a table that is there has a number below those that are free in the undamaged directory
pub below_next : (order : Order) (files ideal : Files) (n number : ℕ) → DiffersInTables files ideal → IsFree order ideal n → IsNumbered number → IsSome (table_at files number) → number < n
below_next order files ideal n number differs free numbered there = elim (either_there (get files (name_of (Table number))) (get files (name_of (OldTable number))) there) [
  | inl newer ↦ free.listed (Table number) numbered (differs.names (name_of (Table number)) ∙ newer)
  | inr older ↦ free.listed (OldTable number) numbered (differs.names (name_of (OldTable number)) ∙ older)
]

-- what is kept of tables was kept, or is of one that is there
abbrev pub KeepsThere : Seen → Seen → Type 0
KeepsThere old new = (number : ℕ) → KeepsOf new number → KeepsOf old number ⊎ (IsNumbered number × IsSome (table_at old.facts.files number))

-- it is a table of the version, or one that an open iterator reads
abbrev pub IsReadIn : {K : Type 0} {g : _} → OpenDb K g → ℕ → Type 0
IsReadIn {K} {g} db number = ListsNumber db.tables number ⊎ ((id : ℕ) × (scan : Scan K g) × (kept_at db.iterators id ≡ Some scan) × reads_table scan number)

abbrev pub GathersRead : {K : Type 0} {g : _} → OpenDb K g → Seen → Seen → Type 0
GathersRead db old new = (number : ℕ) → KeepsOf new number → KeepsOf old number ⊎ IsReadIn db number

pub carried_there : {numbers : ℕ → Type 0} (cmp : List ℕ → List ℕ → Ordering) (old new : Seen) → Carries cmp numbers old new → IsTrue new.facts.faithful → KeepsThere old new
unfolding Knows
carried_there cmp old new carries f number is = carries.kept f number (inl is)

-- what is kept under an id stands for something of the machine
pub live_of : {X Y : Type 0} (Is : X → Y → Type 0) (kept : BTreeMap ℕ X) (live : List (ℕ × Y)) (id : ℕ) (x : X) → kept_at kept id ≡ Some x → AreLive Is kept live → (y : Y) × Is x y
live_of {X} {Y} Is kept live id x there h = at (kept_at kept id) (lookup (nat_eq id) live) there (h id)
  where
    at : (o : Option X) (p : Option Y) → o ≡ Some x → IsBoth Is o p → (y : Y) × Is x y
    at None None is both = absurd (cc)
    at None (Some y) is both = absurd both
    at (Some z) None is both = absurd both
    at (Some z) (Some y) is both = (let same : z ≡ x = cc in (y, subst (λ (w : X). Is w y) same both))

-- ---- calls that only read

-- the machine after them
abbrev pub read_by : Facts → Machine → Machine
read_by facts m = record m { failures = facts.failures; denials = facts.denials }

-- of each file the same is synced
pub synced_read : (old new : Facts) → new.synced ≡ old.synced → (q : List ℕ) → LeavesOrSyncs old new q
synced_read old new synced q = inl (ap (λ (s : Synced). s q) synced)

-- where only tables differ, the logs are the same
pub logs_differ : (files whole : Files) (logs : List LogContent) → DiffersInTables files whole → HasLogs whole logs → HasLogs files logs
logs_differ files whole [] differs h = tt
logs_differ files whole (log ∷ logs) differs h = (
  record { bytes = h.0.bytes; numbered = h.0.numbered; there = sym (differs.others (name_of (Log log.number)) (log_other log.number h.0.numbered)) ∙ h.0.there; spelled = h.0.spelled },
  logs_differ files whole logs differs h.1,
)

-- what a scan reads is the same
pub whole_kept : (cmp : List ℕ → List ℕ → Ordering) (old new : Whole) (sequence : ℕ) → LeavesMemories old.memory new.memory → new.seen.facts.files ≡ old.seen.facts.files → (IsSound cmp old.seen → IsSound cmp new.seen)
    → KeepsUpTo cmp sequence old new
whole_kept cmp old new sequence left files sound = record {
  memory = λ cursor within. left_kept cmp cursor old.memory new.memory left;
  files = λ number. ap (λ (fs : Files). table_at fs number) files;
  sound = sound;
}

-- the files of its tables are the same
limits_kept : {K : Type 0} {g : _} (cmp : List ℕ → List ℕ → Ordering) (scan : Scan K g) (old new : Whole) → KeepsScan cmp scan old new → IsOnePastLimit cmp (tables_of scan) new → IsOnePastLimit cmp (tables_of scan) old
limits_kept cmp scan old new keeps past = (past.0, past.1, past.2, sym (keeps.files past.0.table.number (inl (past.0, past.1, refl))) ∙ past.3, past.4)

module _ {K : Type 0} {g : _} (order : Order) (kept : (scan : Scan K g) → ScanIsKept order.cmp scan) where
  -- an iterator where what it reads is the same
  pub walk_kept : (limited damaged : Bool) (old new : Whole) (iterator : Scan K g) (walk : Walk) → KeepsScan order.cmp iterator old new → old.memory.last ≤ new.memory.last
      → IsLiveWalk order.cmp limited damaged old iterator walk → IsLiveWalk order.cmp limited damaged new iterator walk
  walk_kept limited damaged old new iterator walk keeps last h = record {
    may = record {
      bound = (let within : iterator.walk.sequence ≤ old.memory.last = h.may.bound in omega (arith, within, last));
      scan = may_kept order.cmp iterator old new (walked_of walk) keeps h.may.scan;
    };
    limits = λ is whole past. h.limits is whole (limits_kept order.cmp iterator old new keeps past);
    intact = λ whole cut torn. (kept iterator old new (walked_of walk) keeps (intact_scan order.cmp iterator old (walked_of walk) h.may.scan (h.intact whole))).intact cut torn;
    tables = λ number read. let there = h.tables number read in (there.0, there.1, subst (λ (file : Option (List ℕ)). IsSome file) (sym (keeps.files number read)) there.2);
  }

  pub walks_kept : (old new : Whole) (iterators : BTreeMap ℕ (Scan K g)) (m : Machine) → ((sequence : ℕ) → sequence ≤ old.memory.last → KeepsUpTo order.cmp sequence old new) → old.memory.last ≤ new.memory.last
      → AreWalks order.cmp old m iterators → AreWalks order.cmp new m iterators
  walks_kept old new iterators m keeps last h =
      live_then (IsLiveWalk order.cmp m.over_limit m.damaged old) (IsLiveWalk order.cmp m.over_limit m.damaged new) iterators m.iterators
      (λ iterator walk is. walk_kept m.over_limit m.damaged old new iterator walk (keeps_any order.cmp (reads_memory iterator) (reads_table iterator) iterator.walk.sequence old new (keeps iterator.walk.sequence is.may.bound)) last is) h

  -- files and memory are the same, whatever else the calls did
  module _ (old new : Seen) (db : OpenDb K g) (memory : Memories) (m : Machine) (files : new.facts.files ≡ old.facts.files) (sound : IsSound order.cmp old → IsSound order.cmp new)
      (keeps : KeepsThere old new) (gathers : GathersRead db old new) (left : LeavesMemories db.memory memory) (stays : StaysSynced old.facts new.facts db.log db.log db.directory db.tables (IsJobTable db.job))
      (leaves : (q : List ℕ) → LeavesOrSyncs old.facts new.facts q) where
    pub inserts : logged_in memory ≡ logged_in db.memory
    inserts = left_logged db.memory memory left

    pub last : memory.last ≡ db.memory.last
    last = left.last

    abbrev pub after : OpenDb K g
    after = record db { memory = memory }

    pub readable_read : (ideal : Files) → IsReadable order ideal m → IsReadable order ideal (read_by new.facts m)
    readable_read ideal h = record { made = h.made; numbers = h.numbers; limits = h.limits }

    pub origin_read : (ideal : Files) → ComesFrom order m.damaged old.facts.files ideal → ComesFrom order m.damaged new.facts.files ideal
    origin_read ideal h = comes_same order m.damaged old.facts.files new.facts.files ideal files h

    abbrev pub log_read : (ideal : Files) (contents : List TableContent) → HasLog order ideal contents db → HasLog order ideal contents after
    log_read ideal contents h =
        let a = h.directory in
        record {
          named = h.named;
          directory = record {
            directory = a.directory;
            consistent = a.consistent;
            ends = a.ends;
            in_tables = a.in_tables;
            in_logs = inserts ∙ a.in_logs;
            spent = last ∙ a.spent;
          };
          logs = record {
            sealed = h.logs.sealed;
            current = h.logs.current;
            logs = h.logs.logs;
            number = h.logs.number;
            sealed_are = left_sealed db.memory memory left ∙ h.logs.sealed_are;
            current_are = left.inserts ∙ h.logs.current_are;
            front = λ none. h.logs.front (sym left.sealed ∙ none);
            some = λ none. left.sealed ∙ h.logs.some (sym (left_sealed db.memory memory left) ∙ none);
          };
          knows = h.knows;
        }

    -- what is kept is of tables that are there, or was kept before
    pub drawn_read : (ideal : Files) (contents : List TableContent) → DiffersInTables old.facts.files ideal → HasLog order ideal contents db → HasTables order old contents db → (number : ℕ) → KeepsOf new number → IsNumbered number × (number < db.directory.numbers.next)
    drawn_read ideal contents differs log tables number kept = elim (keeps number kept) [
      | inl before ↦ tables.drawn number before
      | inr there ↦ (there.0, below_next order old.facts.files ideal db.directory.numbers.next number differs log.knows.free there.0 there.1)
    ]

    -- nothing is changed in the directory
    no_change : (ideal : Files) → IsSameChange old.facts.files new.facts.files ideal ideal
    no_change ideal = record { stays = λ name same. refl; changes = λ name apart. absurd (apart (ap (λ (fs : Files). get fs name) files)) }

    -- nothing is kept anew of a table that a compaction writes
    pub job_read : (h : IsServing order old db m) → MatchOption db.job (Unit {0}) (IsCompacting order m.damaged (whole_of old db) h.ideal db.directory.numbers.next db.snapshots db.iterators h.log.directory.directory)
        → MatchOption db.job (Unit {0}) (IsCompacting order m.damaged (whole_of new after) h.ideal db.directory.numbers.next db.snapshots db.iterators h.log.directory.directory)
    job_read h job = each_job _ _ db.job (λ work is c.
        let a = h.log.directory in
        let d = a.directory in
        let free = h.log.knows.free in
        let fits = db.directory.numbers.in_range.1 in
        let contents : h.contents ≡ d.tables = a.in_tables in
        let unowned_here = λ (number : ℕ). version_unowned work.job.outputs order h.ideal d h.contents db.tables number a.consistent contents h.tables.version c.running.unused in
        goes_beside order (whole_of old db) (whole_of new after) db.directory.numbers.next db.directory.numbers.next db.snapshots db.snapshots db.iterators db.iterators db.tables m.damaged h.ideal h.ideal d d work c a.consistent free fits (omega arith)
        (λ number numbered below one. ((ap (λ (fs : Files). get fs (name_of (Table number))) files, λ file there was. (stays h.synced).1 number numbered ∙ was, (stays h.synced).2 number numbered (subst (λ (o : Option (OpenJob K g)). IsJobTable o number) (sym is) one)), ap (λ (fs : Files). get fs (name_of (OldTable number))) files)) sound
        (λ number kept_now. elim (gathers number kept_now) [
          | inl before ↦ inl before
          | inr (inl has) ↦ inr ((version_number order h.ideal d db.directory.numbers.next h.contents db.tables number a.consistent free contents h.tables.version has).1, unowned_here number has)
          | inr (inr one) ↦ inr (
              let walk = live_of (IsLiveWalk order.cmp m.over_limit m.damaged (whole_of old db)) db.iterators m.iterators one.0 one.1 one.2 h.iterators in
              let there = walk.1.tables number one.3 in
              (below_next order old.facts.files h.ideal db.directory.numbers.next number h.origin.differs free there.1 there.2, c.unread one.0 one.1 one.2 number there.0)
              )
        ]) (no_change h.ideal) refl refl refl (omega (arith, last)) (known_itself db.snapshots db.memory.last) (have_itself db.iterators db.tables) unowned_here) job

    abbrev pub serving_read : IsServing order old db m → IsServing order new after (read_by new.facts m)
    serving_read h = record {
      whole = h.whole;
      certain = h.certain;
      ideal = h.ideal;
      origin = origin_read h.ideal h.origin;
      contents = h.contents;
      log = log_read h.ideal h.contents h.log;
      tables = record { version = h.tables.version; in_order = h.tables.in_order; sound = sound h.tables.sound; drawn = drawn_read h.ideal h.contents h.origin.differs h.log h.tables };
      entries = record {
        used = h.entries.used ∙ sym last;
        fits = (let fits = h.entries.fits in omega (arith, fits, last));
        view = rw (inserts, last) h.entries.view;
        bounded = rw (inserts, last) h.entries.bounded;
      };
      snapshots = rw (inserts, last) h.snapshots;
      iterators = walks_kept (whole_of old db) (whole_of new after) db.iterators m (λ sequence within. whole_kept order.cmp (whole_of old db) (whole_of new after) sequence left files sound) (omega (arith, last)) h.iterators;
      accounted = rw (inserts) h.accounted;
      readable = readable_read h.ideal h.readable;
      numbers = h.numbers;
      synced = (stays h.synced).0;
      recent = subst (λ (es : List Entry). AreRecent new.facts db.directory.manifest.number h.contents (tabled h.contents ++ es) h.log.directory.directory.logs m) (sym inserts)
          (recent_kept old.facts new.facts db.directory.manifest.number h.contents (tabled h.contents ++ logged_in db.memory) h.log.directory.directory.logs m
          (logs_differ new.facts.files h.ideal h.log.directory.directory.logs (origin_read h.ideal h.origin).differs h.log.directory.consistent.logs)
          (λ n i. (ap (λ (fs : Files). get fs (name_of (Log n))) files, leaves (name_of (Log n)))) h.recent);
      job = job_read h h.job;
    }

    rest_read : (b : Bool) → MatchBool b (IsBroken order old.facts.files m) (IsServing order old db m) → MatchBool b (IsBroken order new.facts.files (read_by new.facts m)) (IsServing order new after (read_by new.facts m))
    rest_read true h = record {
      broken = h.broken;
      rest = record { ideal = h.rest.ideal; origin = origin_read h.rest.ideal h.rest.origin; meaning = h.rest.meaning; readable = readable_read h.rest.ideal h.rest.readable };
    }
    rest_read false h = serving_read h

    pub stands_kept : (ids : Ids) → StandsOpen order old ids db m → StandsOpen order new ids (record db { memory = memory }) (read_by new.facts m)
    stands_kept ids s = record {
      counts = record { failures = refl; denials = refl };
      ids = s.ids;
      reached = s.reached;
      opened = s.opened;
      rest = rest_read db.broken s.rest;
    }

  -- Calls of a faithful store that only read it leave all but the counts.
  pub stands_read : {numbers : ℕ → Type 0} (old new : Seen) (ids : Ids) (db : OpenDb K g) (memory : Memories) (m : Machine) → Carries order.cmp numbers old new → GathersRead db old new → IsTrue new.facts.faithful
      → LeavesMemories db.memory memory → StandsOpen order old ids db m → StandsOpen order new ids (record db { memory = memory }) (read_by new.facts m)
  stands_read old new ids db memory m carries gathers f left s = stands_kept old new db memory m (carries.reads.files f) (carries.sound f) (carried_there order.cmp old new carries f) gathers left
      (stays_same old.facts new.facts db.log db.directory db.tables (IsJobTable db.job) (carries.reads.calls f) (carries.reads.files f) (carries.reads.synced f)) (synced_read old.facts new.facts (carries.reads.synced f)) ids s
