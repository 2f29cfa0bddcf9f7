-- What the removal of files leaves of an open database.
use Rattle.std.proofs.Common.{◌≡◌, ◌⊎◌, ℕ, ◌<◌, true, false, is_some, List, ◌++◌, Option, Some, None, IsTrue, IsSome, Contains, inl, inr, refl, sym, ap, subst, ◌∙◌, arith}
use Rattle.std.specs.FinMap.{get}
use Rattle.std.specs.declared.cmp.Ordering.{Ordering}
use Rattle.std.specs.Option.{option_and_then}
use Rattle.cache.specs.Tables.{KeptTable, IsNameOf, table_at}
use Rattle.edits.specs.Names.{IsNumbered, name_of}
use Rattle.edits.specs.declared.names.FileName.{FileName}
use Rattle.edits.specs.declared.names.FileName.TheVariants.{Log, OldTable, Table}
use Rattle.running_job.specs.declared.open_job.OpenJob.{OpenJob}
use Rattle.edits.specs.declared.field.PlacedTable.{PlacedTable}
use Rattle.ikey.specs.Orders.{Order}
use Rattle.memtables.specs.Changes.{IsUsed, KeepsUsed}
use Rattle.memtables.specs.Memories.{Memories, inserts_of, logged_in, older_at, sealed_inserts}
use Rattle.memtables.specs.Places.{MemoriesPlace, KeepsMemories}
use Rattle.recover.specs.Directory.{Directory, IsConsistent, used_in}
use Rattle.recover.proofs.NewLogs.{log_there}
use Rattle.recover.specs.Logs.{InLogs, logged}
use Rattle.recover.specs.internal.Laws.{OneDirectoryLaw}
use Rattle.recover.specs.Tables.{InTables, TableContent, tabled}
use Rattle.ikey.specs.declared.entry.Entry.{Entry}
use Rattle.recover.proofs.Adding.{table_of}
use Rattle.recover.proofs.NewLogs.{log_there}
use Rattle.db_cursor.specs.Scans.{KeepsScan}
use Rattle.db_cursor.specs.internal.Scanning.{ScanIsKept}
use Rattle.db_cursor.specs.declared.scan.Scan.{Scan}
use Rattle.table_access.specs.Tables.{Seen, IsSound, KeepsOf, SoundLasts}
use Rattle.table_access.proofs.Sounding.{same_file, same_table}
use Rattle.store.specs.Files.{Facts, Files}
use Rattle.store.specs.Losses.{CarriesBut, StaysNamed}
use Rattle.table.specs.Reading.{HasFile}
use Rattle.db_cursor.proofs.Origins.{origin_stays}
use Rattle.directory_writes.proofs.JobTables.{contains_among, content_at}
use Rattle.directory_writes.proofs.SameChanges.{same_change}
use Rattle.directory_writes.specs.Differing.{DiffersInTables, IsSameChange, OfEach}
use Rattle.directory_writes.specs.Replacing.{placed_in}
use Rattle.directory_writes.specs.internal.Calls.{LeavesFile}
use Rattle.directory_writes.specs.internal.Removal.{AreOfDirectory, KeepsParts, KeepsTable, ListsToClose, MayLose}
use Rattle.directory_writes.specs.Removal.{HasBoth, IsDead, IsLiveAmong}
use Rattle.opening.specs.internal.Directories.{CanAppend}
use Rattle.engine.specs.OpenDb.{OpenDb, whole_of}
use Rattle.engine.specs.InUse.{IsJobTable, IsMemoryUsed, IsTableUsed}
use Rattle.engine.specs.Origins.{ComesFrom}
use Rattle.engine.specs.Reads.{kept_at}
use Rattle.engine.specs.internal.Live.{IsLiveWalk}
use Rattle.machine.specs.Machine.{Machine, Walk}
use Rattle.running_job.specs.internal.Staying.{LeavesWhole}
use Rattle.engine.proofs.StayedNames.{first_least, not_dead, spares_dead, stayed_on}
use Rattle.engine.proofs.RecentWrites.{recent_same}
use Rattle.engine.specs.internal.Recent.{AreRecent}
use Rattle.engine.proofs.Synced.{KeepsNames, lost_kept, lost_table, names_carried, synced_still}
use Rattle.engine.specs.internal.Synced.{HaveNames, HaveStayed}
use Rattle.engine.specs.internal.Standing.{HasLog, HasTables, IsServing, entries_of}
use Rattle.engine.specs.internal.Pieces.{ClosesTables}
use Rattle.engine.specs.Working.{numbers_of}
use Rattle.engine.proofs.Compacting.{each_job, goes_beside_read, have_itself, known_itself, version_unowned}
use Rattle.engine.proofs.OpenOrigins.{comes_behind}
use Rattle.engine.proofs.InUse.{memory_used, read_used, table_used}
use Rattle.engine.proofs.Pieces.{limits_stay, made_still, walks_each}
use Rattle.engine.proofs.Reading.{has_placed, read_by}

-- a cursor over a memtable that isn't dropped
abbrev pub DropsKept : (List ℕ → List ℕ → Ordering) → Type 0
DropsKept cmp = (cursor : MemoriesPlace) (old new : Memories) → new ≡ record old { older = new.older } → older_at new.older cursor.generation ≡ older_at old.older cursor.generation → KeepsMemories cmp cursor old new

-- all but obsolete files went on under their names
abbrev pub LosesUnused : {K : Type 0} {g : _} → Facts → Facts → OpenDb K g → Type 0
LosesUnused old facts db = CarriesBut old facts (IsDead (IsLiveAmong old.files (numbers_of db.directory) (λ number. IsTableUsed db.tables db.job db.iterators number)))

pub stayed_unused : {K : Type 0} {g : _} (old facts : Facts) (db : OpenDb K g) → HaveNames db.log db.directory db.tables → LosesUnused old facts db → HaveStayed old db.directory db.tables → HaveStayed facts db.directory db.tables
stayed_unused old facts db names carries h =
    let in_use : ℕ → Type 0 = λ number. IsTableUsed db.tables db.job db.iterators number in
    stayed_on old facts (IsDead (IsLiveAmong old.files (numbers_of db.directory) in_use)) db.directory db.directory db.tables refl refl refl (omega arith) (first_least db.log db.directory db.tables names) carries
    (spares_dead old.files db.log db.directory db.tables in_use names (λ p there. table_used db.tables db.job db.iterators p.table.number (p, there, refl))) h

-- among them the tables of a compaction
pub names_unused : {K : Type 0} {g : _} (old facts : Facts) (db : OpenDb K g) → LosesUnused old facts db → KeepsNames old facts (IsJobTable db.job)
names_unused old facts db carries =
    let in_use : ℕ → Type 0 = λ number. IsTableUsed db.tables db.job db.iterators number in
    let live : FileName → Type 0 = IsLiveAmong old.files (numbers_of db.directory) in_use in
    names_carried old facts (IsDead live) (IsJobTable db.job) (λ n numbered one. not_dead live (Table n) numbered (inr one)) carries

module _ {K : Type 0} {g : _} (order : Order) (kept : (scan : Scan K g) → ScanIsKept order.cmp scan) (one : OneDirectoryLaw) (lasts : SoundLasts) (drops : DropsKept order.cmp)
    (old : Seen) (facts : Facts) (tables : List KeptTable) (db : OpenDb K g) (memory : Memories) (gone : List ℕ) where
  abbrev in_use : ℕ → Type 0
  in_use number = IsTableUsed db.tables db.job db.iterators number

  abbrev new : Seen
  new = record { facts = facts; tables = tables; blocks = old.blocks }

  abbrev after : OpenDb K g
  after = record db { memory = memory }

  -- ---- the memtables

  module _ (used : KeepsUsed (IsUsed (λ generation. IsMemoryUsed db.iterators generation) db.memory) db.memory memory) where
    current_same : memory.current.inserts ≡ db.memory.current.inserts
    current_same = ap (λ (m : Memories). m.current.inserts) used.others

    last_same : memory.last ≡ db.memory.last
    last_same = ap (λ (m : Memories). m.last) used.others

    sealed_at : (sealed : Option ℕ) → db.memory.sealed ≡ sealed → inserts_of (option_and_then (older_at memory.older) sealed) ≡ inserts_of (option_and_then (older_at db.memory.older) sealed)
    sealed_at None is = refl
    sealed_at (Some generation) is = ap inserts_of (used.kept generation (inl is))

    pub sealed_same : sealed_inserts memory ≡ sealed_inserts db.memory
    sealed_same = ap (λ (sealed : Option ℕ). inserts_of (option_and_then (older_at memory.older) sealed)) (ap (λ (m : Memories). m.sealed) used.others) ∙ sealed_at db.memory.sealed refl

    pub logged_same : logged_in memory ≡ logged_in db.memory
    logged_same = λ i. sealed_same i ++ current_same i

    -- ---- the files

    module _ (t : IsTrue facts.faithful) (each : (n : ℕ) → IsNumbered n → KeepsTable old.facts facts in_use n) (unused : ListsToClose old.facts facts in_use gone) (closes : ClosesTables old.tables tables gone)
        (loses : (name : List ℕ) → LeavesFile old.facts facts name ⊎ (get facts.files name ≡ None)) where
      -- a table of which something is kept is as before, or gone
      same_at : (n : ℕ) (file : List ℕ) → IsNumbered n → table_at facts.files n ≡ Some file → table_at old.facts.files n ≡ Some file
      same_at n file numbered there = elim (each n numbered) [
        | inl both ↦ sym (same_table old.facts.files facts.files n both.0 both.1) ∙ there
        | inr other ↦ elim other [
          | inl free ↦ elim free.1 [
            | inl same ↦ sym same ∙ there
            | inr none ↦ absurd (let bad : None ≡ Some file = sym none ∙ there in cc)
          ]
          | inr two ↦ sym two.2 ∙ there
        ]
      ]

      some_file : (o : Option (List ℕ)) (file : List ℕ) → o ≡ Some file → IsSome o
      some_file o file is = subst (λ (x : Option (List ℕ)). IsSome x) (sym is) refl

      -- a file of it may go
      may_lose : (n : ℕ)
          → ((in_use n → ⊥) × ((table_at facts.files n ≡ table_at old.facts.files n) ⊎ (table_at facts.files n ≡ None)))
          ⊎ (HasBoth old.facts.files n × (get facts.files (name_of (Table n)) ≡ get old.facts.files (name_of (Table n))) × (table_at facts.files n ≡ table_at old.facts.files n)) → MayLose old.facts.files in_use n
      may_lose n (inl free) = inl free.0
      may_lose n (inr two) = inr two.0

      named_at : (n : ℕ) (name file : List ℕ) → IsNumbered n → IsNameOf n name → (Contains gone n → ⊥) → table_at facts.files n ≡ Some file → HasFile old.facts name file → HasFile facts name file
      named_at n name file numbered named stays there has = elim (each n numbered) [
        | inl both ↦ same_file old.facts.files facts.files n name named both.0 both.1 ∙ has
        | inr other ↦ absurd (stays (unused t n numbered (may_lose n other) (some_file (table_at old.facts.files n) file (same_at n file numbered there))))
      ]

      kept_of : (kept : KeptTable) → Contains tables kept → KeepsOf old kept.number
      kept_of kept is = inl (kept, closes.kept kept is, refl)

      sound_cleaned : (contents : List TableContent) → HasTables order old contents db → IsSound order.cmp new
      sound_cleaned contents has =
          let fewer : IsSound order.cmp (record old { tables = tables }) = record { tables = λ kept is. has.sound.tables kept (closes.kept kept is); blocks = has.sound.blocks } in
          lasts order.cmp (record old { tables = tables }) facts
          (λ kept file is there.
          let numbered = (has.drawn kept.number (kept_of kept is)).0 in
          (same_at kept.number file numbered there, λ h. named_at kept.number kept.table.name file numbered (fewer.tables kept is).0 (closes.closed kept is) there h))
          (λ block file is there. same_at block.file file (has.drawn block.file (inr (block, is, refl))).0 there) fewer

      drawn_cleaned : (contents : List TableContent) → HasTables order old contents db → (number : ℕ) → KeepsOf new number → IsNumbered number × (number < db.directory.numbers.next)
      drawn_cleaned contents has number (inl (kept, is, same)) = has.drawn number (inl (kept, closes.kept kept is, same))
      drawn_cleaned contents has number (inr block) = has.drawn number (inr block)

      -- a table that is used reads as before, and its file with the newer name is as it was
      used_same : (n : ℕ) → IsNumbered n → in_use n → (get facts.files (name_of (Table n)) ≡ get old.facts.files (name_of (Table n))) × (table_at facts.files n ≡ table_at old.facts.files n)
      used_same n numbered used_one = elim (each n numbered) [
        | inl both ↦ (both.0, same_table old.facts.files facts.files n both.0 both.1)
        | inr other ↦ elim other [
          | inl free ↦ absurd (free.0 used_one)
          | inr two ↦ (two.1, two.2)
        ]
      ]

      -- and what of that is synced
      whole_used : (n : ℕ) → IsNumbered n → in_use n → (StaysNamed old.facts (name_of (Table n)) → StaysNamed facts (name_of (Table n))) → LeavesWhole old.facts facts (name_of (Table n)) × (table_at facts.files n ≡ table_at old.facts.files n)
      whole_used n numbered used_one named =
          let same = used_same n numbered used_one in (
            (
              same.0,
              λ file there was. elim (loses (name_of (Table n))) [
                | inl left ↦ left.1 ∙ was
                | inr none ↦ absurd (let bad : None ≡ Some file = sym none ∙ same.0 ∙ there in cc)
              ],
              named,
            ),
            same.1,
          )

      fewer_kept : (number : ℕ) → KeepsOf new number → KeepsOf old number
      fewer_kept number (inl (kept_one, is, same)) = inl (kept_one, closes.kept kept_one is, same)
      fewer_kept number (inr block) = inr block

      -- ---- what stands

      module _ (m : Machine) (serving : IsServing order old db m)
          (parts : OfEach (λ whole left. (d : Directory) → IsConsistent order whole d → AreOfDirectory (numbers_of db.directory) in_use d → KeepsParts order whole left in_use d) old.facts.files facts.files) (carries : LosesUnused old.facts facts db) where
        abbrev changed : (left : Files) × IsSameChange old.facts.files facts.files serving.ideal left × DiffersInTables facts.files left
        changed = same_change old.facts.files facts.files serving.ideal serving.origin.differs

        -- what is left of the directory from which the files may come
        abbrev left : Files
        left = changed.0

        abbrev a : CanAppend order serving.ideal db.log.number db.log.end serving.contents (logged_in db.memory) db.memory.last
        a = serving.log.directory

        abbrev d : Directory
        d = a.directory

        listed : (content : TableContent) → InTables d.tables content → in_use content.placed.table.number
        listed content is =
            let here = has_placed serving.contents content (subst (λ (contents : List TableContent). InTables contents content) (sym a.in_tables) is) in
            let at = subst (λ (p : PlacedTable). Contains db.tables p) here.2 (serving.tables.version.all here.0 content.placed here.1) in
            table_used db.tables db.job db.iterators content.placed.table.number (content.placed, at, refl)

        numbers : AreOfDirectory (numbers_of db.directory) in_use d
        numbers = record { manifest = serving.log.knows.number; log_number = sym serving.log.knows.first_log; previous_log_number = sym serving.log.knows.previous_log; tables = listed }

        kept_parts : KeepsParts order serving.ideal left in_use d
        kept_parts = parts serving.ideal left serving.origin.differs changed.1 d a.consistent numbers

        -- each of its tables is used, and so reads as before in both
        comes_cleaned : ComesFrom order m.damaged facts.files left
        comes_cleaned = comes_behind order m.damaged old.facts.files facts.files serving.ideal left d.tables (logged d.logs) (used_in d) serving.origin changed.1 (inr (d, kept_parts.consistent, refl, refl, refl)) (λ e again same placed is.
            let found = content_at d.tables placed (contains_among (placed_in d.tables) placed is) in
            let numbered = subst (λ (p : PlacedTable). IsNumbered p.table.number) found.2 (table_of order serving.ideal d.tables found.0 a.consistent.tables found.1) in
            let used_one = subst (λ (p : PlacedTable). in_use p.table.number) found.2 (listed found.0 found.1) in
            origin_stays order.cmp old.facts.files facts.files serving.ideal left placed (used_same placed.table.number numbered used_one).1 (kept_parts.tables placed.table.number numbered used_one)
            (serving.origin.origins d a.consistent placed (subst (λ (ps : List PlacedTable). Contains ps placed) a.consistent.placed is)))

        keeps_each : (id : ℕ) (scan : Scan K g) (walk : Walk) → kept_at db.iterators id ≡ Some scan → IsLiveWalk order.cmp m.over_limit m.damaged (whole_of old db) scan walk → KeepsScan order.cmp scan (whole_of old db) (whole_of new after)
        keeps_each id scan walk there is = record {
          memory = λ cursor reads within. drops cursor db.memory memory used.others (used.kept cursor.generation (inr (memory_used db.tables db.job db.iterators id scan cursor.generation there reads)));
          files = λ number reads.
              let table = is.tables number reads in
              (used_same number table.1 (read_used db.tables db.job db.iterators id scan number there table.0)).1;
          sound = λ h. sound_cleaned serving.contents serving.tables;
        }

        abbrev log_cleaned : HasLog order left serving.contents after
        log_cleaned =
            let logs = serving.log.logs in
            let knows = serving.log.knows in
            let still : memory.sealed ≡ db.memory.sealed = ap (λ (one : Memories). one.sealed) used.others in
            record {
              named = serving.log.named;
              directory = record {
                directory = d;
                consistent = kept_parts.consistent;
                ends = kept_parts.log db.log.number db.log.end a.ends;
                in_tables = a.in_tables;
                in_logs = logged_same ∙ a.in_logs;
                spent = last_same ∙ a.spent;
              };
              logs = record { sealed = logs.sealed; current = logs.current; logs = logs.logs; number = logs.number; sealed_are = sealed_same ∙ logs.sealed_are; current_are = current_same ∙ logs.current_are; front = λ none. logs.front (sym still ∙ none); some = λ none. still ∙ logs.some (sym sealed_same ∙ none) };
              knows = record {
                first_log = knows.first_log;
                forward = knows.forward;
                previous_log = knows.previous_log;
                number = knows.number;
                named = knows.named;
                ends = kept_parts.manifest db.directory.manifest.end d.edits d.layout knows.ends;
                free = kept_parts.free db.directory.numbers.next knows.free;
              };
            }

        -- its logs aren't gone
        logs_left : (n : ℕ) → InLogs d.logs n → LeavesFile old.facts facts (name_of (Log n))
        logs_left n i = elim (loses (name_of (Log n))) [
          | inl same ↦ same
          | inr none ↦ absurd (let bad : true ≡ false = sym (log_there left d.logs n kept_parts.consistent.logs i).1 ∙ changed.2.names (name_of (Log n)) ∙ ap is_some none in cc)
        ]

        pub serving_cleaned : IsServing order new after (read_by facts m)
        serving_cleaned = record {
          whole = serving.whole;
          certain = serving.certain;
          ideal = left;
          origin = comes_cleaned;
          contents = serving.contents;
          log = log_cleaned;
          tables = record { version = serving.tables.version; in_order = serving.tables.in_order; sound = sound_cleaned serving.contents serving.tables; drawn = drawn_cleaned serving.contents serving.tables };
          entries = record {
            used = serving.entries.used ∙ sym last_same;
            fits = (let fits = serving.entries.fits in omega (arith, fits, last_same));
            view = rw (logged_same, last_same) serving.entries.view;
            bounded = rw (logged_same, last_same) serving.entries.bounded;
          };
          snapshots = rw (logged_same, last_same) serving.snapshots;
          iterators = walks_each order kept (whole_of old db) (whole_of new after) db.iterators m keeps_each (omega (arith, last_same)) serving.iterators;
          accounted = rw (logged_same) serving.accounted;
          readable = record {
            made = made_still order serving.ideal left d d m a.consistent kept_parts.consistent serving.readable.made;
            numbers = kept_parts.free m.numbers serving.readable.numbers;
            limits = λ is. limits_stay order serving.ideal left d one a.consistent kept_parts.consistent
                (λ content i. kept_parts.tables content.placed.table.number (table_of order serving.ideal d.tables content a.consistent.tables i) (listed content i)) (serving.readable.limits is);
          };
          numbers = serving.numbers;
          synced = synced_still old.facts facts db.log db.directory db.directory db.tables refl refl refl refl (omega arith) serving.synced
              (λ file is none. lost_kept old.facts facts (name_of file) (loses (name_of file)))
              (λ p there known. lost_table old.facts facts p.table.number (loses (name_of (Table p.table.number))) (loses (name_of (OldTable p.table.number)))
              (used_same p.table.number known.0 (table_used db.tables db.job db.iterators p.table.number (p, there, refl))).0)
              (stayed_unused old.facts facts db serving.synced.names carries serving.synced.stayed);
          recent = subst (λ (es : List Entry). AreRecent facts db.directory.manifest.number serving.contents (tabled serving.contents ++ es) d.logs m) (sym logged_same)
              (recent_same old.facts facts db.directory.manifest.number serving.contents (entries_of serving.contents db) d.logs m logs_left serving.recent);
          job = each_job _ _ db.job (λ work is c.
              goes_beside_read order (whole_of old db) (whole_of new after) db.directory.numbers.next db.directory.numbers.next db.snapshots db.snapshots db.iterators db.iterators db.tables m.damaged serving.ideal left d d work c
              a.consistent serving.log.knows.free db.directory.numbers.in_range.1 (omega arith) (λ number numbered below one.
              let of_job = subst (λ (o : Option (OpenJob K g)). IsJobTable o number) (sym is) one in
              whole_used number numbered (inr of_job) (names_unused old.facts facts db carries number numbered of_job))
              (λ h. sound_cleaned serving.contents serving.tables) (λ number kept_now. inl (fewer_kept number kept_now)) changed.1 refl refl refl
              (omega (arith, last_same)) (known_itself db.snapshots db.memory.last) (have_itself db.iterators db.tables)
              (λ number. version_unowned work.job.outputs order serving.ideal d serving.contents db.tables number a.consistent a.in_tables serving.tables.version c.running.unused)) serving.job;
        }
