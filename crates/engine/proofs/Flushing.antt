-- What a flush leaves of an open database.
use Rattle.std.proofs.Common.{true, ◌≡◌, ◌≢◌, ℕ, ◌+◌, ◌≤◌, ◌<◌, ◌^◌, List, [], ◌∷◌, ◌++◌, map, Option, Some, None, MatchOption, Contains, IsTrue, inl, inr, refl, sym, ap, subst, ◌∙◌, arith, String, string_bytes}
use Rattle.std.specs.declared.alloc.Global.{Global}
use Rattle.std.specs.Global.{Vec}
use Rattle.std.proofs.lemmas.List.{append-nil}
use Rattle.std.specs.FinMap.{get}
use Rattle.std.specs.declared.cmp.Ordering.{Ordering}
use Rattle.cache.specs.Tables.{table_at}
use Rattle.edits.specs.Edit.{HasPastLimit}
use Rattle.edits.specs.Layout.{fields_of}
use Rattle.edits.specs.Names.{name_of, IsNumbered}
use Rattle.edits.specs.declared.field.Field.{Field}
use Rattle.edits.specs.declared.field.PlacedTable.{PlacedTable}
use Rattle.edits.specs.declared.names.FileName.TheVariants.{Log, Manifest, Table, OldTable}
use Rattle.ikey.specs.Orders.{Order}
use Rattle.ikey.specs.Sources.{SameEntries, SameViewLaw}
use Rattle.ikey.specs.Views.{Among}
use Rattle.ikey.specs.declared.entry.Entry.{Entry}
use Rattle.memtables.specs.Memories.{Memories, logged_in, sealed_inserts}
use Rattle.memtables.specs.Places.{MemoriesPlace, KeepsMemories}
use Rattle.running_job.specs.Running.{deep_of}
use Rattle.recover.specs.internal.Changes.{ManifestEndsAt, flushed, with_content}
use Rattle.recover.specs.Numbers.{IsFree}
use Rattle.recover.specs.Directory.{Directory, HasManifest, IsConsistent, entries_in, used_in}
use Rattle.recover.specs.internal.Laws.{OneDirectoryLaw}
use Rattle.recover.specs.Logs.{InLogs, LogContent, batch_entries, logged}
use Rattle.recover.specs.Report.{IsLongTable, AnyHasBytes}
use Rattle.recover.specs.Tables.{TableContent, tabled}
use Rattle.db_cursor.specs.Scans.{KeepsScan}
use Rattle.db_cursor.specs.internal.Scanning.{ScanIsKept}
use Rattle.db_cursor.specs.declared.scan.Scan.{Scan}
use Rattle.table_access.specs.Tables.{Seen, IsSound, KeepsOf, SoundLasts}
use Rattle.table_access.proofs.Sounding.{same_file, same_table}
use Rattle.store.specs.Files.{Facts, Files}
use Rattle.store.specs.Losses.{CarriesBut, StaysNamed}
use Rattle.store.proofs.Staying.{stays_on}
use Rattle.directory_writes.specs.internal.Flush.{CanFlush, FlushTouches, HasFlushed, IsFlushed, IsUnflushed, MayBeFlushed, PassesNoLimit}
use Rattle.directory_writes.specs.declared.flush.FlushPlan.{FlushPlan}
use Rattle.directory_writes.proofs.PlansKept.{flushed_plan}
use Rattle.versions.specs.Levels.{AreInOrder, ListsSameTables}
use Rattle.opening.specs.declared.directory.DirectoryState.{DirectoryState}
use Rattle.opening.specs.internal.Directories.{CanAppend}
use Rattle.engine.specs.internal.Directory.{IsReadable}
use Rattle.engine.specs.OpenDb.{OpenDb, whole_of}
use Rattle.directory_writes.specs.internal.Calls.{LeavesFile}
use Rattle.engine.proofs.Synced.{whole_left}
use Rattle.engine.proofs.RecentFlushes.{recent_flushed, with_logged}
use Rattle.engine.proofs.RecentLosses.{in_second}
use Rattle.engine.proofs.RecentWrites.{recent_same}
use Rattle.engine.specs.internal.Recent.{AreRecent}
use Rattle.engine.specs.internal.Synced.{IsSyncedBut}
use Rattle.engine.specs.internal.Standing.{entries_of, HasLog, IsBroken, IsServing}
use Rattle.engine.specs.internal.Live.{IsLiveWalk}
use Rattle.engine.specs.Origins.{ComesFrom}
use Rattle.engine.proofs.Extended.{comes_extended, comes_with, placed_number}
use Rattle.engine.proofs.Origins.{StaysUnder}
use Rattle.directory_writes.proofs.SameCalls.{free_table}
use Rattle.directory_writes.proofs.SameChanges.{same_change}
use Rattle.directory_writes.specs.Differing.{IsSameChange}
use Rattle.recover.proofs.Memberships.{new_in_with, one_of_tables}
use Rattle.engine.specs.Reads.{kept_at}
use Rattle.machine.specs.Machine as machine
use Rattle.machine.specs.Machine.{Machine, Walk, entry_count, weight}
use Rattle.engine.specs.internal.Compacting.{IsCompacting}
use Rattle.engine.proofs.Compacting.{each_job, goes_beside, goes_on_as, have_itself, runs_still, is_own_number, known_itself, owns_none_with, version_unowned}
use Rattle.engine.proofs.Pieces.{accounted_same, bounded_same, free_up, made_still, rests_as, same_back, same_by, snapshots_same, walks_each}
use Rattle.engine.proofs.Reading.{below_next}
use Rattle.opening.proofs.Reopening.{files_apart, long_back}

-- a cursor over a memtable reads on where none is sealed any more
abbrev pub FlushKept : (List ℕ → List ℕ → Ordering) → Type 0
FlushKept cmp = (cursor : MemoriesPlace) (old new : Memories) → new ≡ record old { sealed = None } → KeepsMemories cmp cursor old new

module _ {K : Type 0} {g : _} (order : Order) (kept : (scan : Scan K g) → ScanIsKept order.cmp scan) (one : OneDirectoryLaw) (lasts : SoundLasts) (law : SameViewLaw) (flushes : FlushKept order.cmp)
    (old : Seen) (facts : Facts) (db : OpenDb K g) (m : Machine) (serving : IsServing order old db m) (plan : FlushPlan) (after : ℕ) where
  abbrev next : ℕ
  next = db.directory.numbers.next

  abbrev new : Seen
  new = record old { facts = facts }

  abbrev a : CanAppend order serving.ideal db.log.number db.log.end serving.contents (logged_in db.memory) db.memory.last
  a = serving.log.directory

  abbrev d : Directory
  d = a.directory

  abbrev sealed : List LogContent
  sealed = serving.log.logs.sealed

  abbrev current : LogContent
  current = serving.log.logs.current

  -- the same, done to the directory from which the files come
  abbrev behind : Files
  behind = (same_change old.facts.files facts.files serving.ideal serving.origin.differs).0

  behind_is : IsSameChange old.facts.files facts.files serving.ideal behind
  behind_is = (same_change old.facts.files facts.files serving.ideal serving.origin.differs).1

  -- the machine after it
  abbrev pub drawn_by : Machine
  drawn_by = record m { numbers = m.numbers + 1; failures = facts.failures; denials = facts.denials }

  entries_are : entries_of serving.contents db ≡ entries_in d
  entries_are = λ i. tabled (a.in_tables i) ++ a.in_logs i

  -- the sealed table can be flushed
  pub can_flush : plan.log_number ≡ db.log.number → plan.previous_log_number ≡ db.directory.previous_log → plan.last_sequence ≡ db.memory.last → (entries : List Entry) → entries ≡ sealed_inserts db.memory
      → CanFlush order serving.ideal next plan db.directory.manifest entries db.tables d sealed current
  can_flush log previous sequence entries is =
      let knows = serving.log.knows in
      let logs = serving.log.logs in
      record {
        consistent = a.consistent;
        logs = logs.logs;
        entries_are = subst (λ (es : List Entry). SameEntries entries es) (is ∙ logs.sealed_are) (λ e. (λ i. i, λ i. i));
        log_number = logs.number ∙ sym log;
        forward = omega (arith, knows.first_log, knows.forward, log);
        previous = knows.previous_log ∙ sym previous;
        used = sequence ∙ a.spent;
        number = knows.number;
        named = knows.named;
        ends = knows.ends;
        free = knows.free;
        listed = subst (λ (contents : List TableContent). ListsSameTables (map (λ (content : TableContent). content.placed) contents) db.tables) a.in_tables serving.tables.version;
      }

  -- ---- other tables

  -- the tables that were there before the flush read the same
  abbrev pub StaysBelow : Type 0
  StaysBelow = (n : ℕ) → IsNumbered n → n < next → table_at facts.files n ≡ table_at old.facts.files n

  -- under both of their names, and what of the newer one is synced
  abbrev pub NamesStay : Type 0
  NamesStay = (n : ℕ) → IsNumbered n → n < next → LeavesFile old.facts facts (name_of (Table n)) × (get facts.files (name_of (OldTable n)) ≡ get old.facts.files (name_of (OldTable n)))

  -- and keep the newer one, if it has stayed since the last sync
  abbrev pub NamedBelow : Type 0
  NamedBelow = (n : ℕ) → IsNumbered n → n < next → StaysNamed old.facts (name_of (Table n)) → StaysNamed facts (name_of (Table n))

  module _ (t : IsTrue facts.faithful) (drawn : 0 < next) (few : next < 2 ^ 62) (touches : FlushTouches old.facts facts (name_of (Table next)) (string_bytes db.directory.manifest.name)) where
    numbered_next : IsNumbered next
    numbered_next = (drawn, omega (arith, few))

    other_file : (name : List ℕ) → name ≢ name_of (Table next) → name ≢ name_of (Manifest d.manifest) → get facts.files name ≡ get old.facts.files name
    other_file name apart other = touches.others t name apart (λ e. other (e ∙ serving.log.knows.named))

    newer_same : (n : ℕ) → IsNumbered n → n ≢ next → get facts.files (name_of (Table n)) ≡ get old.facts.files (name_of (Table n))
    newer_same n numbered apart =
        other_file (name_of (Table n)) (files_apart (Table n) (Table next) numbered numbered_next (λ e. apart (let is : n ≡ next = cc in is)))
        (files_apart (Table n) (Manifest d.manifest) numbered a.consistent.manifest.numbered (λ e. cc))

    older_same : (n : ℕ) → IsNumbered n → get facts.files (name_of (OldTable n)) ≡ get old.facts.files (name_of (OldTable n))
    older_same n numbered =
        other_file (name_of (OldTable n)) (files_apart (OldTable n) (Table next) numbered numbered_next (λ e. cc))
        (files_apart (OldTable n) (Manifest d.manifest) numbered a.consistent.manifest.numbered (λ e. cc))

    apart_next : (n : ℕ) → n < next → n ≢ next
    apart_next n less e = absurd (omega (arith, less, e))

    pub names_same : NamesStay
    names_same n numbered less = (
      (
        newer_same n numbered (apart_next n less),
        touches.synced t (name_of (Table n)) (files_apart (Table n) (Table next) numbered numbered_next (λ e. apart_next n less (let is : n ≡ next = cc in is)))
            (λ e. files_apart (Table n) (Manifest d.manifest) numbered a.consistent.manifest.numbered (λ same. cc) (e ∙ serving.log.knows.named)),
      ),
      older_same n numbered,
    )

    pub table_same : StaysBelow
    table_same n numbered less = same_table old.facts.files facts.files n (newer_same n numbered (apart_next n less)) (older_same n numbered)

    pub sound_beside : IsSound order.cmp old → IsSound order.cmp new
    sound_beside sound =
        lasts order.cmp old facts
        (λ kept_one file is there.
        let known = serving.tables.drawn kept_one.number (inl (kept_one, is, refl)) in (
          sym (table_same kept_one.number known.0 known.1) ∙ there,
          λ has. same_file old.facts.files facts.files kept_one.number kept_one.table.name (sound.tables kept_one is).0 (newer_same kept_one.number known.0 (apart_next kept_one.number known.1)) (older_same kept_one.number known.0) ∙ has,
        ))
        (λ block file is there. let known = serving.tables.drawn block.file (inr (block, is, refl)) in sym (table_same block.file known.0 known.1) ∙ there) sound

  pub named_below : (0 < next) → (next < 2 ^ 62) → CarriesBut old.facts facts (λ (q : List ℕ). q ≡ name_of (Table next)) → NamedBelow
  named_below drawn few carries n numbered less =
      stays_on old.facts facts (λ (q : List ℕ). q ≡ name_of (Table next)) (name_of (Table n))
      (files_apart (Table n) (Table next) numbered (drawn, omega (arith, few)) (λ e. let is : n ≡ next = cc in absurd (omega (arith, less, is)))) carries

  -- where nothing was done, too
  pub named_unchanged : facts ≡ old.facts → NamedBelow
  named_unchanged same n numbered less h = subst (λ (f : Facts). StaysNamed f (name_of (Table n))) (sym same) h

  pub names_unchanged : facts ≡ old.facts → NamesStay
  names_unchanged same n numbered less = ((ap (λ (f : Facts). get f.files (name_of (Table n))) same, ap (λ (f : Facts). f.synced (name_of (Table n))) same), ap (λ (f : Facts). get f.files (name_of (OldTable n))) same)

  pub table_unchanged : facts ≡ old.facts → StaysBelow
  table_unchanged same n numbered less = ap (λ (f : Facts). table_at f.files n) same

  pub sound_unchanged : facts ≡ old.facts → IsSound order.cmp old → IsSound order.cmp new
  sound_unchanged same sound = subst (λ (f : Facts). IsSound order.cmp (record old { facts = f })) (sym same) sound

  -- ---- what stands then

  module _ (stays : StaysBelow) (names : NamesStay) (sound_still : IsSound order.cmp old → IsSound order.cmp new) (freed : IsFree order behind after) (upto : after ≤ next + 1) where
    keeps_each : (memory : Memories) → ((cursor : MemoriesPlace) → KeepsMemories order.cmp cursor db.memory memory)
        → (id : ℕ) (scan : Scan K g) (walk : Walk) → kept_at db.iterators id ≡ Some scan → IsLiveWalk order.cmp m.over_limit m.damaged (whole_of old db) scan walk
        → KeepsScan order.cmp scan (whole_of old db) (record { seen = new; memory = memory })
    keeps_each memory keeps id scan walk there is = record {
      memory = λ cursor reads within. keeps cursor;
      files = λ number reads.
          let table = is.tables number reads in
          stays number table.1 (below_next order old.facts.files serving.ideal next number serving.origin.differs serving.log.knows.free table.1 table.2);
      sound = sound_still;
    }

    -- the tables that were there are as they were
    tables_stay : (placed : PlacedTable) → Contains d.layout.tables.items placed → StaysUnder old.facts.files facts.files placed.table.number
    tables_stay placed is =
        let known = placed_number order serving.ideal d next placed a.consistent serving.log.knows.free is in
        let same = names placed.table.number known.0 known.1 in
        (same.0.0, same.1)

    -- the files come from the directory with the new table, or without it
    comes_flushed : (entries : List Entry) → HasFlushed order serving.ideal behind next after entries d sealed current → ComesFrom order m.damaged facts.files behind
    comes_flushed entries f =
        let e = flushed d (d.edits ++ f.edit ∷ []) f.next f.content current in
        let has = one_of_tables order behind (with_content f.content d.tables) f.content f.consistent.tables (new_in_with f.content d.tables) in
        let number_is : next ≡ f.content.placed.table.number = sym f.number_is in
        let numbered : IsNumbered next = subst IsNumbered f.number_is has.numbered in
        comes_with order m.damaged old.facts.files facts.files serving.ideal behind d serving.origin behind_is a.consistent tables_stay e f.content f.consistent refl
        (subst (λ (n : ℕ). table_at behind n ≡ table_at facts.files n) number_is (free_table order old.facts.files facts.files serving.ideal behind next numbered serving.origin.differs behind_is serving.log.knows.free))

    comes_unflushed : HasManifest order behind d.manifest d.edits d.layout → ComesFrom order m.damaged facts.files behind
    comes_unflushed has = comes_extended order m.damaged old.facts.files facts.files serving.ideal behind d serving.origin behind_is a.consistent tables_stay has

    readable_as : (e : Directory) → IsConsistent order behind e → (PassesNoLimit order serving.ideal d → PassesNoLimit order behind e) → IsReadable order behind drawn_by
    readable_as e good passes = record {
      made = made_still order serving.ideal behind d e m a.consistent good serving.readable.made;
      numbers = (let below : next ≤ m.numbers = serving.numbers in free_up order behind after (m.numbers + 1) (omega (arith, upto, below)) freed);
      limits = λ is f good_f past.
          let none = passes (λ old_past. serving.readable.limits is d a.consistent old_past) in
          let same = one order behind f e good_f good in
          none (elim past [
            | inl numbers ↦ inl (subst (λ (edits : List (List Field)). HasPastLimit (fields_of edits)) same.1 numbers)
            | inr long ↦ inr (subst (λ (tables : List TableContent). AnyHasBytes (IsLongTable order) behind tables) same.3 long)
          ]);
    }

    drawn_after : (n : ℕ) → next ≤ after → KeepsOf new n → IsNumbered n × (n < after)
    drawn_after n le is = let known = serving.tables.drawn n is in (known.0, (let less = known.1 in omega (arith, less, le)))

    -- ---- the table is in the directory

    module _ (end : ℕ) (tables : List PlacedTable) (pointers : List (Option (List ℕ))) (state : DirectoryState) (entries : List Entry) (in_order : AreInOrder order.cmp tables) (has : IsFlushed order serving.ideal behind next after end entries tables d sealed current)
        (number : state.manifest.number ≡ db.directory.manifest.number) (name : state.manifest.name ≡ db.directory.manifest.name) (ends : state.manifest.end ≡ end) (first_log : state.first_log ≡ db.log.number) (previous_log : state.previous_log ≡ 0)
        (next_is : state.numbers.next ≡ after) (le : next ≤ after) (front : Vec (String Global)) (synced : IsSyncedBut facts (record db.log { front = front }) state tables)
        (logs_left : (n : ℕ) → InLogs d.logs n → LeavesFile old.facts facts (name_of (Log n))) (named : NamedBelow) where
      abbrev f : HasFlushed order serving.ideal behind next after entries d sealed current
      f = has.has

      abbrev e : Directory
      e = flushed d (d.edits ++ f.edit ∷ []) f.next f.content current

      abbrev memory : Memories
      memory = record db.memory { sealed = None }

      abbrev pub flushed_db : OpenDb K g
      flushed_db = record db { memory = memory; tables = tables; compact_pointers = pointers; directory = state; log = record db.log { front = front } }

      in_current : db.memory.current.inserts ≡ logged (current ∷ [])
      in_current = serving.log.logs.current_are ∙ sym (append-nil (batch_entries current.batches))

      same : SameEntries (entries_of serving.contents db) (entries_of e.tables flushed_db)
      same = same_back (entries_of e.tables flushed_db) (entries_of serving.contents db)
          (same_by (entries_of e.tables flushed_db) (entries_in e) (entries_in d) (entries_of serving.contents db) (ap (λ (es : List Entry). tabled e.tables ++ es) in_current) f.same (sym entries_are))

      abbrev log_flushed : HasLog order behind e.tables flushed_db
      log_flushed =
          let knows = serving.log.knows in
          record {
            named = serving.log.named;
            directory = record {
              directory = e;
              consistent = f.consistent;
              ends = f.kept.ends db.log.number db.log.end a.ends;
              in_tables = refl;
              in_logs = in_current;
              spent = a.spent ∙ sym f.used;
            };
            logs = record { sealed = []; current = current; logs = refl; number = serving.log.logs.number; sealed_are = refl; current_are = serving.log.logs.current_are; front = λ none. refl; some = λ none. refl };
            knows = record {
              first_log = f.flush.log_number ∙ serving.log.logs.number ∙ sym first_log;
              forward = omega (arith, first_log);
              previous_log = f.flush.previous_log_number ∙ sym previous_log;
              number = number ∙ knows.number;
              named = ap string_bytes name ∙ knows.named;
              ends = subst (λ (k : ℕ). ManifestEndsAt order behind d.manifest k (d.edits ++ f.edit ∷ []) f.next) (sym ends) has.ends;
              free = subst (λ (k : ℕ). IsFree order behind k) (sym next_is) has.free;
            };
          }

      -- the new table is one of those that a compaction doesn't take
      job_flushed : MatchOption db.job (Unit {0}) (IsCompacting order m.damaged (whole_of new flushed_db) behind state.numbers.next db.snapshots db.iterators e)
      job_flushed = each_job _ _ db.job (λ work is c.
          let r = c.running in
          let free = serving.log.knows.free in
          let fits = db.directory.numbers.in_range.1 in
          let own_are = is_own_number order (whole_of old db) (whole_of new flushed_db) next state.numbers.next db.snapshots db.snapshots db.iterators db.iterators db.tables m.damaged serving.ideal behind d e work c a.consistent free fits in
          goes_on_as order (whole_of old db) (whole_of new flushed_db) next state.numbers.next db.snapshots db.snapshots db.iterators db.iterators db.tables m.damaged serving.ideal behind d e work c
          (runs_still order (whole_of old db) (whole_of new flushed_db) next state.numbers.next db.snapshots db.snapshots db.iterators db.iterators db.tables m.damaged serving.ideal behind d e work c a.consistent free fits
          (omega (arith, next_is, le)) (λ n numbered below one. (whole_left old.facts facts (name_of (Table n)) (names n numbered below).0 (named n numbered below), stays n numbered below)) sound_still (λ n kept_now. inl kept_now) behind_is (with_content f.content r.rest)
          (flushed_plan order serving.ideal (deep_of order.cmp work) work.job.plan d f.next f.content sealed current r.inputs r.rest a.consistent f.flush r.planned)
          (owns_none_with work.job.outputs f.content.placed d.layout.tables.items f.next.tables.items f.flush.tables (λ own. let known = own_are f.content.placed.table.number own in (let less = known.1 in let number_is = f.number_is in absurd (omega (arith, less, number_is)))) r.unused))
          (omega arith) (known_itself db.snapshots db.memory.last) (have_itself db.iterators db.tables)
          (λ number. version_unowned work.job.outputs order serving.ideal d serving.contents db.tables number a.consistent a.in_tables serving.tables.version r.unused) refl) serving.job

      -- what was accepted last is in the log that goes on
      recent_now : AreRecent facts state.manifest.number e.tables (entries_of e.tables flushed_db) (current ∷ []) m
      recent_now =
          subst (λ (n : ℕ). AreRecent facts n e.tables (entries_of e.tables flushed_db) (current ∷ []) m) (sym number)
          (recent_flushed old.facts facts db.directory.manifest.number serving.contents e.tables (entries_of serving.contents db) (entries_of e.tables flushed_db) sealed current m
          (subst (λ (ls : List LogContent). AreRecent old.facts db.directory.manifest.number serving.contents (entries_of serving.contents db) ls m) serving.log.logs.logs serving.recent)
          (subst (λ (contents : List TableContent). (x : Entry) → Among (tabled e.tables) x → Among (tabled contents ++ logged sealed) x) (sym a.in_tables) (with_logged d.tables f.content sealed f.flush.entries)) same
          (logs_left current.number (subst (λ (ls : List LogContent). InLogs ls current.number) (sym serving.log.logs.logs) (in_second current.number sealed (current ∷ []) (inl refl)))).1)

      pub serving_flushed : IsServing order new flushed_db drawn_by
      serving_flushed = record {
        whole = serving.whole;
        certain = serving.certain;
        ideal = behind;
        origin = comes_flushed entries f;
        contents = e.tables;
        log = log_flushed;
        tables = record {
          version = has.listed;
          in_order = in_order;
          sound = sound_still serving.tables.sound;
          drawn = λ n is. let known = drawn_after n le is in (known.0, (let less = known.1 in omega (arith, less, next_is)));
        };
        entries = record {
          used = serving.entries.used;
          fits = serving.entries.fits;
          view = (law (entries_of serving.contents db) (entries_of e.tables flushed_db) db.memory.last same).0 (machine.current m) serving.entries.view;
          bounded = bounded_same (entries_of serving.contents db) (entries_of e.tables flushed_db) db.memory.last same serving.entries.bounded;
        };
        snapshots = snapshots_same law (entries_of serving.contents db) (entries_of e.tables flushed_db) db.memory.last m db.snapshots same serving.snapshots;
        iterators = walks_each order kept (whole_of old db) (whole_of new flushed_db) db.iterators m (keeps_each memory (λ cursor. flushes cursor db.memory memory refl)) (omega arith) serving.iterators;
        accounted = accounted_same (entries_of serving.contents db) (entries_of e.tables flushed_db) (entry_count m) (weight m) same serving.accounted;
        readable = readable_as e f.consistent f.limits;
        numbers = (let below : next ≤ m.numbers = serving.numbers in omega (arith, next_is, upto, below));
        synced = synced;
        recent = recent_now;
        job = job_flushed;
      }

    -- ---- it isn't, and nothing was lost

    module _ (state : DirectoryState) (entries : List Entry) (has : IsUnflushed order serving.ideal behind after plan db.directory.manifest entries db.tables d sealed current)
        (number : state.manifest.number ≡ db.directory.manifest.number) (name : state.manifest.name ≡ db.directory.manifest.name) (ends : state.manifest.end ≡ db.directory.manifest.end) (first_log : state.first_log ≡ db.directory.first_log)
        (previous_log : state.previous_log ≡ db.directory.previous_log) (next_is : state.numbers.next ≡ after) (le : next ≤ after) (synced : IsSyncedBut facts db.log state db.tables)
        (logs_left : (n : ℕ) → InLogs d.logs n → LeavesFile old.facts facts (name_of (Log n))) (named : NamedBelow) where
      abbrev pub unflushed_db : OpenDb K g
      unflushed_db = record db { directory = state }

      abbrev log_unflushed : HasLog order behind serving.contents unflushed_db
      log_unflushed =
          let knows = serving.log.knows in
          record {
            named = serving.log.named;
            directory = record {
              directory = d;
              consistent = has.can.consistent;
              ends = has.kept.ends db.log.number db.log.end a.ends;
              in_tables = a.in_tables;
              in_logs = a.in_logs;
              spent = a.spent;
            };
            logs = serving.log.logs;
            knows = record {
              first_log = knows.first_log ∙ sym first_log;
              forward = (let forward = knows.forward in omega (arith, forward, first_log));
              previous_log = knows.previous_log ∙ sym previous_log;
              number = number ∙ knows.number;
              named = ap string_bytes name ∙ knows.named;
              ends = subst (λ (k : ℕ). ManifestEndsAt order behind d.manifest k d.edits d.layout) (sym ends) has.can.ends;
              free = subst (λ (k : ℕ). IsFree order behind k) (sym next_is) has.can.free;
            };
          }

      passes_still : PassesNoLimit order serving.ideal d → PassesNoLimit order behind d
      passes_still none past = none (elim past [
        | inl numbers ↦ inl numbers
        | inr long ↦ inr (long_back order serving.ideal behind d.tables has.kept.beside.tables long)
      ])

      pub serving_unflushed : IsServing order new unflushed_db drawn_by
      serving_unflushed = record {
        whole = serving.whole;
        certain = serving.certain;
        ideal = behind;
        origin = comes_unflushed has.can.consistent.manifest;
        contents = serving.contents;
        log = log_unflushed;
        tables = record {
          version = serving.tables.version;
          in_order = serving.tables.in_order;
          sound = sound_still serving.tables.sound;
          drawn = λ n is. let known = drawn_after n le is in (known.0, (let less = known.1 in omega (arith, less, next_is)));
        };
        entries = serving.entries;
        snapshots = serving.snapshots;
        iterators = walks_each order kept (whole_of old db) (whole_of new unflushed_db) db.iterators m (keeps_each db.memory (λ cursor. refl)) (omega arith) serving.iterators;
        accounted = serving.accounted;
        readable = readable_as d has.can.consistent passes_still;
        numbers = (let below : next ≤ m.numbers = serving.numbers in omega (arith, next_is, upto, below));
        synced = synced;
        recent = subst (λ (n : ℕ). AreRecent facts n serving.contents (entries_of serving.contents db) d.logs m) (sym number)
            (recent_same old.facts facts db.directory.manifest.number serving.contents (entries_of serving.contents db) d.logs m logs_left serving.recent);
        job = each_job _ _ db.job (λ work is c.
            goes_beside order (whole_of old db) (whole_of new unflushed_db) next state.numbers.next db.snapshots db.snapshots db.iterators db.iterators db.tables m.damaged serving.ideal behind d d work c
            a.consistent serving.log.knows.free db.directory.numbers.in_range.1 (omega (arith, next_is, le)) (λ n numbered below one. let same = names n numbered below in (whole_left old.facts facts (name_of (Table n)) same.0 (named n numbered below), same.1)) sound_still (λ n kept_now. inl kept_now) behind_is refl refl refl
            (omega arith) (known_itself db.snapshots db.memory.last) (have_itself db.iterators db.tables)
            (λ number. version_unowned work.job.outputs order serving.ideal d serving.contents db.tables number a.consistent a.in_tables serving.tables.version c.running.unused)) serving.job;
      }

    -- ---- it is or isn't

    pub broken_flush : (entries : List Entry) → MayBeFlushed order serving.ideal behind next after entries d sealed current → IsBroken order facts.files (record drawn_by { broken = true })
    broken_flush entries may = elim may.either [
      | inl still ↦ broken_as d (comes_unflushed still.0.manifest) still.0 (λ none past. none (elim past [
        | inl numbers ↦ inl numbers
        | inr long ↦ inr (long_back order serving.ideal behind d.tables still.1.beside.tables long)
      ])) (same_by (entries_of serving.contents db) (entries_of serving.contents db) (entries_of serving.contents db) (entries_in d) refl (λ e. (λ i. i, λ i. i)) entries_are) refl
      | inr done ↦
          let e = flushed d (d.edits ++ done.edit ∷ []) done.next done.content current in
          broken_as e (comes_flushed entries done) done.consistent done.limits
          (same_by (entries_of serving.contents db) (entries_in d) (entries_in e) (entries_in e) entries_are (same_back (entries_in e) (entries_in d) done.same) refl) done.used
    ]
      where
        broken_as : (e : Directory) → ComesFrom order m.damaged facts.files behind → IsConsistent order behind e → (PassesNoLimit order serving.ideal d → PassesNoLimit order behind e) → SameEntries (entries_of serving.contents db) (entries_in e) → used_in e ≡ used_in d
            → IsBroken order facts.files (record drawn_by { broken = true })
        broken_as e origin good passes same used =
            let readable = readable_as e good passes in
            record {
              broken = refl;
              rest = record {
                ideal = behind;
                origin = origin;
                meaning = rests_as order law old db m serving behind e good same (used ∙ sym a.spent);
                readable = record { made = readable.made; numbers = readable.numbers; limits = readable.limits };
              };
            }
