-- What the sealing of the memtable and a new log leave of an open database.
use Rattle.std.proofs.Common.{true, ◌≡◌, ◌≢◌, ◌⊎◌, ℕ, ◌+◌, ◌≤◌, ◌<◌, ◌^◌, List, [], ◌∷◌, ◌++◌, map, length, max, Option, Some, None, IsTrue, IsSome, inl, inr, refl, sym, ap, subst, ◌∙◌, arith, string_bytes}
use Rattle.std.proofs.lemmas.List.{append-nil}
use Rattle.std.specs.FinMap.{get}
use Rattle.cache.specs.Tables.{table_at}
use Rattle.edits.specs.Names.{name_of, IsNumbered}
use Rattle.edits.specs.declared.names.FileName.TheVariants.{Log, Table, OldTable}
use Rattle.ikey.specs.Orders.{Order}
use Rattle.ikey.specs.Sources.{SameViewLaw}
use Rattle.ikey.specs.declared.entry.Entry.{Entry}
use Rattle.memtables.specs.Changes.{IsSealed}
use Rattle.memtables.specs.Memories.{Memories, inserts_of, logged_in, older_at, sealed_inserts, table_in}
use Rattle.memtables.specs.Places.{MemoriesPlace, KeepsMemories}
use Rattle.recover.specs.internal.Changes.{ManifestEndsAt, empty_log, with_log}
use Rattle.recover.specs.Directory.{Directory, EndsAt, HasManifest, IsConsistent, entries_in, used_in}
use Rattle.recover.specs.Entries.{greatest}
use Rattle.recover.specs.Report.{IsLongTable, AnyHasBytes}
use Rattle.edits.specs.Edit.{HasPastLimit}
use Rattle.edits.specs.Layout.{fields_of}
use Rattle.edits.specs.declared.field.Field.{Field}
use Rattle.recover.specs.internal.Laws.{OneDirectoryLaw}
use Rattle.recover.specs.Logs.{InLogs, logged}
use Rattle.recover.specs.Numbers.{IsFree}
use Rattle.recover.specs.Tables.{TableContent, tabled}
use Rattle.recover.proofs.Adding.{table_of}
use Rattle.recover.proofs.NewLogs.{log_there}
use Rattle.db_cursor.specs.Scans.{KeepsScan}
use Rattle.db_cursor.specs.internal.Scanning.{ScanIsKept}
use Rattle.db_cursor.specs.declared.scan.Scan.{Scan}
use Rattle.table_access.specs.Tables.{Seen, IsSound, SoundLasts}
use Rattle.table_access.proofs.Sounding.{same_file, same_table}
use Rattle.std.specs.declared.cmp.Ordering.{Ordering}
use Rattle.std.specs.Option.{option_and_then}
use Rattle.store.specs.Calls.{Adds, Idles}
use Rattle.store.specs.Files.{Creation, Facts, Files}
use Rattle.store.proofs.Staying.{stays_on}
use Rattle.store.specs.Losses.{CarriesBut}
use Rattle.table.specs.Writing.{KeepsOthers}
use Rattle.directory_writes.specs.internal.LogFile.{HasNewLog}
use Rattle.opening.specs.declared.directory.DirectoryState.{DirectoryState}
use Rattle.opening.specs.declared.directory.CurrentLog.{CurrentLog}
use Rattle.opening.specs.internal.Directories.{CanAppend}
use Rattle.engine.specs.internal.Directory.{IsReadable}
use Rattle.engine.specs.OpenDb.{OpenDb, whole_of}
use Rattle.engine.proofs.Synced.{sealed_synced, synced_same, whole_left}
use Rattle.engine.specs.internal.Standing.{entries_of, HasLog, IsBroken, IsServing}
use Rattle.engine.proofs.RecentWrites.{recent_same, recent_sealed}
use Rattle.engine.specs.internal.Recent.{AreRecent}
use Rattle.engine.specs.internal.Live.{IsLiveWalk}
use Rattle.engine.specs.Origins.{ComesFrom}
use Rattle.engine.proofs.Extended.{comes_extended, no_change, placed_number}
use Rattle.directory_writes.proofs.SameChanges.{same_change}
use Rattle.directory_writes.specs.Differing.{IsSameChange}
use Rattle.engine.specs.Reads.{kept_at}
use Rattle.machine.specs.Machine.{Machine, Walk}
use Rattle.engine.proofs.Compacting.{each_job, goes_beside, have_itself, known_itself, version_unowned}
use Rattle.engine.proofs.Pieces.{free_up, made_still, rests_as, same_by, walks_each}
use Rattle.opening.proofs.Reopening.{files_apart, long_back}

-- ---- a number is drawn, or none

module _ {K : Type 0} {g : _} (order : Order) (source : Seen) (db : OpenDb K g) (m : Machine) (state : DirectoryState) where
  pub serving_drawn : IsServing order source db m → state.manifest.number ≡ db.directory.manifest.number → state.manifest.name ≡ db.directory.manifest.name → state.manifest.end ≡ db.directory.manifest.end → state.first_log ≡ db.directory.first_log
      → state.previous_log ≡ db.directory.previous_log → db.directory.numbers.next ≤ state.numbers.next → state.numbers.next ≤ db.directory.numbers.next + 1 → IsServing order source (record db { directory = state }) (record m { numbers = m.numbers + 1 })
  serving_drawn h number name ends first_log previous_log le upto =
      let knows = h.log.knows in
      let d = h.log.directory.directory in
      record {
        whole = h.whole;
        certain = h.certain;
        ideal = h.ideal;
        origin = h.origin;
        contents = h.contents;
        log = record {
          named = h.log.named;
          directory = h.log.directory;
          logs = h.log.logs;
          knows = record {
            first_log = knows.first_log ∙ sym first_log;
            forward = (let forward = knows.forward in omega (arith, forward, first_log));
            previous_log = knows.previous_log ∙ sym previous_log;
            number = number ∙ knows.number;
            named = ap string_bytes name ∙ knows.named;
            ends = subst (λ (k : ℕ). ManifestEndsAt order h.ideal d.manifest k d.edits d.layout) (sym ends) knows.ends;
            free = free_up order h.ideal db.directory.numbers.next state.numbers.next le knows.free;
          };
        };
        tables = record {
          version = h.tables.version;
          in_order = h.tables.in_order;
          sound = h.tables.sound;
          drawn = λ n is. let known = h.tables.drawn n is in (known.0, (let less = known.1 in omega (arith, less, le)));
        };
        entries = h.entries;
        snapshots = h.snapshots;
        iterators = h.iterators;
        accounted = h.accounted;
        readable = record { made = h.readable.made; numbers = free_up order h.ideal m.numbers (m.numbers + 1) (omega arith) h.readable.numbers; limits = h.readable.limits };
        numbers = (let below = h.numbers in omega (arith, below, upto));
        recent = subst (λ (n : ℕ). AreRecent source.facts n h.contents (entries_of h.contents db) d.logs m) (sym number) h.recent;
        synced = synced_same source.facts source.facts db.log db.directory state db.tables number name first_log previous_log le h.synced refl refl refl;
        job = each_job _ _ db.job (λ work is c.
            goes_beside order (whole_of source db) (whole_of source db) db.directory.numbers.next state.numbers.next db.snapshots db.snapshots db.iterators db.iterators db.tables m.damaged h.ideal h.ideal d d work c
            h.log.directory.consistent knows.free db.directory.numbers.in_range.1 le (λ number numbered below one. ((refl, λ file there was. was, λ stays. stays), refl)) (λ sound. sound) (λ number kept_now. inl kept_now) (no_change source.facts.files source.facts.files h.ideal refl) refl refl refl
            (omega arith) (known_itself db.snapshots db.memory.last) (have_itself db.iterators db.tables)
            (λ number. version_unowned work.job.outputs order h.ideal d h.contents db.tables number h.log.directory.consistent h.log.directory.in_tables h.tables.version c.running.unused)) h.job;
      }

-- ---- a new log

not_both : {P : Type 0} (sealed : Option ℕ) (generation : ℕ) → sealed ≡ Some generation → sealed ≡ None → P
not_both sealed generation is none = absurd (let bad : Some generation ≡ None = sym is ∙ none in cc)

not_empty : {P : Type 0} (inserts : List Entry) → 0 < length inserts → inserts ≡ [] → P
not_empty inserts filled none = absurd (let empty = ap (λ (es : List Entry). length es) none in omega (arith, filled, empty))

-- a cursor over a memtable reads on where that is sealed
abbrev pub SealKept : (List ℕ → List ℕ → Ordering) → Type 0
SealKept cmp = (cursor : MemoriesPlace) (old new : Memories) → IsSome (table_in old cursor.generation) → IsSealed old new → KeepsMemories cmp cursor old new

module _ {K : Type 0} {g : _} (order : Order) (kept : (scan : Scan K g) → ScanIsKept order.cmp scan) (one : OneDirectoryLaw) (lasts : SoundLasts) (law : SameViewLaw) (seals : SealKept order.cmp)
    (old : Seen) (facts : Facts) (db : OpenDb K g) (m : Machine) (serving : IsServing order old db m) (t : IsTrue facts.faithful) (few : db.directory.numbers.next < 2 ^ 62)
    (others : KeepsOthers old.facts.files facts.files (name_of (Log db.directory.numbers.next))) (stays : (q : List ℕ) → q ≢ name_of (Log db.directory.numbers.next) → facts.synced q ≡ old.facts.synced q) where
  abbrev next : ℕ
  next = db.directory.numbers.next

  abbrev new : Seen
  new = record old { facts = facts }

  abbrev a : CanAppend order serving.ideal db.log.number db.log.end serving.contents (logged_in db.memory) db.memory.last
  a = serving.log.directory

  abbrev d : Directory
  d = a.directory

  numbered_next : IsNumbered next
  numbered_next = (let some = serving.log.knows.free.some in omega (arith, some), omega (arith, few))

  table_apart : (n : ℕ) → IsNumbered n → name_of (Table n) ≢ name_of (Log next)
  table_apart n numbered = files_apart (Table n) (Log next) numbered numbered_next (λ e. cc)

  newer_same : (n : ℕ) → IsNumbered n → get facts.files (name_of (Table n)) ≡ get old.facts.files (name_of (Table n))
  newer_same n numbered = others (name_of (Table n)) (table_apart n numbered)

  older_same : (n : ℕ) → IsNumbered n → get facts.files (name_of (OldTable n)) ≡ get old.facts.files (name_of (OldTable n))
  older_same n numbered = others (name_of (OldTable n)) (files_apart (OldTable n) (Log next) numbered numbered_next (λ e. cc))

  -- the logs that are there have other numbers
  logs_before : (n : ℕ) → InLogs d.logs n → name_of (Log n) ≢ name_of (Log next)
  logs_before n i =
      let there = log_there serving.ideal d.logs n a.consistent.logs i in
      let less : n < next = serving.log.knows.free.listed (Log n) there.0 there.1 in
      files_apart (Log n) (Log next) there.0 numbered_next (λ e. (let same : n ≡ next = cc in omega (arith, same, less)))

  table_still : (n : ℕ) → IsNumbered n → table_at facts.files n ≡ table_at old.facts.files n
  table_still n numbered = same_table old.facts.files facts.files n (newer_same n numbered) (older_same n numbered)

  sound_still : IsSound order.cmp old → IsSound order.cmp new
  sound_still sound =
      lasts order.cmp old facts
      (λ one_kept file is there.
      let known = serving.tables.drawn one_kept.number (inl (one_kept, is, refl)) in (
        sym (table_still one_kept.number known.0) ∙ there,
        λ has. same_file old.facts.files facts.files one_kept.number one_kept.table.name (sound.tables one_kept is).0 (newer_same one_kept.number known.0) (older_same one_kept.number known.0) ∙ has,
      ))
      (λ block file is there. sym (table_still block.file (serving.tables.drawn block.file (inr (block, is, refl))).0) ∙ there) sound

  -- the same, done to the directory from which the files come
  abbrev behind : Files
  behind = (same_change old.facts.files facts.files serving.ideal serving.origin.differs).0

  behind_is : IsSameChange old.facts.files facts.files serving.ideal behind
  behind_is = (same_change old.facts.files facts.files serving.ideal serving.origin.differs).1

  table_behind : (n : ℕ) → IsNumbered n → table_at behind n ≡ table_at serving.ideal n
  table_behind n numbered = same_table serving.ideal behind n (behind_is.stays (name_of (Table n)) (newer_same n numbered)) (behind_is.stays (name_of (OldTable n)) (older_same n numbered))

  comes_behind : HasManifest order behind d.manifest d.edits d.layout → ComesFrom order m.damaged facts.files behind
  comes_behind has = comes_extended order m.damaged old.facts.files facts.files serving.ideal behind d serving.origin behind_is a.consistent
      (λ placed is. let numbered = (placed_number order serving.ideal d next placed a.consistent serving.log.knows.free is).0 in (newer_same placed.table.number numbered, older_same placed.table.number numbered)) has

  -- the machine after it
  abbrev pub logged_by : Machine
  logged_by = record m { numbers = m.numbers + 1; failures = facts.failures; denials = facts.denials }

  readable_as : (e : Directory) → IsConsistent order behind e → e.tables ≡ d.tables → e.edits ≡ d.edits → IsFree order behind (next + 1) → IsReadable order behind logged_by
  readable_as e good tables edits freed = record {
    made = made_still order serving.ideal behind d e m a.consistent good serving.readable.made;
    numbers = (let below : next ≤ m.numbers = serving.numbers in free_up order behind (next + 1) (m.numbers + 1) (omega (arith, below)) freed);
    limits = λ is f good_f past.
        let same = one order behind f e good_f good in
        serving.readable.limits is d a.consistent (elim past [
          | inl numbers ↦ inl (subst (λ (es : List (List Field)). HasPastLimit (fields_of es)) (same.1 ∙ edits) numbers)
          | inr long ↦ inr (long_back order serving.ideal behind d.tables (λ content i. table_behind content.placed.table.number (table_of order serving.ideal d.tables content a.consistent.tables i))
              (subst (λ (ts : List TableContent). AnyHasBytes (IsLongTable order) behind ts) (same.3 ∙ tables) long))
        ]);
  }

  used_with : HasNewLog order behind d next → used_in (with_log d next) ≡ used_in d
  used_with has = ap (λ (es : List Entry). max d.layout.last_sequence (greatest es)) has.entries

  -- ---- it is there

  module _ (memory : Memories) (log : CurrentLog) (state : DirectoryState) (unsealed : db.memory.sealed ≡ None) (filled : 0 < length db.memory.current.inserts) (sealed : IsSealed db.memory memory) (inserts : sealed_inserts memory ≡ db.memory.current.inserts)
      (has : HasNewLog order behind d next) (ends : ManifestEndsAt order behind d.manifest db.directory.manifest.end d.edits d.layout) (freed : IsFree order behind (next + 1))
      (log_number : log.number ≡ next) (log_name : string_bytes log.name ≡ name_of (Log next)) (log_end : log.end ≡ 0)
      (number : state.manifest.number ≡ db.directory.manifest.number) (name : state.manifest.name ≡ db.directory.manifest.name) (end : state.manifest.end ≡ db.directory.manifest.end)
      (first_log : state.first_log ≡ db.directory.first_log) (previous_log : state.previous_log ≡ db.directory.previous_log) (next_is : state.numbers.next ≡ next + 1)
      (front : map string_bytes log.front.items ≡ map string_bytes db.log.front.items ++ string_bytes db.log.name ∷ []) (carries : CarriesBut old.facts facts (λ (q : List ℕ). q ≡ name_of (Log db.directory.numbers.next)))
      (noted : Idles old.facts facts ⊎ Adds old.facts facts (Creation (name_of (Log db.directory.numbers.next)))) (unsynced : facts.synced (name_of (Log db.directory.numbers.next)) ≡ None) where
    abbrev pub sealed_db : OpenDb K g
    sealed_db = record db { memory = memory; log = log; directory = state }

    none_sealed : sealed_inserts db.memory ≡ []
    none_sealed = ap (λ (o : Option ℕ). inserts_of (option_and_then (older_at db.memory.older) o)) unsealed

    current_now : memory.current.inserts ≡ []
    current_now = ap (λ c. c.inserts) sealed.current

    logged_now : logged_in memory ≡ logged_in db.memory
    logged_now = (λ i. inserts i ++ current_now i) ∙ append-nil db.memory.current.inserts ∙ sym (ap (λ (es : List Entry). es ++ db.memory.current.inserts) none_sealed)

    in_logs : logged_in memory ≡ logged (with_log d next).logs
    in_logs = logged_now ∙ a.in_logs ∙ sym has.entries

    entries_now : entries_of serving.contents sealed_db ≡ entries_of serving.contents db
    entries_now = ap (λ (es : List Entry). tabled serving.contents ++ es) logged_now

    abbrev log_sealed : HasLog order behind serving.contents sealed_db
    log_sealed =
        let knows = serving.log.knows in
        record {
          named = log_name ∙ ap (λ (k : ℕ). name_of (Log k)) (sym log_number);
          directory = record {
            directory = with_log d next;
            consistent = has.consistent;
            ends = subst (λ (k : ℕ). EndsAt behind (with_log d next) k log.end) (sym log_number) (subst (λ (k : ℕ). EndsAt behind (with_log d next) next k) (sym log_end) has.ends);
            in_tables = a.in_tables;
            in_logs = in_logs;
            spent = sealed.last ∙ a.spent ∙ sym (used_with has);
          };
          logs = record {
            sealed = d.logs;
            current = empty_log next;
            logs = refl;
            number = sym log_number;
            sealed_are = inserts ∙ sym (ap (λ (es : List Entry). es ++ db.memory.current.inserts) none_sealed) ∙ a.in_logs;
            current_are = current_now;
            front = λ none. not_both memory.sealed db.memory.generation sealed.sealed none;
            some = λ none. not_empty db.memory.current.inserts filled (sym inserts ∙ none);
          };
          knows = record {
            first_log = knows.first_log ∙ sym first_log;
            forward = (let below = (knows.free.recorded d.manifest d.edits d.layout a.consistent.manifest).1 in let is = knows.first_log in omega (arith, below, is, first_log, log_number));
            previous_log = knows.previous_log ∙ sym previous_log;
            number = number ∙ knows.number;
            named = ap string_bytes name ∙ knows.named;
            ends = subst (λ (k : ℕ). ManifestEndsAt order behind d.manifest k d.edits d.layout) (sym end) ends;
            free = subst (λ (k : ℕ). IsFree order behind k) (sym next_is) freed;
          };
        }

    keeps_each : (id : ℕ) (scan : Scan K g) (walk : Walk) → kept_at db.iterators id ≡ Some scan → IsLiveWalk order.cmp m.over_limit m.damaged (whole_of old db) scan walk → KeepsScan order.cmp scan (whole_of old db) (whole_of new sealed_db)
    keeps_each id scan walk there is = record {
      memory = λ cursor reads within. seals cursor db.memory memory (is.may.scan.there cursor.generation reads) sealed;
      files = λ n reads. table_still n (is.tables n reads).1;
      sound = sound_still;
    }

    pub serving_sealed : IsServing order new sealed_db logged_by
    serving_sealed = record {
      whole = serving.whole;
      certain = serving.certain;
      ideal = behind;
      origin = comes_behind ends.manifest;
      contents = serving.contents;
      log = log_sealed;
      tables = record {
        version = serving.tables.version;
        in_order = serving.tables.in_order;
        sound = sound_still serving.tables.sound;
        drawn = λ n is. let known = serving.tables.drawn n is in (known.0, (let less = known.1 in omega (arith, less, next_is)));
      };
      entries = record {
        used = serving.entries.used ∙ sym sealed.last;
        fits = (let fits = serving.entries.fits in let last = sealed.last in omega (arith, fits, last));
        view = (let last = sealed.last in rw (entries_now, last) serving.entries.view);
        bounded = (let last = sealed.last in rw (entries_now, last) serving.entries.bounded);
      };
      snapshots = (let last = sealed.last in rw (entries_now, last) serving.snapshots);
      iterators = walks_each order kept (whole_of old db) (whole_of new sealed_db) db.iterators m keeps_each (let last = sealed.last in omega (arith, last)) serving.iterators;
      accounted = rw (entries_now) serving.accounted;
      readable = readable_as (with_log d next) has.consistent refl refl freed;
      numbers = (let below : next ≤ m.numbers = serving.numbers in omega (arith, next_is, below));
      recent = subst (λ (n : ℕ). AreRecent facts n serving.contents (entries_of serving.contents sealed_db) (d.logs ++ empty_log next ∷ []) m) (sym number)
          (subst (λ (es : List Entry). AreRecent facts db.directory.manifest.number serving.contents es (d.logs ++ empty_log next ∷ []) m) (sym entries_now)
          (recent_sealed facts db.directory.manifest.number serving.contents (entries_of serving.contents db) d.logs (empty_log next) m refl
          (recent_same old.facts facts db.directory.manifest.number serving.contents (entries_of serving.contents db) d.logs m (λ n i. let apart = logs_before n i in (others (name_of (Log n)) apart, stays (name_of (Log n)) apart)) serving.recent)));
      synced = synced_same facts facts log (record db.directory { numbers = state.numbers }) state db.tables number name first_log previous_log (omega arith)
          (sealed_synced old.facts facts db.log log db.directory state.numbers db.tables log_number log_name front next_is few (λ q apart. (others q apart, stays q apart)) carries noted unsynced serving.synced) refl refl refl;
      job = each_job _ _ db.job (λ work is c.
          goes_beside order (whole_of old db) (whole_of new sealed_db) next state.numbers.next db.snapshots db.snapshots db.iterators db.iterators db.tables m.damaged serving.ideal behind d (with_log d next) work c
          a.consistent serving.log.knows.free db.directory.numbers.in_range.1 (omega (arith, next_is)) (λ number numbered below one. (whole_left old.facts facts (name_of (Table number)) (newer_same number numbered, stays (name_of (Table number)) (table_apart number numbered)) (stays_on old.facts facts (λ (q : List ℕ). q ≡ name_of (Log next)) (name_of (Table number)) (table_apart number numbered) carries), older_same number numbered)) sound_still (λ number kept_now. inl kept_now) behind_is refl refl refl
          (let last = sealed.last in omega (arith, last)) (known_itself db.snapshots db.memory.last) (have_itself db.iterators db.tables)
          (λ number. version_unowned work.job.outputs order serving.ideal d serving.contents db.tables number a.consistent a.in_tables serving.tables.version c.running.unused)) serving.job;
    }

  -- ---- the store failed, so that it is there or not

  entries_are : entries_of serving.contents db ≡ entries_in d
  entries_are = λ i. tabled (a.in_tables i) ++ a.in_logs i

  broken_as : (e : Directory) → IsConsistent order behind e → HasManifest order behind d.manifest d.edits d.layout → e.tables ≡ d.tables → e.edits ≡ d.edits → entries_of serving.contents db ≡ entries_in e → used_in e ≡ used_in d → IsFree order behind (next + 1) → IsBroken order facts.files (record logged_by { broken = true })
  broken_as e good has tables edits same used freed =
      let readable = readable_as e good tables edits freed in
      record {
        broken = refl;
        rest = record {
          ideal = behind;
          origin = comes_behind has;
          meaning = rests_as order law old db m serving behind e good (same_by (entries_of serving.contents db) (entries_in e) (entries_in e) (entries_in e) same (λ x. (λ i. i, λ i. i)) refl) (used ∙ sym a.spent);
          readable = record { made = readable.made; numbers = readable.numbers; limits = readable.limits };
        };
      }

  pub broken_seal : IsConsistent order behind d ⊎ HasNewLog order behind d next → IsFree order behind (next + 1) → IsBroken order facts.files (record logged_by { broken = true })
  broken_seal (inl good) freed = broken_as d good good.manifest refl refl entries_are refl freed
  broken_seal (inr has) freed =
      broken_as (with_log d next) has.consistent has.consistent.manifest refl refl (entries_are ∙ ap (λ (es : List Entry). tabled d.tables ++ es) (sym has.entries)) (used_with has) freed
