-- What an open database is, and the machine, after a flush, however that ends.
use Rattle.std.proofs.Common.{length, ◌≡◌, ◌≢◌, ℕ, ◌+◌, ◌≤◌, ◌<◌, ◌^◌, true, false, List, [], ◌∷◌, ◌++◌, Contains, None, IsSome, Result, Ok, Err, IsTrue, inl, inr, refl, sym, ap, subst, ◌∙◌, arith, String, string_bytes}
use Rattle.std.specs.declared.alloc.Global.{Global}
use Rattle.std.specs.FinMap.{get}
use Rattle.std.specs.Global.{Vec}
use Rattle.std.specs.declared.rc.Rc.{Rc}
use Rattle.coding.specs.declared.error.DbError.{DbError}
use Rattle.coding.specs.declared.error.DbError.TheVariants as error
use Rattle.edits.specs.declared.numbers.FileNumbers.{FileNumbers}
use Rattle.edits.specs.Names.{IsNumbered, name_of}
use Rattle.edits.specs.declared.field.PlacedTable.{PlacedTable}
use Rattle.edits.specs.declared.names.FileName.TheVariants.{Log, Manifest, OldTable, Table}
use Rattle.ikey.specs.Orders.{Order}
use Rattle.ikey.specs.Sources.{SameEntries, SameViewLaw}
use Rattle.ikey.specs.declared.entry.Entry.{Entry}
use Rattle.ikey.proofs.SearchedSources.{among_back, among_front}
use Rattle.memtables.specs.Memories.{Memories, logged_in, sealed_inserts}
use Rattle.recover.proofs.Memberships.{new_in_with, one_of_tables}
use Rattle.recover.specs.internal.Changes.{with_content}
use Rattle.recover.specs.Directory.{Directory}
use Rattle.recover.specs.Entries.{RiseAbove}
use Rattle.recover.specs.internal.Laws.{OneDirectoryLaw}
use Rattle.recover.proofs.NewLogs.{log_there}
use Rattle.recover.specs.Logs.{InLogs, LogContent}
use Rattle.recover.specs.Tables.{tabled}
use Rattle.db_cursor.specs.internal.Scanning.{ScanIsKept}
use Rattle.db_cursor.specs.declared.scan.Scan.{Scan}
use Rattle.table_access.specs.Tables.{Seen, IsSound, SoundLasts}
use Rattle.store.specs.Files.{Facts, Files}
use Rattle.store.specs.Losses.{CarriesBut}
use Rattle.store.specs.Stops.{LeavesOnly}
use Rattle.store.proofs.Stopping.{leaves_so}
use Rattle.engine.specs.internal.Directory.{MeansAccepted}
use Rattle.directory_writes.specs.Replacing.{placed_in}
use Rattle.directory_writes.proofs.SameChanges.{same_change}
use Rattle.directory_writes.specs.Differing.{IsSameChange, OfEach, with_files}
use Rattle.directory_writes.specs.internal.Putting.{WritesThenPuts}
use Rattle.directory_writes.specs.internal.Flush.{CanFlush, DrawsTable, FlushLeaves, FlushMayLeave, FlushMeans, FlushTouches, IsCorrupt, IsFlushed, IsTableKeptNow, MayBeFlushed, RefusesFlush, RefusesNewTable, SparesManifest}
use Rattle.directory_writes.specs.internal.Calls.{LeavesFile}
use Rattle.compact.specs.Rooms.{room_of}
use Rattle.directory_writes.specs.internal.Level0.{IsTooLarge}
use Rattle.directory_writes.specs.declared.flush.FlushError.{FlushError}
use Rattle.directory_writes.specs.declared.flush.FlushError.TheVariants.{Before, Edit}
use Rattle.directory_writes.specs.declared.flush.Flushed.{Flushed}
use Rattle.directory_writes.specs.declared.flush.FlushPlan.{FlushPlan}
use Rattle.versions.specs.Levels.{AreInOrder, Placement}
use Rattle.engine.specs.declared.ids.Ids.{Ids}
use Rattle.engine.specs.declared.state.DbState.{DbState}
use Rattle.engine.specs.declared.work.Progress.{Progress}
use Rattle.engine.specs.internal.Leading.{LeadsOpen}
use Rattle.engine.specs.OpenDb.{OpenDb, open_db, whole_of}
use Rattle.opening.proofs.Reopening.{files_apart}
use Rattle.engine.proofs.FrontSyncing.{same_or_other}
use Rattle.engine.proofs.StayedNames.{first_least, spares_tables, stayed_on}
use Rattle.engine.proofs.Synced.{kept_still, no_table, synced_same, synced_still, table_still}
use Rattle.engine.specs.internal.Recent.{AreRecent}
use Rattle.engine.specs.internal.Synced.{IsSyncedBut}
use Rattle.engine.specs.internal.Standing.{entries_of, IsServing, StandsWhole}
use Rattle.engine.specs.internal.Stopping.{KeepsOpen}
use Rattle.machine.specs.Machine.{Machine, entry_count, weight}
use Rattle.machine.specs.Upkeep.{UpkeepRefused}
use Rattle.engine.specs.internal.Pieces.{IsPiece, IsSameMemory, broken_by, flush_answer}
use Rattle.engine.specs.WrittenTables.{FlushesSealed, PutsSealed}
use Rattle.engine.proofs.Compacting.{all_contains, each_job, goes_beside, have_itself, known_itself, version_unowned}
use Rattle.engine.proofs.Flushing.{NamedBelow, NamesStay, named_below, named_unchanged, names_same, names_unchanged, FlushKept, StaysBelow, broken_flush, can_flush, serving_flushed, serving_unflushed, sound_beside, sound_unchanged, table_same, table_unchanged}
use Rattle.engine.proofs.Extended.{no_change}
use Rattle.engine.proofs.LosingFlushes.{flush_first, found_touched}
use Rattle.engine.proofs.LosingPieces.{first_same, found_same}
use Rattle.engine.proofs.Origins.{undamaged_serving}
use Rattle.engine.proofs.Pieces.{free_up, walks_each}
use Rattle.engine.proofs.Reading.{has_placed}
use Rattle.engine.proofs.Steps.{serving_of}
use Rattle.engine.proofs.StopSteps.{means_flushed}
use Rattle.engine.proofs.Weighing.{room_within}
use Rattle.engine.proofs.WorkSteps.{KeepsFlag, breaks, drawing, draws, serves_on}

pub no_entries : (entries : List Entry) → length entries ≡ 0 → entries ≡ []
no_entries [] is = refl
no_entries (x ∷ entries) is = absurd (omega (arith, is))

rises_front : (least : ℕ) (xs ys : List Entry) → RiseAbove least (xs ++ ys) → RiseAbove least xs
rises_front least [] ys h = tt
rises_front least (x ∷ xs) ys h = (h.0, rises_front x.sequence xs ys h.1)

module _ {K : Type 0} {g : _} (order : Order) (kept : (scan : Scan K g) → ScanIsKept order.cmp scan) (one : OneDirectoryLaw) (lasts : SoundLasts) (law : SameViewLaw) (flushes : FlushKept order.cmp)
    (old : Seen) (facts : Facts) (ids : Ids) (state : DbState K g) (memory : Memories) (numbers : FileNumbers) (plan : FlushPlan) (entries : List Entry) (whole : state.broken ≡ false)
    (touches : FlushTouches old.facts facts (name_of (Table state.directory.numbers.next)) (string_bytes state.directory.manifest.name)) (draws_number : DrawsTable old.facts facts state.directory.numbers.next numbers.next)
    (log_number : plan.log_number ≡ state.log.number) (previous : plan.previous_log_number ≡ state.directory.previous_log) (sequence : plan.last_sequence ≡ memory.last) (entries_are : entries ≡ sealed_inserts memory) where
  abbrev next : ℕ
  next = state.directory.numbers.next

  abbrev before : OpenDb K g
  before = open_db memory state

  abbrev new : Seen
  new = record old { facts = facts }

  abbrev drawn : DbState K g
  drawn = record state { directory = record state.directory { numbers = numbers } }

  upto : (next ≤ numbers.next) × (numbers.next ≤ next + 1)
  upto = elim draws_number [ inl none ↦ (let is = none.0 in (omega (arith, is), omega (arith, is))) | inr more ↦ (let is = more.0 in (omega (arith, is), omega (arith, is))) ]

  module _ (m : Machine) (serving : IsServing order old before m) where
    pub can : CanFlush order serving.ideal next plan state.directory.manifest entries before.tables serving.log.directory.directory serving.log.logs.sealed serving.log.logs.current
    can = can_flush order kept one lasts law flushes old facts before m serving plan numbers.next log_number previous sequence entries entries_are

    -- the same, done to the directory from which the files come
    abbrev pub behind : Files
    behind = (same_change old.facts.files facts.files serving.ideal serving.origin.differs).0

    behind_is : IsSameChange old.facts.files facts.files serving.ideal behind
    behind_is = (same_change old.facts.files facts.files serving.ideal serving.origin.differs).1

    stays_below : IsTrue facts.faithful → StaysBelow order kept one lasts law flushes old facts before m serving plan numbers.next
    stays_below f = elim draws_number [
      | inl none ↦ table_unchanged order kept one lasts law flushes old facts before m serving plan numbers.next none.1
      | inr more ↦ table_same order kept one lasts law flushes old facts before m serving plan numbers.next f more.1 more.2 touches
    ]

    names_below : IsTrue facts.faithful → NamesStay order kept one lasts law flushes old facts before m serving plan numbers.next
    names_below f = elim draws_number [
      | inl none ↦ names_unchanged order kept one lasts law flushes old facts before m serving plan numbers.next none.1
      | inr more ↦ names_same order kept one lasts law flushes old facts before m serving plan numbers.next f more.1 more.2 touches
    ]

    named_still : IsTrue facts.faithful → CarriesBut old.facts facts (λ (q : List ℕ). q ≡ name_of (Table next)) → NamedBelow order kept one lasts law flushes old facts before m serving plan numbers.next
    named_still f carries = elim draws_number [
      | inl none ↦ named_unchanged order kept one lasts law flushes old facts before m serving plan numbers.next none.1
      | inr more ↦ named_below order kept one lasts law flushes old facts before m serving plan numbers.next more.1 more.2 carries
    ]

    sound_still : IsTrue facts.faithful → IsSound order.cmp old → IsSound order.cmp new
    sound_still f = elim draws_number [
      | inl none ↦ sound_unchanged order kept one lasts law flushes old facts before m serving plan numbers.next none.1
      | inr more ↦ sound_beside order kept one lasts law flushes old facts before m serving plan numbers.next f more.1 more.2 touches
    ]

    -- what is too large for a block is as heavy
    heavy : IsTrue facts.faithful → IsTooLarge facts entries → 2 ^ 29 ≤ weight m
    heavy f large =
        let a = serving.log.directory in
        let rises : RiseAbove 0 (logged_in memory) = subst (λ (es : List Entry). RiseAbove 0 es) (sym a.in_logs) a.consistent.sequences in
        let front : RiseAbove 0 (sealed_inserts memory) = rises_front 0 (sealed_inserts memory) memory.current.inserts rises in
        let within = room_within 0 (entry_count m) (weight m) (sealed_inserts memory) (entries_of serving.contents before) front
        (λ e i. among_back (tabled serving.contents) (logged_in memory) e (among_front (sealed_inserts memory) memory.current.inserts e i)) serving.accounted in
        let least = large f in
        let is = ap room_of entries_are in
        omega (arith, least, within, is)

    refused : (e : DbError) → IsTrue facts.faithful → RefusesNewTable e old.facts facts entries before.tables next numbers.next → (IsCorrupt e → ⊥) → m.failures ≡ old.facts.failures → (e ≡ error.Io → ⊥) → UpkeepRefused m 1 e (drawing m 1 facts)
    refused error.OutOfMemory f h sound same other = draws m 1 facts
    refused error.Io f h sound same other = absurd (other refl)
    refused (error.Unsupported what) f h sound same other = (inr (heavy f h), draws m 1 facts)
    refused (error.Corrupt file what) f h sound same other = absurd (sound tt)
    refused error.NumbersSpent f h sound same other = ((let most = h.0 in let below : next ≤ m.numbers = serving.numbers in omega (arith, most, below)), draws m 1 facts)
    refused _ f h sound same other = absurd h

  -- the names of all but the new table go on
  abbrev IsNew : List ℕ → Type 0
  IsNew q = q ≡ name_of (Table next)

  abbrev Carried : Type 0
  Carried = IsTrue facts.faithful → CarriesBut old.facts facts (λ (q : List ℕ). q ≡ name_of (Table next))

  -- a refusal before the edit leaves all that is synced, but for a table that has no number of one
  -- that is read
  unflushed_synced : IsTrue facts.faithful → Carried → (m : Machine) → IsServing order old before m → ((string_bytes state.directory.manifest.name ≡ name_of (Table next) → ⊥) → LeavesFile old.facts facts (string_bytes state.directory.manifest.name))
      → IsSyncedBut facts state.log drawn.directory state.version.value.tables
  unflushed_synced f carries m serving spares = elim draws_number [
    | inl none ↦ (let same = none.1 in let h = serving.synced in synced_same old.facts facts state.log state.directory drawn.directory state.version.value.tables refl refl refl refl upto.0 h (ap (λ (x : Facts). x.calls) same) (ap (λ (x : Facts). x.files) same) (ap (λ (x : Facts). x.synced) same))
    | inr more ↦
        let h = serving.synced in
        let number : IsNumbered next = (more.1, (let few = more.2 in omega (arith, few))) in
        let left : (q : List ℕ) → q ≢ name_of (Table next) → LeavesFile old.facts facts q = λ q apart. elim (same_or_other q (string_bytes state.directory.manifest.name)) [
          | inl it ↦ subst (LeavesFile old.facts facts) (sym it) (spares (λ is. apart (it ∙ is)))
          | inr other ↦ (touches.others f q apart other, touches.synced f q apart other)
        ] in
        synced_still old.facts facts state.log state.directory drawn.directory state.version.value.tables refl refl refl refl upto.0 h
        (λ file is none. kept_still old.facts facts (name_of file) (left (name_of file) (files_apart file (Table next) is number (no_table file next none))))
        (λ p there known.
        table_still old.facts facts p.table.number
        (left (name_of (Table p.table.number)) (files_apart (Table p.table.number) (Table next) known.0 number (λ e. let same : p.table.number ≡ next = cc in let less = known.1 in omega (arith, same, less))))
        (left (name_of (OldTable p.table.number)) (files_apart (OldTable p.table.number) (Table next) known.0 number (λ e. cc))))
        (stayed_on old.facts facts IsNew state.directory drawn.directory state.version.value.tables refl refl refl upto.0 (first_least state.log state.directory state.version.value.tables h.names) (carries f)
        (spares_tables IsNew old.facts.files state.log state.directory state.version.value.tables h.names (λ file is none. files_apart file (Table next) is number (no_table file next none))
        (λ p there known. (
          files_apart (Table p.table.number) (Table next) known.0 number (λ e. (let same : p.table.number ≡ next = cc in let less = known.1 in omega (arith, same, less))),
          files_apart (OldTable p.table.number) (Table next) known.0 number (λ e. cc),
        ))) h.stayed)
  ]

  -- and the logs
  logs_left : IsTrue facts.faithful → (m : Machine) (serving : IsServing order old before m) → (n : ℕ) → InLogs serving.log.directory.directory.logs n → LeavesFile old.facts facts (name_of (Log n))
  logs_left f m serving n i = elim draws_number [
    | inl none ↦ (let same = none.1 in (ap (λ (x : Facts). get x.files (name_of (Log n))) same, ap (λ (x : Facts). x.synced (name_of (Log n))) same))
    | inr more ↦
        let number : IsNumbered next = (more.1, (let few = more.2 in omega (arith, few))) in
        let names = serving.synced.names in
        let numbered = (log_there serving.ideal serving.log.directory.directory.logs n serving.log.directory.consistent.logs i).0 in
        let apart = files_apart (Log n) (Table next) numbered number (λ e. cc) in
        let other : name_of (Log n) ≢ string_bytes state.directory.manifest.name = λ is. files_apart (Log n) (Manifest state.directory.manifest.number) numbered names.manifest.0 (λ e. cc) (is ∙ names.manifest.1) in
        (touches.others f (name_of (Log n)) apart other, touches.synced f (name_of (Log n)) apart other)
  ]

  abbrev Spares : FlushError → Type 0
  Spares e = SparesManifest {T = Flushed K} old.facts facts (string_bytes state.directory.manifest.name) (λ (name : List ℕ). name ≡ name_of (Table next)) (Err e)

  abbrev Leaves : FlushError → Type 0
  Leaves e = IsTrue facts.faithful → (m : Machine) (serving : IsServing order old before m) → FlushMeans {K = K} order serving.ideal (behind m serving) next numbers.next plan state.directory.manifest entries before.tables serving.log.directory.directory serving.log.logs.sealed serving.log.logs.current (Err e)

  -- nothing of the directory was changed
  unflushed : {T : Type 0} (e : DbError) → RefusesNewTable e old.facts facts entries before.tables next numbers.next → Leaves (Before e) → Spares (Before e) → Carried → (e ≡ error.Io → ⊥) → LeadsOpen order old new ids before (open_db memory drawn) (λ m n. IsPiece {T = T} m 1 (Err e) n)
  unflushed e refuses leaves spares carries other =
      serves_on order old new ids before (open_db memory drawn) 1 (Err e) whole whole touches.faithful touches.failures touches.denials
      (λ m f same serving.
      let left = leaves f m serving in (
        refused m serving e f refuses left.0 same other,
        serving_unflushed order kept one lasts law flushes old facts before m serving plan numbers.next (stays_below m serving f) (names_below m serving f) (sound_still m serving f) left.1.can.free upto.1 drawn.directory entries left.1 refl refl refl refl refl refl upto.0 (unflushed_synced f carries m serving (spares f)) (logs_left f m serving) (named_still m serving f (carries f)),
      ))

  -- the store failed
  failed : {T : Type 0} → old.facts.failures < facts.failures
      → (IsTrue facts.faithful → (m : Machine) (serving : IsServing order old before m) → MayBeFlushed order serving.ideal (behind m serving) next numbers.next entries serving.log.directory.directory serving.log.logs.sealed serving.log.logs.current)
      → LeadsOpen order old new ids before (open_db memory (record drawn { broken = true })) (λ m n. IsPiece {T = T} m 1 (Err error.Io) n)
  failed rise may =
      breaks order old new ids before (open_db memory (record drawn { broken = true })) 1 (Err error.Io) refl whole refl touches.faithful rise touches.denials
      (λ m f serving.
      let either = may f m serving in
      broken_flush order kept one lasts law flushes old facts before m serving plan numbers.next (stays_below m serving f) (names_below m serving f) (sound_still m serving f) either.free upto.1 entries either)

  unflushed_by : {T : Type 0} (e : FlushError) → RefusesFlush e old.facts facts entries before.tables next numbers.next → Leaves e → Spares e → Carried → LeadsOpen order old new ids before (open_db memory (broken_by drawn (flush_answer e))) (λ m n. IsPiece {T = T} m 1 (Err (flush_answer e)) n)
  unflushed_by (Before error.OutOfMemory) refuses leaves spares carries = unflushed error.OutOfMemory refuses leaves spares carries (λ e. cc)
  unflushed_by (Before error.Io) refuses leaves spares carries = failed refuses (λ f m serving. let left = (leaves f m serving).1 in record { either = inl (left.can.consistent, left.kept); free = left.can.free })
  unflushed_by (Before (error.Unsupported what)) refuses leaves spares carries = unflushed (error.Unsupported what) refuses leaves spares carries (λ e. cc)
  unflushed_by (Before (error.Corrupt file what)) refuses leaves spares carries = unflushed (error.Corrupt file what) refuses leaves spares carries (λ e. cc)
  unflushed_by (Before error.NumbersSpent) refuses leaves spares carries = unflushed error.NumbersSpent refuses leaves spares carries (λ e. cc)
  unflushed_by (Before _) refuses leaves spares carries = absurd refuses
  unflushed_by Edit refuses leaves spares carries = failed refuses (λ f m serving. leaves f m serving)

  -- what a flush says of each directory that differs from the files in tables alone
  abbrev LeavesEach : List PlacedTable → Result (Flushed K) FlushError → Type 0
  LeavesEach tables result = OfEach (λ whole after. FlushLeaves order (with_files old.facts whole) (with_files facts after) next numbers.next plan state.directory.manifest entries tables result) old.facts.files facts.files

  pub leaves_behind : (tables : List PlacedTable) (result : Result (Flushed K) FlushError) → tables ≡ before.tables → LeavesEach tables result → IsTrue facts.faithful → (m : Machine) (serving : IsServing order old before m)
      → FlushMeans {K = K} order serving.ideal (behind m serving) next numbers.next plan state.directory.manifest entries before.tables serving.log.directory.directory serving.log.logs.sealed serving.log.logs.current result
  leaves_behind tables result are each f m serving =
      let d = serving.log.directory.directory in
      let sealed = serving.log.logs.sealed in
      let current = serving.log.logs.current in
      let leaves = subst (λ (ts : List PlacedTable). LeavesEach ts result) are each in
      leaves serving.ideal (behind m serving) serving.origin.differs (behind_is m serving) f d sealed current (can m serving)

  -- however it isn't flushed, where these are the tables of the version
  pub ends_unflushed : {T : Type 0} (tables : List PlacedTable) → tables ≡ before.tables → (e : FlushError) → RefusesFlush e old.facts facts entries tables next numbers.next → LeavesEach tables (Err e)
      → Spares e → Carried → LeadsOpen order old new ids before (open_db memory (broken_by drawn (flush_answer e))) (λ m n. IsPiece {T = T} m 1 (Err (flush_answer e)) n)
  ends_unflushed tables are e refuses leaves spares carries =
      unflushed_by e (subst (λ (ts : List PlacedTable). RefusesFlush e old.facts facts entries ts next numbers.next) are refuses) (leaves_behind tables (Err e) are leaves) spares carries

  abbrev with_table : ℕ → Rc Placement Global → Vec (String Global) → DbState K g
  with_table end version front = record state { version = version; log = record state.log { front = front }; directory = record state.directory { numbers = numbers; manifest = record state.directory.manifest { end = end }; first_log = state.log.number; previous_log = 0 } }

  -- the table is in the directory
  pub ends_flushed : (end : ℕ) (version : Rc Placement Global) (front : Vec (String Global)) (after : DbState K g) → after ≡ with_table end version front
      → AreInOrder order.cmp version.value.tables
      → (IsTrue facts.faithful → (m : Machine) (serving : IsServing order old before m) → IsFlushed order serving.ideal (behind m serving) next numbers.next end entries version.value.tables serving.log.directory.directory serving.log.logs.sealed serving.log.logs.current)
      → (IsTrue facts.faithful → (m : Machine) → IsServing order old before m → IsSyncedBut facts (record state.log { front = front }) (with_table end version front).directory version.value.tables) → Carried
      → LeadsOpen order old new ids before (open_db (record memory { sealed = None }) after) (λ m n. IsPiece m 1 (Ok (tt {0})) n)
  ends_flushed end version front after is in_order has synced carries =
      subst (λ (s : DbState K g). LeadsOpen order old new ids before (open_db (record memory { sealed = None }) s) (λ m n. IsPiece m 1 (Ok (tt {0})) n)) (sym is)
      (serves_on order old new ids before (open_db (record memory { sealed = None }) (with_table end version front)) 1 (Ok (tt {0})) whole whole touches.faithful touches.failures touches.denials
      (λ m f same serving.
      let done = has f m serving in (
        draws m 1 facts,
        serving_flushed order kept one lasts law flushes old facts before m serving plan numbers.next (stays_below m serving f) (names_below m serving f) (sound_still m serving f) done.free upto.1 end version.value.tables version.value.compact_pointers (with_table end version front).directory entries in_order done refl refl refl refl refl refl upto.0 front (synced f m serving) (logs_left f m serving) (named_still m serving f (carries f)),
      )))

  -- and its file has the entries of the memtable
  pub table_put : (end : ℕ) (version : Rc Placement Global) (front : Vec (String Global)) (after : DbState K g) → after ≡ with_table end version front
      → (IsTrue facts.faithful → (d : Directory) (sealed : List LogContent) (current : LogContent) → CanFlush order old.facts.files next plan state.directory.manifest entries before.tables d sealed current
      → IsFlushed order old.facts.files facts.files next numbers.next end entries version.value.tables d sealed current)
      → PutsSealed order old new before (open_db (record memory { sealed = None }) after)
  table_put end version front after is has =
      subst (λ (s : DbState K g). PutsSealed order old new before (open_db (record memory { sealed = None }) s)) (sym is)
      (λ f given m w.
      let serving = undamaged_serving order old before m w.undamaged (serving_of order old given before m whole w.stands) in
      let d = serving.log.directory.directory in
      let done = has f d serving.log.logs.sealed serving.log.logs.current (can m serving) in
      let content = done.has.content in
      let there = new_in_with content d.tables in
      inr (record {
        content = content;
        level = done.has.flush.level;
        number = done.has.number_is;
        listed = all_contains (Contains version.value.tables) (placed_in (with_content content d.tables)) content.placed done.listed.all (has_placed (with_content content d.tables) content there);
        has = one_of_tables order facts.files (with_content content d.tables) content done.has.consistent.tables there;
        entries_are = subst (λ (es : List Entry). SameEntries content.entries es) entries_are done.has.table_entries;
      }))

  -- ---- what is left in its middle

  abbrev StopsAt : List PlacedTable → Type 0
  StopsAt tables = LeavesOnly old.facts facts (FlushMayLeave order old.facts.files next numbers.next plan state.directory.manifest entries tables)

  abbrev serving_at : (given : Ids) (m : Machine) → StandsWhole order old given before m → IsServing order old before m
  serving_at given m w = undamaged_serving order old before m w.undamaged (serving_of order old given before m whole w.stands)

  flush_leaves : (tables : List PlacedTable) → tables ≡ before.tables → StopsAt tables → (m : Machine) (serving : IsServing order old before m) → serving.ideal ≡ old.facts.files
      → LeavesOnly old.facts facts (λ files. MayBeFlushed order serving.ideal files next numbers.next entries serving.log.directory.directory serving.log.logs.sealed serving.log.logs.current)
  flush_leaves tables are stops m serving same =
      let d = serving.log.directory.directory in
      let sealed = serving.log.logs.sealed in
      let current = serving.log.logs.current in
      leaves_so old.facts facts (FlushMayLeave order old.facts.files next numbers.next plan state.directory.manifest entries before.tables) (λ files. MayBeFlushed order serving.ideal files next numbers.next entries d sealed current)
      (λ files may.
      let can_now = subst (λ (fs : Files). CanFlush order fs next plan state.directory.manifest entries before.tables d sealed current) same (can m serving) in
      subst (λ (fs : Files). MayBeFlushed order fs files next numbers.next entries d sealed current) (sym same) (may d sealed current can_now))
      (subst StopsAt are stops)

  pub flush_keeps : (tables : List PlacedTable) → tables ≡ before.tables → (IsTrue facts.faithful → StopsAt tables)
      → (IsTrue facts.faithful → WritesThenPuts old.facts facts (λ (q : List ℕ). q ≡ name_of (Table next)) (string_bytes state.directory.manifest.name) (IsTableKeptNow next)) → KeepsOpen order old new before
  flush_keeps tables are stops puts = record {
    stops = λ f given m w.
        let serving = serving_at given m w in
        leaves_so old.facts facts (λ files. MayBeFlushed order serving.ideal files next numbers.next entries serving.log.directory.directory serving.log.logs.sealed serving.log.logs.current) (λ files. MeansAccepted order files m)
        (λ files may. means_flushed order old before m serving law files next numbers.next entries may) (flush_leaves tables are (stops f) m serving refl);
    loses = λ f given m w unbroken.
        let serving = serving_at given m w in
        elim draws_number [
          | inl none ↦ first_same order old given before m facts w unbroken (ap (λ (x : Facts). x.calls) none.1) (ap (λ (x : Facts). x.files) none.1) (ap (λ (x : Facts). x.synced) none.1)
          | inr more ↦ flush_first order old facts before m serving refl next numbers.next refl more.2 entries (string_bytes state.directory.manifest.name) refl (puts f) (flush_leaves tables are (stops f) m serving refl)
        ];
    found = λ f given m w unbroken. elim draws_number [
      | inl none ↦ found_same old.facts facts before (ap (λ (x : Facts). x.files) none.1) (ap (λ (x : Facts). x.synced) none.1)
      | inr more ↦ found_touched order old facts before m (serving_at given m w) refl next numbers.next refl more.2 entries f touches
    ];
  }

-- ---- an empty sealed table

module _ {K : Type 0} {g : _} (order : Order) (kept : (scan : Scan K g) → ScanIsKept order.cmp scan) (flushes : FlushKept order.cmp) (source : Seen) (ids : Ids) (state : DbState K g) (memory : Memories) (whole : state.broken ≡ false)
    (none : sealed_inserts memory ≡ []) where
  abbrev let_go : Memories
  let_go = record memory { sealed = None }

  logged_same : logged_in let_go ≡ logged_in memory
  logged_same = ap (λ (es : List Entry). es ++ memory.current.inserts) (sym none)

  serving_let_go : (m : Machine) → IsServing order source (open_db memory state) m → IsServing order source (open_db let_go state) (drawing m 1 source.facts)
  serving_let_go m h =
      let knows = h.log.knows in
      let logs = h.log.logs in
      let a = h.log.directory in
      record {
        whole = h.whole;
        certain = h.certain;
        ideal = h.ideal;
        origin = h.origin;
        contents = h.contents;
        log = record {
          named = h.log.named;
          directory = record { directory = a.directory; consistent = a.consistent; ends = a.ends; in_tables = a.in_tables; in_logs = logged_same ∙ a.in_logs; spent = a.spent };
          logs = record { sealed = logs.sealed; current = logs.current; logs = logs.logs; number = logs.number; sealed_are = sym none ∙ logs.sealed_are; current_are = logs.current_are; front = λ gone. logs.front (logs.some none); some = λ gone. refl };
          knows = record { first_log = knows.first_log; forward = knows.forward; previous_log = knows.previous_log; number = knows.number; named = knows.named; ends = knows.ends; free = knows.free };
        };
        tables = record { version = h.tables.version; in_order = h.tables.in_order; sound = h.tables.sound; drawn = h.tables.drawn };
        entries = record { used = h.entries.used; fits = h.entries.fits; view = rw (logged_same) h.entries.view; bounded = rw (logged_same) h.entries.bounded };
        snapshots = rw (logged_same) h.snapshots;
        iterators = walks_each order kept (whole_of source (open_db memory state)) (whole_of source (open_db let_go state)) state.iterators m
            (λ id scan walk there is. record { memory = λ cursor reads within. flushes cursor memory let_go refl; files = λ number reads. refl; sound = λ sound. sound }) (omega arith) h.iterators;
        accounted = rw (logged_same) h.accounted;
        readable = record { made = h.readable.made; numbers = free_up order h.ideal m.numbers (m.numbers + 1) (omega arith) h.readable.numbers; limits = h.readable.limits };
        numbers = (let below = h.numbers in omega (arith, below));
        synced = h.synced;
        recent = subst (λ (es : List Entry). AreRecent source.facts state.directory.manifest.number h.contents (tabled h.contents ++ es) a.directory.logs m) (sym logged_same) h.recent;
        job = each_job _ _ state.job (λ work is c.
            let d = a.directory in
            goes_beside order (whole_of source (open_db memory state)) (whole_of source (open_db let_go state)) state.directory.numbers.next state.directory.numbers.next state.snapshots state.snapshots state.iterators state.iterators state.version.value.tables m.damaged h.ideal h.ideal d d work c
            a.consistent knows.free state.directory.numbers.in_range.1 (omega arith) (λ number numbered below one. ((refl, λ file there was. was, λ stays. stays), refl)) (λ sound. sound) (λ number kept_now. inl kept_now) (no_change source.facts.files source.facts.files h.ideal refl) refl refl refl
            (omega arith) (known_itself state.snapshots memory.last) (have_itself state.iterators state.version.value.tables)
            (λ number. version_unowned work.job.outputs order h.ideal d h.contents state.version.value.tables number a.consistent a.in_tables h.tables.version c.running.unused)) h.job;
      }

  pub ends_let_go : LeadsOpen order source source ids (open_db memory state) (open_db let_go state) (λ m n. IsPiece m 1 (Ok (tt {0})) n)
  ends_let_go =
      serves_on order source source ids (open_db memory state) (open_db let_go state) 1 (Ok (tt {0})) whole whole (λ f. f) (omega arith) refl
      (λ m f same serving. (draws m 1 source.facts, serving_let_go m serving))

-- ---- after a removal

pub flushes_behind : {K : Type 0} {g : _} (order : Order) (old mid new : Seen) (before : OpenDb K g) (memory : Memories) (after : OpenDb K g) (result : Result Progress DbError) {P : Machine → Machine → Type 0}
    → ((ids : Ids) → LeadsOpen order old mid ids before (record before { memory = memory }) P) → KeepsFlag P → (IsTrue new.facts.faithful → IsTrue mid.facts.faithful) → IsSameMemory before.memory memory → FlushesSealed order mid new (record before { memory = memory }) after result
    → FlushesSealed order old new before after result
flushes_behind order old mid new before memory after result leads flag still same flushes done idle some f ids m s =
    let one = (leads ids).moved (still f) m s.stands in
    elim (flushes done idle (subst IsSome (sym same.sealed) some) f ids one.0 (record { stands = one.2; undamaged = flag m one.0 one.1 ∙ s.undamaged })) [
      | inl none ↦ inl (sym same.sealed_are ∙ none)
      | inr h ↦ inr (record {
        content = h.content;
        level = h.level;
        number = h.number;
        listed = h.listed;
        has = h.has;
        entries_are = subst (λ (es : List Entry). SameEntries h.content.entries es) same.sealed_are h.entries_are;
      })
    ]
