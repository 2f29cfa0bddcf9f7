-- What an open database is, and the machine, when files were removed or a new log was begun,
-- however that ends.
use Rattle.std.proofs.Common.{◌≡◌, ◌≢◌, ◌⊎◌, ℕ, ◌+◌, ◌≤◌, ◌<◌, true, false, List, [], ◌∷◌, ◌++◌, map, length, Some, None, Result, Ok, Err, IsTrue, inl, inr, refl, ap, subst, ◌∙◌, arith, String, string_bytes}
use Rattle.std.specs.FinMap.{get}
use Rattle.std.specs.declared.alloc.Global.{Global}
use Rattle.std.specs.Global.{Vec}
use Rattle.cache.specs.Tables.{KeptTable, table_at}
use Rattle.coding.specs.declared.error.DbError.{DbError}
use Rattle.coding.specs.declared.error.DbError.TheVariants as error
use Rattle.edits.specs.declared.numbers.FileNumbers.{FileNumbers}
use Rattle.edits.specs.Names.{IsNumbered, name_of}
use Rattle.edits.specs.declared.names.FileName.TheVariants.{Log}
use Rattle.ikey.specs.Orders.{Order}
use Rattle.ikey.specs.Sources.{SameViewLaw}
use Rattle.memtables.specs.Changes.{IsSealed, IsUsed, KeepsUsed}
use Rattle.memtables.specs.Memories.{Memories, sealed_inserts}
use Rattle.memtables.specs.Places.{LeavesMemories}
use Rattle.recover.specs.Directory.{Directory, IsConsistent}
use Rattle.recover.specs.internal.Laws.{OneDirectoryLaw}
use Rattle.recover.specs.Numbers.{IsFree}
use Rattle.db_cursor.specs.internal.Scanning.{ScanIsKept}
use Rattle.db_cursor.specs.declared.scan.Scan.{Scan}
use Rattle.table_access.specs.Tables.{Seen, IsSound, SoundLasts}
use Rattle.store.specs.Calls.{Adds, Idles}
use Rattle.store.specs.Files.{Creation, Files, Facts}
use Rattle.store.specs.Losses.{CarriesBut}
use Rattle.directory_writes.specs.internal.Calls.{LeavesFile, Touches}
use Rattle.directory_writes.proofs.SameChanges.{same_change}
use Rattle.directory_writes.specs.Differing.{OfEach, with_files}
use Rattle.directory_writes.specs.internal.LogFile.{BeginsLog, DrawsLog, RefusesLog}
use Rattle.directory_writes.specs.Differing.{OfEach}
use Rattle.directory_writes.specs.internal.Removal.{AreOfDirectory, KeepsParts, KeepsTable, ListsToClose, RefusesList}
use Rattle.engine.specs.declared.ids.Ids.{Ids}
use Rattle.engine.specs.declared.state.DbState.{DbState}
use Rattle.engine.specs.internal.Leading.{LeadsOpen}
use Rattle.engine.specs.OpenDb.{OpenDb, open_db}
use Rattle.machine.specs.Machine.{Machine}
use Rattle.engine.proofs.StayedNames.{unmade_calls}
use Rattle.engine.proofs.Synced.{StaysSynced, stays_beside, stays_same}
use Rattle.engine.specs.internal.Standing.{IsServing}
use Rattle.machine.specs.Upkeep.{UpkeepRefused}
use Rattle.engine.specs.internal.Pieces.{ClosesTables, IsPiece, IsSameMemory, broken_by}
use Rattle.engine.specs.Working.{numbers_of}
use Rattle.engine.specs.InUse.{IsJobTable, IsMemoryUsed, IsTableUsed}
use Rattle.engine.proofs.Cleaning.{DropsKept, LosesUnused, names_unused, sealed_same, serving_cleaned, stayed_unused}
use Rattle.engine.proofs.Reading.{read_by, serving_read, synced_read}
use Rattle.engine.proofs.Sealing.{SealKept, broken_seal, serving_drawn, serving_sealed}
use Rattle.engine.proofs.WorkSteps.{breaks, drawing, draws, piece_within, serves_on}

-- what is kept is right where the files are the same
pub sound_same : (order : Order) (lasts : SoundLasts) (old : Seen) (facts : Facts) → facts.files ≡ old.facts.files → IsSound order.cmp old → IsSound order.cmp (record old { facts = facts })
sound_same order lasts old facts same =
    lasts order.cmp old facts (λ kept file is there. (subst (λ (fs : Files). table_at fs kept.number ≡ Some file) same there, λ has. ap (λ (fs : Files). get fs kept.table.name) same ∙ has))
    (λ block file is there. subst (λ (fs : Files). table_at fs block.file ≡ Some file) same there)

-- none was drawn
pub undrawn : {K : Type 0} {g : _} (order : Order) (source : Seen) (db : OpenDb K g) (m : Machine) (facts : Facts) → IsServing order source db (read_by facts m) → IsServing order source db (drawing m 0 facts)
undrawn order source db m facts h = (let is : m.numbers ≡ m.numbers + 0 = omega arith in subst (λ (k : ℕ). IsServing order source db (record m { numbers = k; failures = facts.failures; denials = facts.denials })) is h)

leaves_same : (memory : Memories) → LeavesMemories memory memory
leaves_same memory = record { inserts = refl; last = refl; generation = refl; sealed = refl; older = λ generation. refl }

module _ {K : Type 0} {g : _} (order : Order) (kept : (scan : Scan K g) → ScanIsKept order.cmp scan) (lasts : SoundLasts) (old : Seen) (facts : Facts) where
  abbrev new : Seen
  new = record old { facts = facts }

  -- where the files are the same, and of the memtables all that is read
  pub serving_same : (db : OpenDb K g) (memory : Memories) (m : Machine) → facts.files ≡ old.facts.files → facts.synced ≡ old.facts.synced → StaysSynced old.facts facts db.log db.log db.directory db.tables (IsJobTable db.job) → LeavesMemories db.memory memory → IsServing order old db m → IsServing order new (record db { memory = memory }) (read_by facts m)
  serving_same db memory m same synced stays left h =
      serving_read order kept old new db memory m same (sound_same order lasts old facts same) (λ number is. inl is) (λ number is. inl is) left stays (synced_read old.facts facts synced) h

  -- and perhaps a number was drawn
  pub serving_numbered : (db : OpenDb K g) (memory : Memories) (numbers : FileNumbers) (m : Machine) → facts.files ≡ old.facts.files → facts.synced ≡ old.facts.synced → StaysSynced old.facts facts db.log db.log db.directory db.tables (IsJobTable db.job) → LeavesMemories db.memory memory → db.directory.numbers.next ≤ numbers.next → numbers.next ≤ db.directory.numbers.next + 1
      → IsServing order old db m → IsServing order new (record db { memory = memory; directory = record db.directory { numbers = numbers } }) (drawing m 1 facts)
  serving_numbered db memory numbers m same synced stays left le upto h =
      serving_drawn order new (record db { memory = memory }) (read_by facts m) (record db.directory { numbers = numbers }) (serving_same db memory m same synced stays left h) refl refl refl refl refl le upto

-- ---- files that aren't listed

list_refused : (m : Machine) (old facts : Facts) (e : DbError) → RefusesList e old facts → m.failures ≡ old.failures → UpkeepRefused m 0 e (drawing m 0 facts)
list_refused m old facts error.OutOfMemory h same = draws m 0 facts
list_refused m old facts error.Io h same = (omega (arith, h, same), (omega arith, omega arith), refl)
list_refused m old facts _ h same = absurd h

module _ {K : Type 0} {g : _} (order : Order) (kept : (scan : Scan K g) → ScanIsKept order.cmp scan) (lasts : SoundLasts) (old : Seen) (facts : Facts) (ids : Ids) (db : OpenDb K g) where
  pub ends_unlisted : {T : Type 0} (e : DbError) → db.broken ≡ false → Touches old.facts facts → RefusesList e old.facts facts → (IsTrue facts.faithful → (facts.files ≡ old.facts.files) × (facts.synced ≡ old.facts.synced))
      → (IsTrue facts.faithful → LosesUnused old.facts facts db) → LeadsOpen order old (record old { facts = facts }) ids db db (λ m n. IsPiece {T = T} m 0 (Err e) n)
  ends_unlisted e whole touches refused files carries =
      serves_on order old (record old { facts = facts }) ids db db 0 (Err e) whole whole touches.faithful touches.failures touches.denials
      (λ m f same serving. (
        list_refused m old.facts facts e refused same,
        undrawn order (record old { facts = facts }) db m facts (serving_same order kept lasts old facts db db.memory m (files f).0 (files f).1
            (stays_beside old.facts facts db.log db.directory db.tables (IsJobTable db.job) (files f).0 (files f).1 (λ h. stayed_unused old.facts facts db h.names (carries f) h.stayed) (names_unused old.facts facts db (carries f))) (leaves_same db.memory) serving),
      ))

-- nothing was done
module _ {K : Type 0} {g : _} (order : Order) (kept : (scan : Scan K g) → ScanIsKept order.cmp scan) (lasts : SoundLasts) (source : Seen) (ids : Ids) (db : OpenDb K g) where
  pub ends_idle : {T : Type 0} (most : ℕ) (done : T) → db.broken ≡ false → LeadsOpen order source source ids db db (λ m n. IsPiece m most (Ok done) n)
  ends_idle most done whole =
      piece_within order source source ids db db 0 most (Ok done) (omega arith)
      (serves_on order source source ids db db 0 (Ok done) whole whole (λ f. f) (omega arith) refl
      (λ m f same serving. (draws m 0 source.facts, undrawn order source db m source.facts (serving_same order kept lasts source source.facts db db.memory m refl refl (stays_same source.facts source.facts db.log db.directory db.tables (IsJobTable db.job) refl refl refl) (leaves_same db.memory) serving))))

  -- there was no memory for it
  pub ends_full : {T : Type 0} (most : ℕ) → db.broken ≡ false → LeadsOpen order source source ids db db (λ m n. IsPiece {T = T} m most (Err error.OutOfMemory) n)
  ends_full most whole =
      piece_within order source source ids db db 0 most (Err error.OutOfMemory) (omega arith)
      (serves_on order source source ids db db 0 (Err error.OutOfMemory) whole whole (λ f. f) (omega arith) refl
      (λ m f same serving. (draws m 0 source.facts, undrawn order source db m source.facts (serving_same order kept lasts source source.facts db db.memory m refl refl (stays_same source.facts source.facts db.log db.directory db.tables (IsJobTable db.job) refl refl refl) (leaves_same db.memory) serving))))

-- ---- a new log

module _ {K : Type 0} {g : _} (order : Order) (kept : (scan : Scan K g) → ScanIsKept order.cmp scan) (one : OneDirectoryLaw) (lasts : SoundLasts) (law : SameViewLaw) (seals : SealKept order.cmp)
    (old : Seen) (facts : Facts) (ids : Ids) (state : DbState K g) (memory : Memories) (numbers : FileNumbers) (whole : state.broken ≡ false) (touches : Touches old.facts facts)
    (synced : IsTrue facts.faithful → (q : List ℕ) → q ≢ name_of (Log state.directory.numbers.next) → facts.synced q ≡ old.facts.synced q)
    (carries : IsTrue facts.faithful → CarriesBut old.facts facts (λ (q : List ℕ). q ≡ name_of (Log state.directory.numbers.next)))
    (noted : IsTrue facts.faithful → Idles old.facts facts ⊎ Adds old.facts facts (Creation (name_of (Log state.directory.numbers.next)))) where
  abbrev next : ℕ
  next = state.directory.numbers.next

  abbrev drawn : DbState K g
  drawn = record state { directory = record state.directory { numbers = numbers } }

  -- what is said of a new log, of each directory that differs from the files in tables alone
  abbrev BeginsEach : Result (ℕ × String Global) DbError → Type 0
  BeginsEach result = OfEach (λ whole after. BeginsLog order (with_files old.facts whole) (with_files facts after) next numbers.next result) old.facts.files facts.files

  abbrev BeginsOver : Files → Files → Result (ℕ × String Global) DbError → Type 0
  BeginsOver ideal behind result = BeginsLog order (with_files old.facts ideal) (with_files facts behind) next numbers.next result

  -- the same of the one from which the files come
  begins_behind : (result : Result (ℕ × String Global) DbError) → BeginsEach result → (m : Machine) (serving : IsServing order old (open_db memory state) m)
      → BeginsOver serving.ideal (same_change old.facts.files facts.files serving.ideal serving.origin.differs).0 result
  begins_behind result each m serving =
      let change = same_change old.facts.files facts.files serving.ideal serving.origin.differs in
      each serving.ideal change.0 serving.origin.differs change.1

  pub ends_sealed : (number : ℕ) (name : String Global) (front : Vec (String Global)) (sealed : Memories) → map string_bytes front.items ≡ map string_bytes state.log.front.items ++ string_bytes state.log.name ∷ [] → memory.sealed ≡ None → 0 < length memory.current.inserts → IsSealed memory sealed → sealed_inserts sealed ≡ memory.current.inserts
      → DrawsLog old.facts facts next numbers.next (Ok (number, name)) → BeginsLog {T = ℕ × String Global} order old.facts facts next numbers.next (Ok (number, name)) → BeginsEach (Ok (number, name))
      → (IsTrue facts.faithful → facts.synced (name_of (Log next)) ≡ None) → LeadsOpen order old (record old { facts = facts }) ids (open_db memory state) (open_db sealed (record drawn { log = record { number = number; name = name; end = 0; front = front } })) (λ m n. IsPiece m 1 (Ok (tt {0})) n)
  ends_sealed number name front sealed behind unsealed filled is inserts draws_log begins each unsynced =
      serves_on order old (record old { facts = facts }) ids (open_db memory state) (open_db sealed (record drawn { log = record { number = number; name = name; end = 0; front = front } })) 1 (Ok (tt {0})) whole whole touches.faithful touches.failures touches.denials
      (λ m f same serving.
      let knows = serving.log.knows in
      let over = begins_behind (Ok (number, name)) each m serving in
      let left = (same_change old.facts.files facts.files serving.ideal serving.origin.differs).0 in
      let d = serving.log.directory.directory in (
        draws m 1 facts,
        serving_sealed order kept one lasts law seals old facts (open_db memory state) m serving f draws_log.3 (begins.others f) (synced f) sealed (record { number = number; name = name; end = 0; front = front }) (record state.directory { numbers = numbers }) unsealed filled is inserts
            (over.ok f d serving.log.directory.consistent knows.free) (over.manifest f d.manifest state.directory.manifest.end d.edits d.layout knows.ends) (subst (λ (n : ℕ). IsFree order left n) draws_log.2 (over.free f knows.free))
            draws_log.0 draws_log.1 refl refl refl refl refl refl draws_log.2 behind (carries f) (noted f) (unsynced f),
      ))

  log_refused : (m : Machine) (e : DbError) → RefusesLog e old.facts facts next numbers.next → m.failures ≡ old.facts.failures → next ≤ m.numbers → (e ≡ error.Io → ⊥) → UpkeepRefused m 1 e (drawing m 1 facts)
  log_refused m error.OutOfMemory h same below other = draws m 1 facts
  log_refused m error.Io h same below other = absurd (other refl)
  log_refused m error.NumbersSpent h same below other = ((let most = h.0 in omega (arith, most, below)), draws m 1 facts)
  log_refused m _ h same below other = absurd h

  -- the store failed: the log is there, or not
  log_failed : {T : Type 0} (back : Memories) → old.facts.failures < facts.failures → DrawsLog old.facts facts next numbers.next (Err error.Io) → BeginsLog {T = ℕ × String Global} order old.facts facts next numbers.next (Err error.Io) → BeginsEach (Err error.Io)
      → LeadsOpen order old (record old { facts = facts }) ids (open_db memory state) (open_db back (record drawn { broken = true })) (λ m n. IsPiece {T = T} m 1 (Err error.Io) n)
  log_failed back rise draws_log begins each =
      breaks order old (record old { facts = facts }) ids (open_db memory state) (open_db back (record drawn { broken = true })) 1 (Err error.Io) refl whole refl touches.faithful rise touches.denials
      (λ m f serving.
      let knows = serving.log.knows in
      let over = begins_behind (Err error.Io) each m serving in
      let left = (same_change old.facts.files facts.files serving.ideal serving.origin.differs).0 in
      let d = serving.log.directory.directory in
      elim draws_log [
        | inl none ↦ absurd (let same : facts.failures ≡ old.facts.failures = ap (λ (x : Facts). x.failures) none.1 in omega (arith, rise, same))
        | inr more ↦ broken_seal order kept one lasts law seals old facts (open_db memory state) m serving f more.1 (begins.others f) (synced f) (over.err f d serving.log.directory.consistent knows.free)
            (subst (λ (n : ℕ). IsFree order left n) more.0 (over.free f knows.free))
      ])

  -- then nothing was done
  log_calls : (e : DbError) (m : Machine) → IsServing order old (open_db memory state) m → IsTrue facts.faithful → facts.files ≡ old.facts.files → DrawsLog old.facts facts next numbers.next (Err e) → facts.calls ≡ old.facts.calls
  log_calls e m serving f same draws_log = elim draws_log [
    | inl none ↦ ap (λ (x : Facts). x.calls) none.1
    | inr more ↦ unmade_calls old.facts facts (name_of (Log next)) (noted f) same (serving.synced.stayed.undrawn next (state.directory.numbers.in_range.0, (let few = more.1 in omega (arith, few))) (omega arith)).1
  ]

  -- the files are as before
  log_unbegun : {T : Type 0} (e : DbError) (back : Memories) → (e ≡ error.Io → ⊥) → (IsTrue facts.faithful → (facts.files ≡ old.facts.files) × (facts.synced ≡ old.facts.synced)) → RefusesLog e old.facts facts next numbers.next → DrawsLog old.facts facts next numbers.next (Err e) → LeavesMemories memory back
      → LeadsOpen order old (record old { facts = facts }) ids (open_db memory state) (open_db back drawn) (λ m n. IsPiece {T = T} m 1 (Err e) n)
  log_unbegun e back other files refused draws_log left =
      serves_on order old (record old { facts = facts }) ids (open_db memory state) (open_db back drawn) 1 (Err e) whole whole touches.faithful touches.failures touches.denials
      (λ m f same serving.
      let below : next ≤ m.numbers = serving.numbers in
      let upto : (next ≤ numbers.next) × (numbers.next ≤ next + 1) = elim draws_log [ inl none ↦ (let is = none.0 in (omega (arith, is), omega (arith, is))) | inr more ↦ (let is = more.0 in (omega (arith, is), omega (arith, is))) ] in (
        log_refused m e refused same below other,
        serving_numbered order kept lasts old facts (open_db memory state) back numbers m (files f).0 (files f).1
            (stays_same old.facts facts state.log state.directory state.version.value.tables (IsJobTable state.job) (log_calls e m serving f (files f).0 draws_log) (files f).0 (files f).1) left upto.0 upto.1 serving,
      ))

  -- however it isn't
  pub ends_unsealed : {T : Type 0} (e : DbError) (back : Memories) → RefusesLog e old.facts facts next numbers.next → DrawsLog old.facts facts next numbers.next (Err e) → BeginsLog {T = ℕ × String Global} order old.facts facts next numbers.next (Err e) → BeginsEach (Err e) → LeavesMemories memory back
      → LeadsOpen order old (record old { facts = facts }) ids (open_db memory state) (open_db back (broken_by drawn e)) (λ m n. IsPiece {T = T} m 1 (Err e) n)
  ends_unsealed error.OutOfMemory back refused draws_log begins each left = log_unbegun error.OutOfMemory back (λ e. cc) refused refused draws_log left
  ends_unsealed error.Io back refused draws_log begins each left = log_failed back refused draws_log begins each
  ends_unsealed error.NumbersSpent back refused draws_log begins each left = log_unbegun error.NumbersSpent back (λ e. cc) (λ f. (ap (λ (x : Facts). x.files) refused.2, ap (λ (x : Facts). x.synced) refused.2)) refused draws_log left
  ends_unsealed _ back refused draws_log begins each left = absurd refused

-- ---- files that are gone

module _ {K : Type 0} {g : _} (order : Order) (kept : (scan : Scan K g) → ScanIsKept order.cmp scan) (one : OneDirectoryLaw) (lasts : SoundLasts) (drops : DropsKept order.cmp)
    (old : Seen) (facts : Facts) (ids : Ids) (db : OpenDb K g) (tables : List KeptTable) (memory : Memories) (gone : List ℕ) where
  pub ends_cleaned : {T : Type 0} (done : T) → db.broken ≡ false → (IsTrue facts.faithful → (name : List ℕ) → LeavesFile old.facts facts name ⊎ (get facts.files name ≡ None)) → Touches old.facts facts → KeepsUsed (IsUsed (λ generation. IsMemoryUsed db.iterators generation) db.memory) db.memory memory
      → (IsTrue facts.faithful → (n : ℕ) → IsNumbered n → KeepsTable old.facts facts (λ number. IsTableUsed db.tables db.job db.iterators number) n) → ListsToClose old.facts facts (λ number. IsTableUsed db.tables db.job db.iterators number) gone → ClosesTables old.tables tables gone
      → (IsTrue facts.faithful → OfEach (λ whole left. (d : Directory) → IsConsistent order whole d → AreOfDirectory (numbers_of db.directory) (λ number. IsTableUsed db.tables db.job db.iterators number) d
      → KeepsParts order whole left (λ number. IsTableUsed db.tables db.job db.iterators number) d) old.facts.files facts.files)
      → (IsTrue facts.faithful → LosesUnused old.facts facts db) → LeadsOpen order old (record { facts = facts; tables = tables; blocks = old.blocks }) ids db (record db { memory = memory }) (λ m n. IsPiece m 0 (Ok done) n)
  ends_cleaned done whole loses touches used each unused closes parts carries =
      serves_on order old (record { facts = facts; tables = tables; blocks = old.blocks }) ids db (record db { memory = memory }) 0 (Ok done) whole whole touches.faithful touches.failures touches.denials
      (λ m f same serving. (draws m 0 facts, undrawn order (record { facts = facts; tables = tables; blocks = old.blocks }) (record db { memory = memory }) m facts (serving_cleaned order kept one lasts drops old facts tables db memory gone used f (each f) unused closes (loses f) m serving (parts f) (carries f))))

  pub memory_cleaned : KeepsUsed (IsUsed (λ generation. IsMemoryUsed db.iterators generation) db.memory) db.memory memory → IsSameMemory db.memory memory
  memory_cleaned used = record {
    current = ap (λ (m : Memories). m.current) used.others;
    sealed = ap (λ (m : Memories). m.sealed) used.others;
    sealed_are = sealed_same order kept one lasts drops old facts tables db memory gone used;
  }
