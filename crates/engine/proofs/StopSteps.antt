-- What a process crash leaves in the middle of a command that writes no batch.
use Rattle.std.proofs.Common.{◌≡◌, ◌⊎◌, ◌<◌, ℕ, ◌+◌, ◌^◌, Bool, true, false, List, [], ◌∷◌, ◌++◌, Contains, max, length, sum_by, Option, Some, None, MatchBool, MatchOption, Ok, IsTrue, inl, inr, refl, sym, ap, subst, ◌∙◌, arith}
use Rattle.std.proofs.lemmas.List.Sums.{sum_by-append}
use Rattle.std.specs.FinMap.{get}
use Rattle.batch.specs.declared.operation.Operation.{Operation}
use Rattle.store.specs.Calls.{Adds, Idles}
use Rattle.store.specs.Files.{Creation, Disk, Facts, Files, MayLock}
use Rattle.store.specs.Losses.{CarriesBut}
use Rattle.store.specs.Stops.{LeavesOnly, WritesOnly}
use Rattle.store.proofs.Stopping.{leaves_both, leaves_same, leaves_so}
use Rattle.ikey.specs.Orders.{Order}
use Rattle.ikey.specs.Sources.{SameViewLaw}
use Rattle.ikey.specs.Views.{Contents, IsView}
use Rattle.ikey.specs.declared.entry.Entry.{Entry}
use Rattle.edits.specs.Names.{name_of}
use Rattle.edits.specs.declared.field.PlacedTable.{PlacedTable}
use Rattle.edits.specs.declared.names.FileName.TheVariants.{Log}
use Rattle.edits.specs.declared.numbers.FileNumbers.{FileNumbers}
use Rattle.recover.specs.Directory.{Directory, IsConsistent, entries_in, used_in}
use Rattle.recover.specs.Entries.{greatest}
use Rattle.recover.specs.Tables.{InTables, TableContent, tabled}
use Rattle.recover.specs.internal.Changes.{flushed, with_log}
use Rattle.recover.specs.internal.Laws.{FreeChangeLaw}
use Rattle.table.specs.Writing.{SyncsOnly}
use Rattle.table_access.specs.Tables.{Seen}
use Rattle.directory_writes.specs.Removal.{IsDead, IsLiveAmong}
use Rattle.directory_writes.specs.internal.Calls.{LeavesFile}
use Rattle.directory_writes.specs.internal.Flush.{MayBeFlushed}
use Rattle.directory_writes.specs.internal.LogFile.{HasNewLog, MayHaveLog}
use Rattle.directory_writes.specs.internal.Removal.{AreOfDirectory, StaysConsistent}
use Rattle.machine.specs.Access.{accepted}
use Rattle.machine.specs.Lifetime.{Opens, Settles}
use Rattle.machine.specs.Machine.{Machine, current, entry_count, operation_weight, weight}
use Rattle.machine.specs.Upkeep.{Draws}
use Rattle.machine.specs.declared.command.Answer.TheVariants.{Done}
use Rattle.machine.specs.declared.command.Mode.{Mode}
use Rattle.memtables.specs.Memories.{logged_in}
use Rattle.opening.specs.internal.Directories.{CanAppend}
use Rattle.opening.specs.internal.Opening.{IsContinued}
use Rattle.engine.specs.Follows.{Leads}
use Rattle.engine.specs.Headline.{Holds, HoldsAccepted}
use Rattle.engine.specs.InUse.{IsTableUsed}
use Rattle.engine.specs.OpenDb.{OpenDb}
use Rattle.engine.specs.Pace.{OnlyDraws, OnlyWorks}
use Rattle.engine.specs.Stands.{StandsOver}
use Rattle.engine.specs.StandsDb.{FollowsDb, db_ids_of, db_store_of, open_by, seen_by}
use Rattle.engine.specs.Stops.{DbStops, StopsKeeping}
use Rattle.engine.specs.Touching.{CloseTouches}
use Rattle.engine.specs.Working.{numbers_of}
use Rattle.engine.specs.declared.db.Db.{Db}
use Rattle.engine.specs.declared.ids.Ids.{Ids}
use Rattle.engine.specs.internal.Accounted.{AreAccounted}
use Rattle.engine.specs.internal.Directory.{MeansAccepted, MeansCurrent, MeansWith}
use Rattle.engine.specs.internal.Leading.{LeadsOpen}
use Rattle.engine.specs.internal.Pieces.{IsPiece}
use Rattle.engine.specs.internal.Resting.{Rests}
use Rattle.engine.specs.internal.Standing.{IsBroken, IsServing, StandsClosed, StandsOpen, StandsWhole, entries_of}
use Rattle.engine.specs.internal.Stopping.{KeepsOpen}
use Rattle.engine.proofs.InUse.{table_used}
use Rattle.engine.proofs.Lasting.{held}
use Rattle.engine.proofs.Flags.{draws_flag, opens_flag}
use Rattle.engine.proofs.LosingFirst.{first_then, found_then}
use Rattle.engine.proofs.LosingSeals.{first_begun, found_begun}
use Rattle.engine.proofs.LosingPieces.{first_behind, first_cleaned, first_same, found_behind, found_cleaned, found_same, serving_whole}
use Rattle.engine.proofs.OpenLock.{accepted_beside, answered_open, may_lock_only}
use Rattle.engine.proofs.OpenMachine.{accepted_again, means_whole}
use Rattle.engine.proofs.Origins.{undamaged_serving}
use Rattle.engine.proofs.Pieces.{rests_as, rests_seen, same_back, same_by}
use Rattle.engine.proofs.Reading.{has_placed}
use Rattle.engine.proofs.Steps.{serving_of}
use Rattle.engine.proofs.WriteSteps.{after_batches-push}

-- ---- what an open database stands for

module _ {K : Type 0} {g : _} (order : Order) (source : Seen) (db : OpenDb K g) (m : Machine) (serving : IsServing order source db m) where
  abbrev a : CanAppend order serving.ideal db.log.number db.log.end serving.contents (logged_in db.memory) db.memory.last
  a = serving.log.directory

  abbrev d : Directory
  d = a.directory

  entries_are : entries_of serving.contents db ≡ entries_in d
  entries_are = λ i. tabled (a.in_tables i) ++ a.in_logs i

  -- files that are the same directory stand for that
  pub means_still : (files : Files) → IsConsistent order files d → MeansAccepted order files m
  means_still files good =
      rests_seen order source db m serving files d good (subst (λ (es : List Entry). IsView es db.memory.last (current m)) entries_are serving.entries.view)
      (subst (λ (es : List Entry). AreAccounted es (entry_count m) (weight m)) entries_are serving.accounted) (sym a.spent)

  -- the same for those where the sealed memtable is flushed, or not
  pub means_flushed : SameViewLaw → (files : Files) (next after : ℕ) (entries : List Entry) → MayBeFlushed order serving.ideal files next after entries d serving.log.logs.sealed serving.log.logs.current → MeansAccepted order files m
  means_flushed law files next after entries may = elim may.either [
    | inl still ↦ means_still files still.0
    | inr done ↦
        let e = flushed d (d.edits ++ done.edit ∷ []) done.next done.content serving.log.logs.current in
        rests_as order law source db m serving files e done.consistent
        (same_by (entries_of serving.contents db) (entries_in d) (entries_in e) (entries_in e) entries_are (same_back (entries_in e) (entries_in d) done.same) refl) (done.used ∙ sym a.spent)
  ]

  -- and those that have a new log, or not
  means_logged : SameViewLaw → (files : Files) (number : ℕ) → IsConsistent order files d ⊎ HasNewLog order files d number → MeansAccepted order files m
  means_logged law files number (inl good) = means_still files good
  means_logged law files number (inr has) =
      let e = with_log d number in
      let used : used_in e ≡ used_in d = ap (λ (es : List Entry). max d.layout.last_sequence (greatest es)) has.entries in
      let same = entries_are ∙ ap (λ (es : List Entry). tabled d.tables ++ es) (sym has.entries) in
      rests_as order law source db m serving files e has.consistent
      (same_by (entries_of serving.contents db) (entries_in e) (entries_in e) (entries_in e) same (λ x. (λ i. i, λ i. i)) refl) (used ∙ sym a.spent)

  -- its numbers and the tables that it uses are those of its directory
  uses_of : AreOfDirectory (numbers_of db.directory) (λ number. IsTableUsed db.tables db.job db.iterators number) d
  uses_of = record {
    manifest = serving.log.knows.number;
    log_number = sym serving.log.knows.first_log;
    previous_log_number = sym serving.log.knows.previous_log;
    tables = λ content is.
        let here = has_placed serving.contents content (subst (λ (contents : List TableContent). InTables contents content) (sym a.in_tables) is) in
        let at = subst (λ (p : PlacedTable). Contains db.tables p) here.2 (serving.tables.version.all here.0 content.placed here.1) in
        table_used db.tables db.job db.iterators content.placed.table.number (content.placed, at, refl);
  }

-- broken or not, its files stand for what was accepted, where they are undamaged
means_standing : {K : Type 0} {g : _} (order : Order) (source : Seen) (ids : Ids) (db : OpenDb K g) (m : Machine) → m.damaged ≡ false → StandsOpen order source ids db m → MeansAccepted order source.facts.files m
means_standing order source ids db m undamaged s = at db.broken s.rest
  where
    at : (b : Bool) → MatchBool b (IsBroken order source.facts.files m) (IsServing order source db m) → MeansAccepted order source.facts.files m
    at true h = means_whole order source.facts.files m undamaged h.rest
    at false h =
        let serving = undamaged_serving order source db m undamaged h in
        means_still order source db m serving source.facts.files serving.log.directory.consistent

pub means_over : {K : Type 0} {g : _} (order : Order) (source : Seen) (ids : Ids) (o : Option (OpenDb K g)) (m : Machine) → m.damaged ≡ false → StandsOver order source ids o m → MeansAccepted order source.facts.files m
means_over order source ids None m undamaged s = means_whole order source.facts.files m undamaged s.rest
means_over order source ids (Some db) m undamaged s = means_standing order source ids db m undamaged s

-- ---- pieces of work

module _ {K : Type 0} {g : _} (order : Order) (old new : Seen) (db : OpenDb K g) where
  abbrev Accepted : Machine → Files → Type 0
  Accepted m files = MeansAccepted order files m

  -- where the store was only read
  pub keeps_read : (IsTrue new.facts.faithful → new.facts.calls ≡ old.facts.calls) → (IsTrue new.facts.faithful → new.facts.files ≡ old.facts.files) → (IsTrue new.facts.faithful → new.facts.synced ≡ old.facts.synced) → KeepsOpen order old new db
  keeps_read calls files synced = record {
    stops = λ f ids m s. leaves_same old.facts new.facts (Accepted m) (calls f) (files f) (means_standing order old ids db m s.undamaged s.stands);
    loses = λ f ids m s whole. first_same order old ids db m new.facts s whole (calls f) (files f) (synced f);
    found = λ f ids m s whole. found_same old.facts new.facts db (files f) (synced f);
  }

  module _ (whole : db.broken ≡ false) where
    pub keeps_cleaned : (IsTrue new.facts.faithful → LeavesOnly old.facts new.facts (StaysConsistent (numbers_of db.directory) (λ number. IsTableUsed db.tables db.job db.iterators number) old.facts.files))
        → (IsTrue new.facts.faithful → WritesOnly old.facts new.facts (IsDead (IsLiveAmong old.facts.files (numbers_of db.directory) (λ number. IsTableUsed db.tables db.job db.iterators number))))
        → (IsTrue new.facts.faithful → (q : List ℕ) → LeavesFile old.facts new.facts q ⊎ (get new.facts.files q ≡ None)) → KeepsOpen order old new db
    keeps_cleaned stops only left = record {
      stops = λ f ids m s.
          let serving = undamaged_serving order old db m s.undamaged (serving_of order old ids db m whole s.stands) in
          leaves_so old.facts new.facts _ (Accepted m)
          (λ files stays. means_still order old db m serving files (stays order serving.log.directory.directory serving.log.directory.consistent (uses_of order old db m serving))) (stops f);
      loses = λ f ids m s unbroken. first_cleaned order old ids db m new.facts s whole (only f);
      found = λ f ids m s unbroken. found_cleaned order old ids db m new.facts s whole (only f) (left f);
    }

    -- a log was begun, or may have been
    pub keeps_logged : SameViewLaw → (numbers : FileNumbers) → (IsTrue new.facts.faithful → LeavesOnly old.facts new.facts (MayHaveLog order old.facts.files db.directory.numbers.next))
        → (new.facts ≡ old.facts) ⊎ ((numbers.next ≡ db.directory.numbers.next + 1) × (db.directory.numbers.next < 2 ^ 62))
        → (IsTrue new.facts.faithful → Idles old.facts new.facts ⊎ Adds old.facts new.facts (Creation (name_of (Log db.directory.numbers.next))))
        → (IsTrue new.facts.faithful → SyncsOnly old.facts.synced new.facts.synced (name_of (Log db.directory.numbers.next)))
        → (IsTrue new.facts.faithful → CarriesBut old.facts new.facts (λ (q : List ℕ). q ≡ name_of (Log db.directory.numbers.next))) → KeepsOpen order old new db
    keeps_logged law numbers stops drew noted syncs carries = record {
      stops = λ f ids m s.
          let serving = undamaged_serving order old db m s.undamaged (serving_of order old ids db m whole s.stands) in
          leaves_so old.facts new.facts _ (Accepted m)
          (λ files may. means_logged order old db m serving law files db.directory.numbers.next (may serving.log.directory.directory serving.log.directory.consistent serving.log.knows.free)) (stops f);
      loses = λ f ids m s unbroken. elim drew [
        | inl same ↦ first_same order old ids db m new.facts s whole (ap (λ (x : Facts). x.calls) same) (ap (λ (x : Facts). x.files) same) (ap (λ (x : Facts). x.synced) same)
        | inr is ↦ elim (noted f) [
          | inl idle ↦ first_same order old ids db m new.facts s whole idle.0 (ap (λ (disk : Disk). disk.files) idle.1) (ap (λ (disk : Disk). disk.synced) idle.1)
          | inr adds ↦
              let serving = serving_whole order old ids db m s whole in
              first_begun order old db m serving refl new.facts numbers is.0 is.1 adds (syncs f) (carries f)
              ((stops f).now serving.log.directory.directory serving.log.directory.consistent serving.log.knows.free)
        ]
      ];
      found = λ f ids m s unbroken. elim drew [
        | inl same ↦ found_same old.facts new.facts db (ap (λ (x : Facts). x.files) same) (ap (λ (x : Facts). x.synced) same)
        | inr is ↦ elim (noted f) [
          | inl idle ↦ found_same old.facts new.facts db (ap (λ (disk : Disk). disk.files) idle.1) (ap (λ (disk : Disk). disk.synced) idle.1)
          | inr adds ↦ found_begun order old db m (serving_whole order old ids db m s whole) refl new.facts numbers is.0 is.1 adds (syncs f) (carries f)
        ]
      ];
    }

pub keeps_none : {K : Type 0} {g : _} (order : Order) (source : Seen) (db : OpenDb K g) → KeepsOpen order source source db
keeps_none order source db = keeps_read order source source db (λ f. refl) (λ f. refl) (λ f. refl)

-- what the machine accepted stays where numbers are drawn
draws_back : (order : Order) (files : Files) (m n : Machine) (most : ℕ) → Draws m most n → MeansAccepted order files n → MeansAccepted order files m
draws_back order files m n most drawn means = subst (λ (x : Machine). MeansAccepted order files x) drawn.1 means

-- one piece after another
pub keeps_then : {K T : Type 0} {g : _} (order : Order) (old mid new : Seen) (before between : OpenDb K g) (most : Machine → ℕ) (done : T) → ((ids : Ids) → LeadsOpen order old mid ids before between (λ m n. IsPiece m (most m) (Ok done) n))
    → (IsTrue new.facts.faithful → IsTrue mid.facts.faithful) → KeepsOpen order old mid before → KeepsOpen order mid new between → KeepsOpen order old new before
keeps_then order old mid new before between most done step back first next = record {
  stops = λ f ids m s.
      let one = (step ids).moved (back f) m s.stands in
      leaves_both old.facts mid.facts new.facts (λ files. MeansAccepted order files m) (first.stops (back f) ids m s)
      (leaves_so mid.facts new.facts (λ files. MeansAccepted order files one.0) (λ files. MeansAccepted order files m) (λ files means. draws_back order files m one.0 (most m) one.1.what means)
      (next.stops f ids one.0 (drawn_whole m one.0 (most m) ids s one.1.what one.2)));
  loses = λ f ids m s whole.
      let one = (step ids).moved (back f) m s.stands in
      let r = drawn_whole m one.0 (most m) ids s one.1.what one.2 in
      let found = first.found (back f) ids m s whole in
      let later = next.stops f ids one.0 r in
      first_then order old.facts mid.facts new.facts later.more before m later.calls found (first.loses (back f) ids m s whole)
      (first_behind order old mid ids ids before between m one.0 s whole r (ap (λ (x : Machine). x.broken) one.1.what.1) found m (ap (λ (x : Machine). x.base) one.1.what.1) (ap (λ (x : Machine). x.batches) one.1.what.1)
      (let same = ap (λ (x : Machine). x.synced) one.1.what.1 in omega (arith, same)) new.facts (λ unbroken. next.loses f ids one.0 r unbroken));
  found = λ f ids m s whole.
      let one = (step ids).moved (back f) m s.stands in
      let r = drawn_whole m one.0 (most m) ids s one.1.what one.2 in
      let found = first.found (back f) ids m s whole in
      found_then old.facts mid.facts new.facts before found
      (found_behind order old mid ids ids before between m one.0 s whole r (ap (λ (x : Machine). x.broken) one.1.what.1) found new.facts (λ unbroken. next.found f ids one.0 r unbroken));
}
  where
    drawn_whole : (m n : Machine) (most : ℕ) (ids : Ids) → StandsWhole order old ids before m → Draws m most n → StandsOpen order mid ids between n → StandsWhole order mid ids between n
    drawn_whole m n most ids s drawn stands = record { stands = stands; undamaged = draws_flag m n most drawn ∙ s.undamaged }

-- ---- an open

-- it was known whether the in-doubt batch counts
means_unpushed : (order : Order) (files : Files) (m : Machine) (operations : List Operation) → MeansCurrent order files (record m { in_doubt = None; batches = m.batches ++ operations ∷ []; used = m.used + length operations })
    → MeansWith order files m operations
means_unpushed order files m operations means =
    let lengths = sum_by-append length m.batches (operations ∷ []) in
    let weights = sum_by-append (sum_by operation_weight) m.batches (operations ∷ []) in
    let count : m.first_entries + sum_by length (m.batches ++ operations ∷ []) ≡ entry_count m + length operations = omega (arith, lengths) in
    let heavy : m.first_weight + sum_by (sum_by operation_weight) (m.batches ++ operations ∷ []) ≡ weight m + sum_by operation_weight operations = omega (arith, weights) in
    let A : ℕ → Type 0 = λ n. AreAccounted means.entries n (m.first_weight + sum_by (sum_by operation_weight) (m.batches ++ operations ∷ [])) in
    let B : ℕ → Type 0 = λ n. AreAccounted means.entries (entry_count m + length operations) n in
    record {
      entries = means.entries;
      spelled = means.spelled;
      view = subst (λ (map : Contents). IsView means.entries (m.used + length operations) map) (after_batches-push m.base m.batches operations) means.view;
      accounted = subst B heavy (subst A count means.accounted);
    }

settled_back : (order : Order) (files : Files) (m s : Machine) → Settles m s → MeansAccepted order files s → MeansAccepted order files m
settled_back order files m s settles means = at m.in_doubt refl settles
  where
    at : (o : Option (List Operation)) → m.in_doubt ≡ o
        → MatchOption o (s ≡ m) (λ operations. (s ≡ record m { in_doubt = None }) ⊎ (s ≡ record m { in_doubt = None; batches = m.batches ++ operations ∷ []; used = m.used + length operations }))
        → MatchOption o (MeansCurrent order files m) (λ operations. MeansCurrent order files m ⊎ MeansWith order files m operations)
    at None none is =
        subst (λ (x : Option (List Operation)). MatchOption x (MeansCurrent order files m) (λ operations. MeansCurrent order files m ⊎ MeansWith order files m operations)) none
        (subst (λ (x : Machine). MeansAccepted order files x) is means)
    at (Some operations) some (inl is) = inl (subst (λ (x : Machine). MeansAccepted order files x) is means)
    at (Some operations) some (inr is) = inr (means_unpushed order files m operations (subst (λ (x : Machine). MeansAccepted order files x) is means))

-- what the database stands for once it is open, the machine did before
pub opened_back : (order : Order) (files : Files) (m n : Machine) (mode : Mode) → m.opened ≡ false → Opens m mode Done n → MeansAccepted order files n → MeansAccepted order files m
opened_back order files m n mode closed opens means =
    let said = (answered_open m n mode Done closed opens).1 in
    settled_back order files m said.0 said.1 (subst (λ (x : Machine). MeansAccepted order files x) said.3 means)

pub continued_keeps : (order : Order) (old new : Facts) (m : Machine) → MeansAccepted order old.files m → LeavesOnly old new (IsContinued order old.files) → LeavesOnly old new (λ files. MeansAccepted order files m)
continued_keeps order old new m means h =
    leaves_so old new (IsContinued order old.files) (λ files. MeansAccepted order files m) (λ files continued. accepted_again order old.files files continued m means) h

-- the removal of files after it
pub opened_keeps : {K : Type 0} {g : _} (order : Order) (old : Facts) (mid new : Seen) (db : OpenDb K g) (mode : Mode) → (IsTrue new.facts.faithful → IsTrue mid.facts.faithful)
    → ((ids : Ids) → Leads old mid.facts (Rests order old ids) (StandsOpen order mid ids db) (λ m n. Opens m mode Done n)) → (IsTrue mid.facts.faithful → (m : Machine) → MeansAccepted order old.files m → LeavesOnly old mid.facts (λ files. MeansAccepted order files m))
    → KeepsOpen order mid new db → IsTrue new.facts.faithful → (ids : Ids) (m : Machine) → m.damaged ≡ false → Rests order old ids m → LeavesOnly old new.facts (λ files. MeansAccepted order files m)
opened_keeps order old mid new db mode back step first next f ids m undamaged r =
    let one = (step ids).moved (back f) m r in
    leaves_both old mid.facts new.facts (λ files. MeansAccepted order files m) (first (back f) m (means_whole order old.files m undamaged r.rest))
    (leaves_so mid.facts new.facts (λ files. MeansAccepted order files one.0) (λ files. MeansAccepted order files m) (λ files means. opened_back order files m one.0 mode r.opened one.1 means)
    (next.stops f ids one.0 (record { stands = one.2; undamaged = opens_flag m one.0 mode Done one.1 ∙ undamaged })))

-- the lock's file stands for nothing
pub lock_keeps : (order : Order) {ids : Ids} (old new : Facts) (m : Machine) → FreeChangeLaw → m.damaged ≡ false → StandsClosed order old ids m → LeavesOnly old new (MayLock old.files) → LeavesOnly old new (λ files. MeansAccepted order files m)
lock_keeps order old new m law undamaged s h =
    leaves_so old new (MayLock old.files) (λ files. MeansAccepted order files m)
    (λ files may. accepted_beside order old.files files law (may_lock_only old.files files may) m (means_whole order old.files m undamaged s.rest)) h

-- a call of the store after it that changes nothing
pub keeps_behind : (order : Order) (old mid new : Facts) (m : Machine) → new.calls ≡ mid.calls → new.files ≡ mid.files → LeavesOnly old mid (λ files. MeansAccepted order files m) → LeavesOnly old new (λ files. MeansAccepted order files m)
keeps_behind order old mid new m calls files h =
    leaves_both old mid new (λ fs. MeansAccepted order fs m) h (leaves_same mid new (λ fs. MeansAccepted order fs m) calls files h.now)

-- ---- what a command says

pub stops_keeping : (order : Order) (m : Machine) (old new : Facts) → LeavesOnly old new (λ files. MeansAccepted order files m) → StopsKeeping order m old new
stops_keeping order m old new h =
    leaves_so old new (λ files. MeansAccepted order files m) (λ files. HoldsAccepted order files m) (λ files means. held order files m m.in_doubt means) h

-- one that changes nothing
pub stops_standing : {K : Type 0} {g : _} (order : Order) (source : Seen) (ids : Ids) (o : Option (OpenDb K g)) (new : Facts) → (IsTrue new.faithful → new.calls ≡ source.facts.calls) → (IsTrue new.faithful → new.files ≡ source.facts.files)
    → IsTrue new.faithful → (m : Machine) → m.damaged ≡ false → StandsOver order source ids o m → StopsKeeping order m source.facts new
stops_standing order source ids o new calls files f m undamaged s =
    stops_keeping order m source.facts new (leaves_same source.facts new (λ fs. MeansAccepted order fs m) (calls f) (files f) (means_over order source ids o m undamaged s))

pub stops_closed : {K : Type 0} {g : _} (order : Order) (source : Seen) (ids : Ids) (o : Option (OpenDb K g)) (new : Facts) → CloseTouches o source.facts new
    → IsTrue new.faithful → (m : Machine) → m.damaged ≡ false → StandsOver order source ids o m → StopsKeeping order m source.facts new
stops_closed {K} {g} order source ids None new touches = stops_standing {K = K} {g = g} order source ids None new touches.calls touches.files
stops_closed {K} {g} order source ids (Some db) new touches = stops_standing {K = K} {g = g} order source ids (Some db) new touches.calls touches.files

-- one that an open database did
pub stops_lent : {K : Type 0} {g : _} (order : Order) (source new : Seen) (ids : Ids) (o : Option (OpenDb K g)) (db : OpenDb K g) → o ≡ Some db → KeepsOpen order source new db
    → IsTrue new.facts.faithful → (m : Machine) → m.damaged ≡ false → StandsOver order source ids o m → StopsKeeping order m source.facts new.facts
stops_lent order source new ids o db is keeps f m undamaged s =
    stops_keeping order m source.facts new.facts (keeps.stops f ids m (record { stands = subst (λ (x : Option (OpenDb _ _)). StandsOver order source ids x m) is s; undamaged = undamaged }))

-- ---- commands of an open database, one after the other

abbrev worked : Machine → Machine → Machine
worked m n = record m { numbers = n.numbers; broken = n.broken; failures = n.failures; denials = n.denials }

-- what files held after work they did before it
holds_back : (order : Order) (files : Files) (m n : Machine) → OnlyWorks m n → HoldsAccepted order files n → HoldsAccepted order files m
holds_back order files m n works holds = at m.in_doubt (subst (λ (x : Machine). HoldsAccepted order files x) works.1 holds)
  where
    at : (o : Option (List Operation)) → MatchOption o (Holds order files (worked m n)) (λ batch. Holds order files (worked m n) ⊎ Holds order files (accepted (worked m n) batch false))
        → MatchOption o (Holds order files m) (λ batch. Holds order files m ⊎ Holds order files (accepted m batch false))
    at None h = record { entries = h.entries; directory = h.directory; view = h.view }
    at (Some batch) (inl h) = inl (record { entries = h.entries; directory = h.directory; view = h.view })
    at (Some []) (inr h) = inr (record { entries = h.entries; directory = h.directory; view = h.view })
    at (Some (operation ∷ operations)) (inr h) = inr (record { entries = h.entries; directory = h.directory; view = h.view })

pub db_stops_none : {S K : Type 0} {g : _} (order : Order) (facts : S → Facts) (db : Db S K g) → DbStops order facts db db
db_stops_none order facts db f m undamaged s =
    stops_keeping order m (facts (db_store_of db)) (facts (db_store_of db))
    (leaves_same (facts (db_store_of db)) (facts (db_store_of db)) (λ files. MeansAccepted order files m) refl refl (means_standing order (seen_by facts db) (db_ids_of db) (open_by db) m undamaged s))

pub db_stops_then : {S K : Type 0} {g : _} (order : Order) (facts : S → Facts) (old mid new : Db S K g) → FollowsDb order facts old mid OnlyDraws
    → (IsTrue (facts (db_store_of new)).faithful → IsTrue (facts (db_store_of mid)).faithful) → DbStops order facts old mid → DbStops order facts mid new → DbStops order facts old new
db_stops_then order facts old mid new steps back first next f m undamaged s =
    let one = steps.moved (back f) m s in
    let still : one.0.damaged ≡ false = ap (λ (x : Machine). x.damaged) one.1.0.1 ∙ undamaged in
    leaves_both (facts (db_store_of old)) (facts (db_store_of mid)) (facts (db_store_of new)) (λ files. HoldsAccepted order files m) (first (back f) m undamaged s)
    (leaves_so (facts (db_store_of mid)) (facts (db_store_of new)) (λ files. HoldsAccepted order files one.0) (λ files. HoldsAccepted order files m)
    (λ files holds. holds_back order files m one.0 one.1.0 holds) (next f one.0 still one.2))
