-- What syncs of the logs that an open found leave of the database, and a power loss after them:
-- what it left before them.
use Rattle.std.proofs.Common.{◌≡◌, ◌≢◌, ◌<◌, ◌≤◌, ◌++◌, ◌∷◌, [], ℕ, Bool, true, false, List, Option, None, Some, Result, Ok, Err, MatchBool, OnOk, IsTrue, is_err, inl, inr, map, refl, sym, ap, subst, ◌∙◌, arith, append-nil, append_assoc, string_bytes}
use Rattle.std.specs.FinMap.{contains_key, get}
use Rattle.std.specs.List.{AllByRecursion}
use Rattle.coding.specs.declared.error.DbError.{DbError}
use Rattle.coding.specs.declared.error.DbError.TheVariants as error
use Rattle.db_cursor.proofs.ScanSteps.{scan_kept}
use Rattle.directory_writes.proofs.StoreCalls.{behind_added}
use Rattle.directory_writes.specs.Differing.{OfEach}
use Rattle.edits.specs.Names.{IsNumbered, name_of}
use Rattle.edits.specs.declared.field.PlacedTable.{PlacedTable}
use Rattle.edits.specs.declared.names.FileName.TheVariants.{Current, Log, Manifest, OldTable, Table}
use Rattle.ikey.specs.Orders.{Order}
use Rattle.machine.specs.Lifetime.{Opens}
use Rattle.machine.specs.Machine.{Machine}
use Rattle.machine.specs.declared.command.Answer.TheVariants.{Done, Refused}
use Rattle.machine.specs.declared.command.Mode.{Mode}
use Rattle.memtables.specs.Memories.{Memories}
use Rattle.memtables.specs.Places.{LeavesMemories}
use Rattle.opening.proofs.Reopening.{next_of}
use Rattle.opening.specs.Durable.{IsSynced, LeavesDurable}
use Rattle.opening.specs.Losses.{IsLogBelow, IsNoneOf}
use Rattle.opening.specs.declared.directory.CurrentLog.{CurrentLog}
use Rattle.opening.specs.declared.directory.DirectoryState.{DirectoryState}
use Rattle.opening.specs.internal.Begun.{BeginsSynced}
use Rattle.opening.specs.internal.Durable.{HasDurable, IsSpared, Spares}
use Rattle.opening.specs.internal.Opening.{IsContinued}
use Rattle.opening.specs.internal.Outcome.{OpenOutcome}
use Rattle.opening.specs.internal.Renewing.{RenewsWhole}
use Rattle.recover.proofs.Adding.{logs_apart}
use Rattle.recover.specs.Tables.{TableContent}
use Rattle.store.proofs.Carrying.{carries_same}
use Rattle.store.proofs.LosingOn.{loses_both, loses_later, loses_noted, loses_same, lost_here}
use Rattle.store.proofs.Stopping.{leaves_both, leaves_so}
use Rattle.store.specs.Calls.{Adds}
use Rattle.store.specs.Files.{Call, Disk, Facts, Files, Sync, disk_of, with_synced}
use Rattle.store.specs.Losses.{BeginsWith, CarriesBut, IsLost, IsLostSince, LosesOnly, Lost, SyncsBeginnings, behind_sync}
use Rattle.store.specs.Stops.{LeavesOnly, moment}
use Rattle.table_access.specs.Tables.{Seen, SoundStays}
use Rattle.engine.proofs.FrontSyncing.{sync_keeps, syncs_unappended}
use Rattle.engine.proofs.LosingBegun.{lost_now}
use Rattle.engine.proofs.LostEarlier.{begins_both, since_last}
use Rattle.engine.proofs.OpenMachine.{open_refused}
use Rattle.engine.proofs.Reading.{read_by, stands_kept}
use Rattle.engine.proofs.RecentWrites.{left_kept}
use Rattle.engine.proofs.ReopeningSteps.{stays_through}
use Rattle.engine.proofs.Synced.{StaysSynced, lost_kept}
use Rattle.engine.proofs.WriteSynced.{kept_each, synced_but_last, written_stays}
use Rattle.engine.specs.Follows.{Leads}
use Rattle.engine.specs.InUse.{IsJobTable}
use Rattle.engine.specs.OpenDb.{OpenDb}
use Rattle.engine.specs.Reopening.{HasKeptLogs, KeptOver, LeavesFirst, LosesOn, StaysFound, StaysOrGoes}
use Rattle.engine.specs.Touching.{SyncsLog}
use Rattle.engine.specs.Working.{LosesDead}
use Rattle.engine.specs.declared.ids.Ids.{Ids}
use Rattle.engine.specs.declared.log.LogError.{LogError}
use Rattle.engine.specs.declared.log.LogError.TheVariants.{Device}
use Rattle.engine.specs.internal.Directory.{MeansAccepted}
use Rattle.engine.specs.internal.Logs.{LeavesOrSyncs, SyncsEach, SyncsFront, SyncsThese}
use Rattle.engine.specs.internal.Resting.{LosesMeaning, Rests, is_of_memory}
use Rattle.engine.specs.internal.Standing.{HasLog, IsBroken, IsServing, StandsClosed, StandsOpen}

-- ---- what is synced grows

-- It is a beginning of what the file holds still.
pub grown_sound : (a b : Facts) → b.files ≡ a.files → ((q : List ℕ) → LeavesOrSyncs a b q) → SyncsBeginnings a → SyncsBeginnings b
grown_sound a b files leaves sound q held synced there is = elim (leaves q) [
  | inl left ↦ sound q held synced (sym (ap (λ (fs : Files). get fs q) files) ∙ there) (sym left ∙ is)
  | inr whole ↦ (let both : Some held ≡ Some synced = sym there ∙ sym whole ∙ is in let same : held ≡ synced = cc in ([], same ∙ sym (append-nil synced)))
]

-- One name: what is left has what was synced of it before.
grown_left : (a b : Facts) (q bytes held synced : List ℕ) → b.files ≡ a.files → LeavesOrSyncs a b q → SyncsBeginnings a → get b.files q ≡ Some held → ((whole : List ℕ) → b.synced q ≡ Some whole → BeginsWith bytes whole) → a.synced q ≡ Some synced → BeginsWith bytes synced
grown_left a b q bytes held synced files (inl left) sound there kept is = kept synced (left ∙ is)
grown_left a b q bytes held synced files (inr whole) sound there kept is =
    begins_both bytes held synced (kept held (whole ∙ there)) (sound q held synced (sym (ap (λ (fs : Files). get fs q) files) ∙ there) is)

-- After a sync that succeeded, a loss until the next call is one before it.
pub lost_grown : (a b : Facts) (lost : Files) → b.files ≡ a.files → ((q : List ℕ) → LeavesOrSyncs a b q) → SyncsBeginnings a → behind_sync [] b.calls ≡ [] → Lost b (moment b) lost → Lost a (moment a) lost
lost_grown a b lost files leaves sound ends h =
    let since : IsLost b.files [] (disk_of b) lost = subst (λ (calls : List Call). IsLostSince calls (disk_of b) lost) ends (lost_here b lost h) in
    let before : IsLost a.files [] (disk_of a) lost = record {
      names = λ q. since.names q ∙ ap (λ (fs : Files). contains_key fs q) files;
      beginning = λ q bytes there. let front = since.beginning q bytes there in (front.0, sym (ap (λ (fs : Files). get fs q) files) ∙ front.1, front.2);
      kept = λ q bytes synced there is.
          let front = since.beginning q bytes there in
          grown_left a b q bytes front.0 synced files (leaves q) sound front.1 (λ whole held. since.kept q bytes whole there held) is;
    } in
    lost_now a lost (since_last (behind_sync [] a.calls) (disk_of a) lost before)

-- ---- one sync after the other

one_sync : (a b : Facts) (name : List ℕ) → Adds a b (Sync name) → b.synced ≡ with_synced a.synced name (get a.files name) → (q : List ℕ) → LeavesOrSyncs a b q
one_sync a b name adds synced q = sync_keeps a a b name q synced adds.1 (inl refl)

each_calls : (done : List (List ℕ)) (a b : Facts) → SyncsEach done a b → (more : List Call) × (b.calls ≡ a.calls ++ more)
each_calls [] a b idle = ([], idle.0 ∙ sym (append-nil a.calls))
each_calls (name ∷ done) a b each =
    let rest = each_calls done each.0 b each.3 in
    let call : Call = record { found = disk_of a; change = Sync name } in
    (call ∷ rest.0, rest.1 ∙ ap (λ (calls : List Call). calls ++ rest.0) each.1.0 ∙ append_assoc a.calls (call ∷ []) rest.0)

-- At each moment of them a loss is one before them.
pub loses_each : (done : List (List ℕ)) (a b : Facts) (P : Files → Type 0) → SyncsEach done a b → SyncsBeginnings a → LosesOnly a a P → LosesOnly a b P
loses_each [] a b P idle sound here = loses_same a b P idle.0 (ap (λ (disk : Disk). disk.files) idle.1) (ap (λ (disk : Disk). disk.synced) idle.1) here
loses_each (name ∷ done) a b P each sound here =
    let mid = each.0 in
    let leaves = one_sync a mid name each.1 each.2 in
    let behind : LosesOnly mid mid P = λ lost since. here lost (lost_grown a mid lost each.1.1 leaves sound (behind_added a mid name each.1) since) in
    let rest = each_calls done mid b each.3 in
    loses_both a mid b rest.0 P rest.1 (loses_noted a mid (Sync name) P (inr each.1) here behind) (loses_each done mid b P each.3 (grown_sound a mid each.1.1 leaves sound) behind)

-- and after other calls
pub loses_kept : (done : List (List ℕ)) (old mid kept : Facts) (first : List Call) (P : Files → Type 0) → mid.calls ≡ old.calls ++ first → SyncsEach done mid kept → SyncsBeginnings mid → LosesOnly old mid P → LosesOnly old kept P
loses_kept done old mid kept first P began each sound h =
    let rest = each_calls done mid kept each in
    loses_both old mid kept rest.0 P rest.1 h (loses_each done mid kept P each sound (loses_later old mid first P began h))

pub stays_grown : (since a b : Facts) (bound : ℕ) → b.files ≡ a.files → ((q : List ℕ) → LeavesOrSyncs a b q) → StaysFound since a bound → StaysFound since b bound
stays_grown since a b bound files leaves h =
    let same : (q : List ℕ) → get b.files q ≡ get a.files q = λ q. ap (λ (fs : Files). get fs q) files in
    let stays : (q : List ℕ) → StaysOrGoes a b q = λ q. inr (same q, left_kept a b q (same q) (leaves q)) in
    stays_through since a b bound (same (name_of Current)) (λ n num below. (stays (name_of (Table n)), stays (name_of (OldTable n)), stays (name_of (Log n)))) h

-- So what an open left before them it leaves after them.
module _ (order : Order) (done : List (List ℕ)) (old mid kept : Facts) (first : List Call) (began : mid.calls ≡ old.calls ++ first) (each : SyncsEach done mid kept) (sound : SyncsBeginnings mid) where
  pub meaning_kept : (m : Machine) → LosesMeaning order old mid m → LosesMeaning order old kept m
  meaning_kept m h = loses_kept done old mid kept first _ began each sound h

  pub on_kept : kept.files ≡ mid.files → ((q : List ℕ) → LeavesOrSyncs mid kept q) → LosesOn order old mid → LosesOn order old kept
  on_kept files leaves h since bound m stays here =
      let before = h since bound m stays here in
      (loses_kept done old mid kept first (LeavesFirst order since bound m) began each sound before.0, stays_grown since mid kept bound files leaves before.1)

-- and a process crash
pub stops_kept : (order : Order) (old mid kept : Facts) (m : Machine) → LeavesOnly old mid (λ files. MeansAccepted order files m) → LeavesOnly mid kept (λ files. files ≡ mid.files) → LeavesOnly old kept (λ files. MeansAccepted order files m)
stops_kept order old mid kept m first next =
    leaves_both old mid kept (λ files. MeansAccepted order files m) first
    (leaves_so mid kept (λ files. files ≡ mid.files) (λ files. MeansAccepted order files m) (λ files is. subst (λ (fs : Files). MeansAccepted order fs m) (sym is) first.now) next)

-- ---- no other file is synced

none_spared : (bound : ℕ) (names : List (List ℕ)) (q : List ℕ) → IsSpared q → AllByRecursion (IsLogBelow bound) names → IsNoneOf q names
none_spared bound [] q spared below = tt
none_spared bound (name ∷ names) q spared below = (
  (λ is. spared (Log below.0.0) below.0.1 (λ e. cc) (is ∙ below.0.3)),
  none_spared bound names q spared below.1,
)

-- The files of other programs, and the lock's, are as they were.
pub spared_kept : (old mid kept : Facts) (bound : ℕ) (names : List (List ℕ)) → SyncsThese names mid kept → AllByRecursion (IsLogBelow bound) names → IsTrue kept.faithful → Spares old mid → Spares old kept
spared_kept old mid kept bound names these below f h q spared =
    let before = h q spared in
    (ap (λ (fs : Files). get fs q) (these.files f) ∙ before.0, these.others f q (none_spared bound names q spared below) ∙ before.1)

-- What was synced whole is so still.
whole_kept : (a b : Facts) (q bytes : List ℕ) → b.files ≡ a.files → LeavesOrSyncs a b q → get a.files q ≡ Some bytes → a.synced q ≡ Some bytes → (get b.files q ≡ Some bytes) × (b.synced q ≡ Some bytes)
whole_kept a b q bytes files leaves there is =
    let now : get b.files q ≡ Some bytes = ap (λ (fs : Files). get fs q) files ∙ there in
    (now, elim leaves [ inl left ↦ left ∙ is | inr whole ↦ whole ∙ now ])

pub durable_kept : (n : ℕ) (a b : Facts) → b.files ≡ a.files → ((q : List ℕ) → LeavesOrSyncs a b q) → HasDurable n a → HasDurable n b
durable_kept n a b files leaves h =
    let d = h.durable in
    let current = whole_kept a b (name_of Current) (name_of (Manifest n) ++ 10 ∷ []) files (leaves (name_of Current)) d.1.0 d.1.1 in
    let manifest = whole_kept a b (name_of (Manifest n)) d.0 files (leaves (name_of (Manifest n))) d.2 d.3 in
    record { numbered = h.numbered; durable = (d.0, current, manifest.0, manifest.1) }

-- ---- the logs that were found

-- Those that the next open reads are before the new one, or aren't there.
pub found_kept : (order : Order) (old mid kept : Facts) (log : CurrentLog) (state : DirectoryState) → BeginsSynced old mid log state → RenewsWhole order old mid log state → string_bytes log.name ≡ name_of (Log log.number) → kept.files ≡ mid.files
    → AllByRecursion (IsSynced kept) (map string_bytes log.front.items) → HasKeptLogs kept state
found_kept order old mid kept log state begins renewed named files front n num less read =
    let since = begins.since in
    let last : IsNumbered log.number = subst IsNumbered (sym renewed.log_number) (next_of renewed.found renewed.usable) in
    let apart : name_of (Log n) ≢ string_bytes log.name = λ is. logs_apart n log.number num last (λ same. omega (arith, since, less, same)) (is ∙ named) in
    kept_each kept (name_of (Log n)) (map string_bytes log.front.items) front
    (λ none bytes there. absurd (let gone = begins.logs.all n num read (apart, none) in let bad : None ≡ Some bytes = sym gone ∙ (sym (ap (λ (fs : Files). get fs (name_of (Log n))) files) ∙ there) in cc))

-- and once more files are gone
pub found_cleaned : {K : Type 0} {g : _} (kept new : Facts) (db : OpenDb K g) (state : DirectoryState) → LosesDead kept new db → HasKeptLogs kept state → HasKeptLogs new state
found_cleaned kept new db state loses h n num less read =
    lost_kept kept new (name_of (Log n)) (elim (loses (name_of (Log n))) [ inl left ↦ inl left | inr gone ↦ inr gone.1 ]) (h n num less read)

-- ---- the database

-- None of the logs in front is in doubt.
module _ {K : Type 0} {g : _} (order : Order) (source : Seen) (db : OpenDb K g) (log : CurrentLog) (same : log ≡ record db.log { front = log.front }) (empty : log.front.items ≡ []) (front : AllByRecursion (IsSynced source.facts) (map string_bytes db.log.front.items)) where
  abbrev cleared : OpenDb K g
  cleared = record db { log = record db.log { front = log.front } }

  abbrev log_cleared : (ideal : Files) (contents : List TableContent) → HasLog order ideal contents db → HasLog order ideal contents cleared
  log_cleared ideal contents h = record { named = h.named; directory = h.directory; logs = h.logs; knows = h.knows }

  serving_cleared : (m : Machine) → IsServing order source db m → IsServing order source cleared m
  serving_cleared m h = record {
    whole = h.whole;
    certain = h.certain;
    ideal = h.ideal;
    origin = h.origin;
    contents = h.contents;
    log = log_cleared h.ideal h.contents h.log;
    tables = record { version = h.tables.version; in_order = h.tables.in_order; sound = h.tables.sound; drawn = h.tables.drawn };
    entries = h.entries;
    snapshots = h.snapshots;
    iterators = h.iterators;
    accounted = h.accounted;
    readable = h.readable;
    numbers = h.numbers;
    synced = synced_but_last source.facts source.facts db.log db.directory db.tables (λ q apart. refl) (λ q apart none. refl) (carries_same source.facts source.facts (λ (q : List ℕ). ⊥) refl refl refl) h.synced (record db.log { front = log.front }) refl refl empty front;
    recent = h.recent;
    job = h.job;
  }

  rest_cleared : (b : Bool) (m : Machine) → MatchBool b (IsBroken order source.facts.files m) (IsServing order source db m) → MatchBool b (IsBroken order source.facts.files m) (IsServing order source cleared m)
  rest_cleared true m h = h
  rest_cleared false m h = serving_cleared m h

  pub stands_cleared : (ids : Ids) (m : Machine) → StandsOpen order source ids db m → StandsOpen order source ids (record db { log = log }) m
  stands_cleared ids m s =
      let stands : StandsOpen order source ids cleared m = record { counts = s.counts; ids = s.ids; reached = s.reached; opened = s.opened; rest = rest_cleared db.broken m s.rest } in
      subst (λ (l : CurrentLog). StandsOpen order source ids (record db { log = l }) m) (sym same) stands

-- of the logs that may not be whole the same, or all, is synced then
front_stays : (names : List (List ℕ)) (old new : Facts) (log : CurrentLog) (state : DirectoryState) (tables : List PlacedTable) (used : ℕ → Type 0) → names ≡ map string_bytes log.front.items → SyncsThese names old new → CarriesBut old new (λ (q : List ℕ). ⊥) → IsTrue new.faithful
    → StaysSynced old new log log state tables used
front_stays names old new log state tables used is these carries f h =
    written_stays {T = Unit {0}} {E = LogError} (Unit {0}) (false ≡ true) false old new log log state tables f used (λ q apart. ap (λ (fs : Files). get fs q) (these.files f)) carries h
    (Err Device) (subst (λ (all : List (List ℕ)). SyncsLog {T = Unit {0}} {E = LogError} (Unit {0}) (false ≡ true) false (string_bytes log.name) all old new (Err Device)) is (syncs_unappended false old new names (string_bytes log.name) these)) refl refl refl

memories_same : (m : Memories) → LeavesMemories m m
memories_same m = record { inserts = refl; last = refl; generation = refl; sealed = refl; older = λ generation. refl }

-- The machine is as it was, since no call of the store failed.
same_machine : (old facts : Facts) (m : Machine) → m.failures ≡ old.failures → m.denials ≡ old.denials → facts.failures ≡ old.failures → facts.denials ≡ old.denials → read_by facts m ≡ m
same_machine old facts m failed denied failures denials =
    let f : facts.failures ≡ m.failures = failures ∙ sym failed in
    let d : facts.denials ≡ m.denials = denials ∙ sym denied in
    λ i. record m { failures = f i; denials = d i }

log_same : (a b : CurrentLog) → a.number ≡ b.number → a.name ≡ b.name → a.end ≡ b.end → a ≡ record b { front = a.front }
log_same a b number name end i = record { number = number i; name = name i; end = end i; front = a.front }

module _ {K : Type 0} {g : _} (order : Order) (law : SoundStays) (old : Facts) (mid : Seen) (facts : Facts) (db : OpenDb K g) (log : CurrentLog) (mode : Mode) where
  abbrev kept : Seen
  kept = record mid { facts = facts }

  -- An open that succeeded is so after them.
  pub leads_kept : (ids : Ids) (x : Unit {0}) → SyncsFront (map string_bytes db.log.front.items) mid.facts facts (Ok x) → (IsTrue facts.faithful → CarriesBut mid.facts facts (λ (q : List ℕ). ⊥))
      → log.number ≡ db.log.number → log.name ≡ db.log.name → log.end ≡ db.log.end → log.front.items ≡ []
      → Leads old mid.facts (Rests order old ids) (StandsOpen order mid ids db) (λ m n. Opens m mode Done n)
      → Leads old facts (Rests order old ids) (StandsOpen order kept ids (record db { log = log })) (λ m n. Opens m mode Done n)
  leads_kept ids x syncs carries number name end empty h = record {
    faithful = λ f. h.faithful (syncs.these.faithful f);
    moved = λ f m r.
        let one = h.moved (syncs.these.faithful f) m r in
        let n = one.0 in
        let files = syncs.these.files f in
        let names = map string_bytes db.log.front.items in
        let stays = front_stays names mid.facts facts db.log db.directory db.tables (IsJobTable db.job) refl syncs.these (carries f) f in
        let stands : StandsOpen order kept ids db (read_by facts n) =
        stands_kept order (λ scan. scan_kept order.cmp scan) mid kept db db.memory n files
        (law order.cmp mid facts (λ number. ap (λ (fs : Files). get fs (name_of (Table number))) files) (λ number. ap (λ (fs : Files). get fs (name_of (OldTable number))) files))
        (λ number is. inl is) (λ number is. inl is) (memories_same db.memory) stays (syncs.these.keeps f) ids one.2 in
        let same = same_machine mid.facts facts n one.2.counts.failures one.2.counts.denials syncs.done syncs.these.denials in
        (n, one.1, stands_cleared order kept db log (log_same log db.log number name end) empty (syncs.kept f) ids n (subst (λ (k : Machine). StandsOpen order kept ids db k) same stands));
  }

-- If the sync of one of them fails, it fails.
pub refused_kept : (order : Order) {ids : Ids} (old mid kept : Facts) (mode : Mode) (names : List (List ℕ)) → SyncsThese names mid kept → mid.failures < kept.failures → (IsTrue mid.faithful → IsTrue old.faithful) → old.failures ≤ mid.failures → mid.denials ≡ old.denials
    → (IsTrue mid.faithful → OfEach (λ whole left. IsContinued order whole left) old.files mid.files) → Leads old kept (Rests order old ids) (StandsClosed order kept ids) (λ m n. Opens m mode (Refused error.Io) n)
refused_kept order {ids} old mid kept mode names these rise back failures denials continued =
    open_refused order {ids = ids} old kept mode error.Io (λ f. back (these.faithful f)) (omega (arith, failures, rise)) (these.denials ∙ denials)
    (λ f. subst (λ (fs : Files). OfEach (λ whole left. IsContinued order whole left) old.files fs) (sym (these.files f)) (continued (these.faithful f))) (omega (arith, failures, rise)) (inr (inr refl))

-- ---- by what they answered

pub went : {P : Type 0} (r : Result (Unit {0}) LogError) → is_err r ≡ false → OnOk r P → P
went (Ok x) test h = h
went (Err e) test h = absurd (cc)

pub front_done : (names : List (List ℕ)) (old new : Facts) (r : Result (Unit {0}) LogError) → is_err r ≡ false → SyncsFront names old new r → SyncsFront names old new (Ok tt)
front_done names old new r test h = record { these = h.these; kept = λ f. went r test (h.kept f); done = went r test h.done; refused = tt }

pub front_refused : (names : List (List ℕ)) (old new : Facts) (r : Result (Unit {0}) LogError) → is_err r ≡ true → SyncsFront names old new r → old.failures < new.failures
front_refused names old new (Ok x) test h = absurd (cc)
front_refused names old new (Err e) test h = h.refused.1

pub outcome_refused : {T : Type 0} (old mid kept : Facts) (names : List (List ℕ)) → SyncsThese names mid kept → mid.failures < kept.failures → old.failures ≤ mid.failures → mid.denials ≡ old.denials → OpenOutcome {T = T} old kept (Err error.Io)
outcome_refused old mid kept names these rise failures denials = record {
  failures = omega (arith, failures, rise);
  denials = (let same = these.denials in omega (arith, same, denials));
  io = λ is. omega (arith, failures, rise);
  locked = λ is. absurd (cc);
  undenied = λ other. these.denials ∙ denials;
  memory = λ is. absurd (cc);
  allowed = tt;
}

pub durable_refused : {T : Type 0} (n : ℕ) (old mid kept : Facts) (names : List (List ℕ)) → SyncsThese names mid kept → (IsTrue mid.faithful → HasDurable n mid) → LeavesDurable {T = T} old kept (Err error.Io)
durable_refused n old mid kept names these has = record { ok = λ f. tt; err = λ f. inr (n, (durable_kept n mid kept (these.files f) (these.keeps f) (has (these.faithful f))).durable) }

-- Memory was missing after them.
pub is_memory : (e : DbError) → is_of_memory e ≡ true → e ≡ error.OutOfMemory
is_memory error.OutOfMemory is = refl
is_memory _ is = absurd (let bad : false ≡ true = is in cc)

pub outcome_starved : {T : Type 0} (old new : Facts) → new.failures ≡ old.failures → new.denials ≡ old.denials → OpenOutcome {T = T} old new (Err error.OutOfMemory)
outcome_starved old new stood denials = record {
  failures = omega (arith, stood);
  denials = omega (arith, denials);
  io = λ is. absurd (cc);
  locked = λ is. absurd (cc);
  undenied = λ other. denials;
  memory = λ is. inl stood;
  allowed = tt;
}

-- ---- of a session

-- It says nothing of an open that failed.
pub kept_refused : {K : Type 0} {g : _} (facts : Facts) (state : Option (OpenDb K g)) (e : DbError) → KeptOver facts state (Refused e)
kept_refused facts None e = tt
kept_refused facts (Some db) e = tt
