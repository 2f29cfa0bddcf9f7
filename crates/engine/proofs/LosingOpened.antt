-- What a power loss leaves in the middle of an open: what the directory stood for.
use Rattle.std.proofs.Common.{◌≡◌, ◌≢◌, ◌⊎◌, ◌<◌, ◌++◌, ◌+◌, ℕ, cond, Bool, true, false, List, [], ◌∷◌, max, IsTrue, MatchOption, Option, Some, None, is_some, inl, inr, refl, sym, ap, subst, ◌∙◌, arith, append-nil, append_assoc, string_bytes}
use Rattle.std.proofs.lemmas.List.{nil_from_length}
use Rattle.std.specs.FinMap.{contains_key, get, insert}
use Rattle.std.specs.List.{AllByRecursion}
use Rattle.batch.specs.declared.operation.Operation.{Operation}
use Rattle.edits.specs.Names.{name_of, IsNumbered}
use Rattle.edits.specs.declared.names.FileName.TheVariants.{Current, Lock, Log, Manifest, OldTable, Table, Temporary}
use Rattle.ikey.specs.Orders.{Order}
use Rattle.ikey.specs.Views.{IsView}
use Rattle.ikey.specs.declared.entry.Entry.{Entry}
use Rattle.logfile.specs.Log.{IsLog, shorter}
use Rattle.logfile.specs.declared.record.Tail.TheVariants.{Clean}
use Rattle.machine.specs.Lifetime.{Opens}
use Rattle.machine.specs.Machine.{Machine, current}
use Rattle.machine.specs.declared.command.Answer.TheVariants.{Done}
use Rattle.machine.specs.declared.command.Mode.{Mode}
use Rattle.directory_writes.specs.Removal.{IsDead}
use Rattle.opening.proofs.Cutting.{cut_directory}
use Rattle.opening.proofs.LosingOpens.{nothing_left, unwritten_loses}
use Rattle.opening.proofs.LosingWrites.{loses_writing, numbered_in}
use Rattle.opening.proofs.Reopening.{files_apart}
use Rattle.opening.proofs.Spared.{left_by_loss}
use Rattle.opening.proofs.Uncut.{other_left, others_left, uncut_on}
use Rattle.opening.specs.Durable.{LeavesFile}
use Rattle.opening.specs.Losses.{AreCut, BeginsSpared, HaveNamesStayed, IsButLock, IsKept, IsLogIn, IsReadIn, IsUncut, LeavesUncut}
use Rattle.opening.specs.declared.directory.CurrentLog.{CurrentLog}
use Rattle.opening.specs.declared.directory.DirectoryState.{DirectoryState}
use Rattle.opening.specs.internal.Begun.{BeginsSynced}
use Rattle.opening.specs.internal.Cuts.{AreLeft, IsLeftCut}
use Rattle.opening.specs.internal.Durable.{IsBeside}
use Rattle.opening.specs.internal.Opening.{IsContinued}
use Rattle.recover.proofs.Keeping.{free_change, live_of}
use Rattle.recover.proofs.NamedFiles.{get_other, get_same}
use Rattle.recover.proofs.NewLogs.{log_there}
use Rattle.recover.proofs.Adding.{table_of}
use Rattle.recover.proofs.OneMeaning.{same_log_file}
use Rattle.recover.specs.Directory.{Directory, IsConsistent}
use Rattle.recover.specs.Entries.{greatest}
use Rattle.recover.specs.Logs.{Batch, HasLog, HasLogs, InLogs, LogContent, NumbersRise, batch_entries, logged}
use Rattle.recover.specs.Tables.{InTables, TableContent, tabled}
use Rattle.store.proofs.Carrying.{carries_writes}
use Rattle.store.proofs.LosingOn.{loses_both, loses_read, loses_so}
use Rattle.store.proofs.Staying.{begins_behind, begins_same, stays_behind, stays_on, stays_same}
use Rattle.store.proofs.Stopping.{others_noted}
use Rattle.store.specs.Calls.{Adds, Idles}
use Rattle.store.specs.Files.{Call, Disk, Facts, Files, LockFile, MayLock, Synced, lock_name}
use Rattle.store.specs.Losses.{LosesOnly, StaysNamed}
use Rattle.store.specs.Stops.{KeepsBut, LeavesOnly, WritesOnly}
use Rattle.table_access.specs.Tables.{Seen}
use Rattle.engine.proofs.Flags.{opens_flag}
use Rattle.engine.proofs.FrontSyncing.{same_or_other}
use Rattle.engine.proofs.InUse.{table_used}
use Rattle.engine.proofs.Lasting.{held}
use Rattle.engine.proofs.Losing.{spared}
use Rattle.engine.proofs.LosingCalls.{reads_none}
use Rattle.engine.proofs.LosingPieces.{serving_whole}
use Rattle.engine.proofs.LostRemovals.{synced_or_idle}
use Rattle.engine.proofs.OpenLock.{OnlyLock, accepted_beside}
use Rattle.engine.proofs.OpenMachine.{accepted_again, means_whole}
use Rattle.engine.proofs.RecentBatches.{batches-append, logged_in_batches}
use Rattle.engine.proofs.RecentCuts.{IsLeft, LeftFront, front_cuts, left_front}
use Rattle.engine.proofs.RecentLosses.{in_first, in_front_of_last}
use Rattle.engine.proofs.RecentWrites.{left_kept}
use Rattle.engine.proofs.StayedNames.{SparesRead, spares_dead}
use Rattle.engine.proofs.StopSteps.{opened_back}
use Rattle.engine.specs.Follows.{Leads}
use Rattle.engine.specs.Headline.{HoldsAccepted}
use Rattle.engine.specs.InUse.{IsTableUsed}
use Rattle.engine.specs.OpenDb.{OpenDb}
use Rattle.engine.specs.Working.{IsLiveIn}
use Rattle.engine.specs.declared.ids.Ids.{Ids}
use Rattle.engine.specs.internal.Directory.{MeansAccepted, MeansCurrent, MeansWith}
use Rattle.engine.specs.internal.Logs.{LeavesOrSyncs, SyncsEach}
use Rattle.engine.specs.internal.Recent.{batches_in}
use Rattle.engine.specs.internal.Resting.{LosesMeaning, Rests}
use Rattle.engine.specs.internal.Standing.{IsServing, StandsOpen, entries_of}

-- ---- the lock's file stands for nothing

only_lock : (beside lost : Files) → ((q : List ℕ) → q ≢ lock_name → get lost q ≡ get beside q) → OnlyLock beside lost
unfolding OnlyLock
only_lock beside lost same file is apart = same (name_of file) (files_apart file Lock is tt apart)

may_lock : (old files : Files) → MayLock old files → KeepsBut old (λ (q : List ℕ). q ≡ lock_name) files
may_lock old files (inl same) q apart = ap (λ (fs : Files). get fs q) same
may_lock old files (inr made) q apart = ap (λ (fs : Files). get fs q) made ∙ at (contains_key old lock_name)
  where
    at : (b : Bool) → get (cond b old (insert old lock_name [])) q ≡ get old q
    at true = refl
    at false = get_other old lock_name [] q apart

pub lock_writes : (old new : Facts) → new.synced ≡ old.synced → Idles old new ⊎ Adds old new LockFile → WritesOnly old new (λ (q : List ℕ). q ≡ lock_name)
lock_writes old new synced noted = others_noted old new LockFile (λ (q : List ℕ). q ≡ lock_name) (λ q none. absurd none) (λ files left. may_lock old.files files left) (λ q apart. ap (λ (s : Synced). s q) synced) noted

pub lock_loses : (order : Order) (old new : Facts) (m : Machine) → new.synced ≡ old.synced → Idles old new ⊎ Adds old new LockFile → ((name : List ℕ) → StaysNamed old name) → MeansAccepted order old.files m → LosesMeaning order old new m
lock_loses order old new m synced noted stays means =
    loses_so old new (λ lost. LeavesUncut old lost → KeepsBut old.files (λ (q : List ℕ). q ≡ lock_name) lost) (λ lost. LeavesUncut old lost → MeansAccepted order lost m)
    (λ lost k uncut. accepted_beside order old.files lost free_change (only_lock old.files lost (k uncut)) m means)
    (others_left old new (λ (q : List ℕ). q ≡ lock_name) (lock_writes old new synced noted) stays)

pub lock_stayed : (old new : Facts) → new.synced ≡ old.synced → Idles old new ⊎ Adds old new LockFile → ((name : List ℕ) → StaysNamed old name) → HaveNamesStayed new
lock_stayed old new synced noted stays q apart = stays_on old new (λ (p : List ℕ). p ≡ lock_name) q apart (carries_writes old new (λ (p : List ℕ). p ≡ lock_name) (lock_writes old new synced noted)) (stays q)

-- an empty file has no mere beginning
empty_uncut : (files lost : Files) (q : List ℕ) → get files q ≡ Some [] → IsUncut files lost q
empty_uncut files lost q empty bytes held there is front =
    let none : [] ≡ bytes = (let both : Some [] ≡ Some bytes = sym empty ∙ there in cc) in
    nothing_left held front.0 (none ∙ front.1) ∙ none

lock_made : (old new : Files) (b : Bool) → contains_key old lock_name ≡ b → new ≡ cond b old (insert old lock_name []) → (get new lock_name ≡ get old lock_name) ⊎ (get new lock_name ≡ Some [])
lock_made old new true is made = inl (ap (λ (fs : Files). get fs lock_name) made)
lock_made old new false is made = inr (ap (λ (fs : Files). get fs lock_name) made ∙ get_same old lock_name [])

lock_file : (old new : Files) → MayLock old new → (get new lock_name ≡ get old lock_name) ⊎ (get new lock_name ≡ Some [])
lock_file old new (inl same) = inl (ap (λ (fs : Files). get fs lock_name) same)
lock_file old new (inr made) = lock_made old new (contains_key old lock_name) refl made

pub lock_uncut : (old new : Facts) (lost : Files) → MayLock old.files new.files → new.synced ≡ old.synced → LeavesUncut old lost → LeavesUncut new lost
lock_uncut old new lost may synced uncut q = elim (same_or_other q lock_name) [
  | inl is ↦ elim (lock_file old.files new.files may) [
    | inl same ↦ uncut_on old new lost q (ap (λ (n : List ℕ). get new.files n) is ∙ same ∙ ap (λ (n : List ℕ). get old.files n) (sym is), ap (λ (s : Synced). s q) synced) (uncut q)
    | inr empty ↦ inr (empty_uncut new.files lost q (ap (λ (n : List ℕ). get new.files n) is ∙ empty))
  ]
  | inr apart ↦ uncut_on old new lost q (may_lock old.files new.files may q apart, ap (λ (s : Synced). s q) synced) (uncut q)
]

-- ---- while an open writes

pub continued_loses : (order : Order) (old new : Facts) (m : Machine) → MeansAccepted order old.files m → LosesOnly old new (λ lost. LeavesUncut old lost → IsButLock (IsContinued order old.files) lost) → LosesMeaning order old new m
continued_loses order old new m means h =
    loses_so old new (λ lost. LeavesUncut old lost → IsButLock (IsContinued order old.files) lost) (λ lost. LeavesUncut old lost → MeansAccepted order lost m)
    (λ lost k uncut. let some = k uncut in accepted_beside order some.0 lost free_change (only_lock some.0 lost some.1) m (accepted_again order old.files some.0 some.2 m means)) h

pub unwritten_means : (order : Order) (old : Facts) (m : Machine) → MeansAccepted order old.files m → HaveNamesStayed old → LosesMeaning order old old m
unwritten_means order old m means stays = continued_loses order old old m means (unwritten_loses order old old refl refl refl stays)

-- ---- obsolete files are removed after it

each_left : (facts : Facts) (lost : Files) (logs : List LogContent) → ((n : ℕ) → InLogs logs n → get lost (name_of (Log n)) ≡ get facts.files (name_of (Log n))) → AllByRecursion (IsLeft facts lost) logs
each_left facts lost [] same = tt
each_left facts lost (log ∷ logs) same = (inr (same log.number (inl refl)), each_left facts lost logs (λ n i. same n (inr i)))

current_means : (order : Order) (files : Files) (m : Machine) → m.in_doubt ≡ None → MeansCurrent order files m → MeansAccepted order files m
current_means order files m certain means =
    subst (λ (o : Option (List Operation)). MatchOption o (MeansCurrent order files m) (λ operations. MeansCurrent order files m ⊎ MeansWith order files m operations)) (sym certain) means

-- the log of an empty file has no batches
empty_log : IsLog [] [] Clean
empty_log = record { fragments = []; cut = false; begun = false; blocks = shorter (omega arith) (inl refl); joined = refl; tail_is = refl }

no_batches_in : (files : Files) (content : LogContent) → HasLog files content → get files (name_of (Log content.number)) ≡ Some [] → content.batches ≡ []
no_batches_in files content has there =
    let none : LogContent = record { number = content.number; batches = []; tail = Clean } in
    same_log_file files content none refl has (record { bytes = []; numbered = has.numbered; there = there; spelled = record { records = []; log = empty_log; spelled = tt } })

last_log : (files : Files) (logs : List LogContent) (last : LogContent) → HasLogs files (logs ++ last ∷ []) → HasLog files last
last_log files [] last has = has.0
last_log files (log ∷ logs) last has = last_log files logs last has.1

front_none : (front rest : List Batch) → front ++ rest ≡ [] → front ≡ []
front_none [] rest is = refl
front_none (batch ∷ front) rest is = cc

module _ {K : Type 0} {g : _} (order : Order) (source : Seen) (db : OpenDb K g) (m : Machine) (serving : IsServing order source db m) (same : serving.ideal ≡ source.facts.files) (empty : db.log.end ≡ 0)
    (begun : BeginsSpared source.facts (string_bytes db.log.name)) (new : Facts) (mine : List ℕ → Type 0) (writes : WritesOnly source.facts new mine) (spares : SparesRead mine source.facts.files db.directory db.tables) where
  abbrev d : Directory
  d = serving.log.directory.directory

  abbrev log : List ℕ
  log = name_of (Log db.log.number)

  -- of what the directory reads, but for the new log, a loss leaves no mere beginning
  abbrev ReadsUncut : Files → Type 0
  ReadsUncut lost = (q : List ℕ) → IsReadIn source.facts.files d q ⊎ IsLogIn d q → q ≢ log → IsKept source.facts q ⊎ IsUncut source.facts.files lost q

  good : IsConsistent order source.facts.files d
  good = subst (λ (fs : Files). IsConsistent order fs d) same serving.log.directory.consistent

  there_still : (q : List ℕ) → IsReadIn source.facts.files d q ⊎ IsLogIn d q → q ≢ log → LosesOnly source.facts new (λ lost. ReadsUncut lost → get lost q ≡ get source.facts.files q)
  there_still q read apart lost since uncut =
      other_left source.facts new mine writes q (reads_none order source db m serving same new mine writes spares q read)
      (begun.others q (λ is. apart (is ∙ serving.log.named))) lost since (uncut q read apart)

  table_apart : (content : TableContent) → InTables d.tables content → (name_of (Table content.placed.table.number) ≢ log) × (name_of (OldTable content.placed.table.number) ≢ log)
  table_apart content among =
      let n = content.placed.table.number in
      let numbered = table_of order source.facts.files d.tables content good.tables among in
      let last = serving.synced.names.last.0 in
      (files_apart (Table n) (Log db.log.number) numbered last (λ e. cc), files_apart (OldTable n) (Log db.log.number) numbered last (λ e. cc))

  module _ (lost : Files) (still : (q : List ℕ) → IsReadIn source.facts.files d q ⊎ IsLogIn d q → q ≢ log → get lost q ≡ get source.facts.files q) where
    left_whole : AreLeft source.facts d lost
    left_whole = record {
      current = serving.synced.synced.current;
      manifest = subst (λ (n : ℕ). IsKept source.facts (name_of (Manifest n))) serving.log.knows.number serving.synced.synced.manifest;
      tables = λ content among.
          let n = content.placed.table.number in
          let apart = table_apart content among in (
            inr (λ bytes there. inr (still (name_of (Table n)) (inl (inr (inr (content, among, inl refl)))) apart.0 ∙ there)),
            λ none. inr (λ bytes there. inr (still (name_of (OldTable n)) (inl (inr (inr (content, among, inr (refl, none))))) apart.1 ∙ there)),
          );
    }

    module _ (cut : IsLeftCut order source.facts d lost) where
      abbrev before : List LogContent
      before = serving.log.directory.ends.before

      abbrev last : LogContent
      last = serving.log.directory.ends.last

      logs_are : d.logs ≡ before ++ last ∷ []
      logs_are = serving.log.directory.ends.logs

      has : HasLogs source.facts.files (before ++ last ∷ [])
      has = subst (HasLogs source.facts.files) logs_are good.logs

      -- nothing has been put after the new log
      last_empty : last.batches ≡ []
      last_empty =
          let ends = serving.log.directory.ends in
          let none : ends.bytes ≡ [] = nil_from_length ends.bytes (ends.length ∙ empty) in
          let there : get source.facts.files (name_of (Log last.number)) ≡ Some [] =
          ap (λ (n : ℕ). get source.facts.files (name_of (Log n))) ends.number ∙ ap (λ (fs : Files). get fs log) (sym same) ∙ ends.there ∙ ap Some none in
          no_batches_in source.facts.files last (last_log source.facts.files before last has) there

      log_still : (n : ℕ) → InLogs before n → get lost (name_of (Log n)) ≡ get source.facts.files (name_of (Log n))
      log_still n i =
          let all : InLogs d.logs n = subst (λ (ls : List LogContent). InLogs ls n) (sym logs_are) (in_first n before (last ∷ []) i) in
          let numbered = numbered_in source.facts.files d.logs n good.logs all in
          let less = in_front_of_last 0 d.logs before (last ∷ []) before last n good.rising logs_are logs_are (omega arith) i in
          let number = serving.log.directory.ends.number in
          still (name_of (Log n)) (inr (n, numbered, live_of d.layout d.logs n good.live all, refl))
          (files_apart (Log n) (Log db.log.number) numbered serving.synced.names.last.0 (λ e. (let is : n ≡ db.log.number = cc in absurd (omega (arith, less, is, number)))))

      cuts : LeftFront source.facts lost before (last ∷ []) cut.0
      cuts = left_front source.facts lost 0 before (last ∷ []) cut.0 (subst (λ (ls : List LogContent). AreCut source.facts ls cut.0) logs_are cut.1) has cut.2.logs (subst (NumbersRise 0) logs_are good.rising) (λ n i present.
          let there = log_there source.facts.files (before ++ last ∷ []) n has i in
          let live = live_of d.layout d.logs n good.live (subst (λ (ls : List LogContent). InLogs ls n) (sym logs_are) i) in
          cut.2.all n there.0 live present) (each_left source.facts lost before log_still)

      same_batches : batches_in cut.0 ≡ batches_in d.logs
      same_batches =
          let gone = front_cuts source.facts (last ∷ []) cuts.behind tt cuts.cut in
          let nothing : batches_in (last ∷ []) ≡ [] = append-nil last.batches ∙ last_empty in
          let none : batches_in cuts.behind ≡ [] = front_none (batches_in cuts.behind) gone.0 (sym gone.1 ∙ nothing) in
          cuts.batches ∙ ap (λ (bs : List Batch). batches_in before ++ bs) (none ∙ sym nothing) ∙ sym (batches-append before (last ∷ [])) ∙ ap batches_in (sym logs_are)

      same_logged : logged cut.0 ≡ logged d.logs
      same_logged = logged_in_batches cut.0 ∙ ap batch_entries same_batches ∙ sym (logged_in_batches d.logs)

      left_means : MeansCurrent order lost m
      left_means = record {
        entries = entries_of serving.contents db;
        spelled = inr (
          record d { logs = cut.0 },
          cut.2,
          (λ i. tabled (serving.log.directory.in_tables i) ++ serving.log.directory.in_logs i) ∙ ap (λ (es : List Entry). tabled d.tables ++ es) (sym same_logged),
          serving.entries.used ∙ serving.log.directory.spent ∙ ap (λ (es : List Entry). max d.layout.last_sequence (greatest es)) (sym same_logged),
        );
        view = subst (λ (used : ℕ). IsView (entries_of serving.contents db) used (current m)) (sym serving.entries.used) serving.entries.view;
        accounted = serving.accounted;
      }

  pub opened_left : LosesOnly source.facts new (λ lost. ReadsUncut lost → MeansAccepted order lost m)
  opened_left lost since uncut =
      let still : (q : List ℕ) → IsReadIn source.facts.files d q ⊎ IsLogIn d q → q ≢ log → get lost q ≡ get source.facts.files q = λ q read apart. there_still q read apart lost since uncut in
      let cut = loses_writing free_change left_by_loss cut_directory order source.facts new d mine writes (reads_none order source db m serving same new mine writes spares) good (spared order source db m serving) lost since (left_whole lost still) in
      current_means order lost m serving.certain (left_means lost still cut)

  -- the open has written none of that but what is synced, and after that more was synced
  module _ (old mid : Facts) (mid_log : CurrentLog) (begins : BeginsSynced old mid mid_log db.directory) (number : db.log.number ≡ mid_log.number) (files : source.facts.files ≡ mid.files) (syncs : (q : List ℕ) → LeavesOrSyncs mid source.facts q)
      (lost : Files) (uncut : LeavesUncut old lost) where
    abbrev IsWholeAt : List ℕ → Type 0
    IsWholeAt q = IsKept source.facts q ⊎ IsUncut source.facts.files lost q

    whole_at : (q : List ℕ) → LeavesFile old mid q → IsWholeAt q
    whole_at q left = elim (uncut_on old mid lost q left (uncut q)) [
      | inl kept ↦ inl (left_kept mid source.facts q (ap (λ (fs : Files). get fs q) files) (syncs q) kept)
      | inr whole ↦ inr (subst (λ (fs : Files). IsUncut fs lost q) (sym files) whole)
    ]

    log_beside : (n : ℕ) → IsNumbered n → n < db.directory.manifest.number → IsBeside db.directory.manifest.number (name_of (Log n))
    log_beside n numbered less =
        let names = serving.synced.names in
        let k = db.directory.manifest.number in
        let above = names.begun in
        let most = names.last.0.1 in
        let next : IsNumbered (k + 1) = (omega arith, omega (arith, above, most)) in
        record {
          current = files_apart (Log n) Current numbered tt (λ e. cc);
          manifest = files_apart (Log n) (Manifest k) numbered names.manifest.0 (λ e. cc);
          log = files_apart (Log n) (Log (k + 1)) numbered next (λ e. (let is : n ≡ k + 1 = cc in absurd (omega (arith, less, is))));
          temporary = files_apart (Log n) (Temporary k) numbered names.manifest.0 (λ e. cc);
        }

    log_uncut : (n : ℕ) → IsNumbered n → name_of (Log n) ≢ log → IsWholeAt (name_of (Log n))
    log_uncut n numbered apart = at (contains_key source.facts.files (name_of (Log n))) refl
      where
        at : (b : Bool) → contains_key source.facts.files (name_of (Log n)) ≡ b → IsWholeAt (name_of (Log n))
        at true is =
            let less = begins.begun n numbered (λ e. apart (ap (λ (k : ℕ). name_of (Log k)) (e ∙ sym number))) (ap (λ (fs : Files). contains_key fs (name_of (Log n))) (sym files) ∙ is) in
            whole_at (name_of (Log n)) (begins.beside (name_of (Log n)) (log_beside n numbered less))
        at false is = inr (λ bytes held there left front. absurd (let bad : true ≡ false = sym (ap is_some there) ∙ is in cc))

    table_uncut : (content : TableContent) → InTables d.tables content → IsWholeAt (name_of (Table content.placed.table.number)) × IsWholeAt (name_of (OldTable content.placed.table.number))
    table_uncut content among =
        let n = content.placed.table.number in
        let left = begins.tables n (table_of order source.facts.files d.tables content good.tables among) in
        (whole_at (name_of (Table n)) left.0, whole_at (name_of (OldTable n)) left.1)

    pub opened_uncut : ReadsUncut lost
    opened_uncut q (inl (inl is)) apart = inl (subst (IsKept source.facts) (sym is) serving.synced.synced.current)
    opened_uncut q (inl (inr (inl is))) apart = inl (subst (IsKept source.facts) (sym is) (subst (λ (n : ℕ). IsKept source.facts (name_of (Manifest n))) serving.log.knows.number serving.synced.synced.manifest))
    opened_uncut q (inl (inr (inr (content, among, inl is)))) apart = subst IsWholeAt (sym is) (table_uncut content among).0
    opened_uncut q (inl (inr (inr (content, among, inr older)))) apart = subst IsWholeAt (sym older.0) (table_uncut content among).1
    opened_uncut q (inr (n, numbered, live, is)) apart = subst IsWholeAt (sym is) (log_uncut n numbered (λ e. apart (is ∙ e)))

-- ---- the whole of it

-- after syncs of some files the calls since the last one spare as much
pub begun_kept : (done : List (List ℕ)) (mid kept : Facts) (log : List ℕ) → BeginsSpared mid log → SyncsEach done mid kept → BeginsSpared kept log
begun_kept done mid kept log begun syncs = elim (synced_or_idle done mid kept syncs) [
  | inl idle ↦
      let there : (q : List ℕ) → contains_key kept.files q ≡ contains_key mid.files q = λ q. ap (λ (disk : Disk). contains_key disk.files q) idle.1 in
      record {
        others = λ q apart. stays_same mid kept q idle.0 (there q) (begun.others q apart);
        begun = begins_same mid kept log idle.0 (there log) (ap (λ (disk : Disk). disk.synced log) idle.1) begun.begun;
      }
  | inr ends ↦ record { others = λ q apart. stays_behind kept q ends; begun = begins_behind kept log ends }
]

-- the removal of files after it, with syncs before that
pub opened_loses : {K : Type 0} {g : _} (order : Order) (old : Facts) (mid kept new : Seen) (db cleared : OpenDb K g) (mode : Mode) → (IsTrue new.facts.faithful → IsTrue kept.facts.faithful) → (IsTrue kept.facts.faithful → IsTrue mid.facts.faithful)
    → ((ids : Ids) → Leads old kept.facts (Rests order old ids) (StandsOpen order kept ids cleared) (λ m n. Opens m mode Done n)) → (IsTrue kept.facts.faithful → (m : Machine) → MeansAccepted order old.files m → HaveNamesStayed old → LosesMeaning order old kept.facts m)
    → (IsTrue mid.facts.faithful → BeginsSynced old mid.facts db.log db.directory) → (IsTrue kept.facts.faithful → BeginsSpared kept.facts (string_bytes cleared.log.name)) → (IsTrue kept.facts.faithful → kept.facts.files ≡ mid.facts.files) → (IsTrue kept.facts.faithful → (q : List ℕ) → LeavesOrSyncs mid.facts kept.facts q)
    → cleared.log.number ≡ db.log.number → cleared.directory ≡ db.directory → cleared.log.end ≡ 0 → cleared.broken ≡ false
    → (IsTrue new.facts.faithful → WritesOnly kept.facts new.facts (IsDead (IsLiveIn kept.facts.files cleared)))
    → IsTrue new.facts.faithful → (ids : Ids) (m : Machine) → m.damaged ≡ false → Rests order old ids m → HaveNamesStayed old → LosesMeaning order old new.facts m
opened_loses order old mid kept new db cleared mode back further step first begins begun files syncs number directory empty whole only f ids m undamaged r stays =
    let still = back f in
    let one = (step ids).moved still m r in
    let n = one.0 in
    let serving = serving_whole order kept ids cleared n (record { stands = one.2; undamaged = opens_flag m n mode Done one.1 ∙ undamaged }) whole in
    let writes = only f in
    let spares = spares_dead kept.facts.files cleared.log cleared.directory cleared.tables (λ number. IsTableUsed cleared.tables cleared.job cleared.iterators number) serving.synced.names
    (λ p there. table_used cleared.tables cleared.job cleared.iterators p.table.number (p, there, refl)) in
    let mine : List ℕ → Type 0 = IsDead (IsLiveIn kept.facts.files cleared) in
    let left = opened_left order kept cleared n serving refl empty (begun still) new.facts mine writes spares in
    let began : BeginsSynced old mid.facts db.log cleared.directory = subst (λ (state : DirectoryState). BeginsSynced old mid.facts db.log state) (sym directory) (begins (further still)) in
    let P : Files → Type 0 = λ lost. LeavesUncut old lost → MeansAccepted order lost m in
    loses_both old kept.facts new.facts writes.leaves.more P writes.leaves.calls (first still m (means_whole order old.files m undamaged r.rest) stays)
    (λ lost since uncut. opened_back order lost m n mode r.opened one.1
    (left lost since (opened_uncut order kept cleared n serving refl empty (begun still) new.facts mine writes spares old mid.facts db.log began number (files still) (syncs still) lost uncut)))

-- after the lock
module _ (order : Order) (old mid : Facts) (m : Machine) (may : MayLock old.files mid.files) (synced : mid.synced ≡ old.synced) (noted : Idles old mid ⊎ Adds old mid LockFile) (stays : (name : List ℕ) → StaysNamed old name)
    (means : MeansAccepted order old.files m) where
  abbrev Meant : Files → Type 0
  Meant lost = LeavesUncut old lost → MeansAccepted order lost m

  pub locked_loses : (new : Facts) (P : Files → Type 0) → LeavesOnly mid new P → (HaveNamesStayed mid → LosesMeaning order mid new m) → LosesMeaning order old new m
  locked_loses new P goes h =
      loses_both old mid new goes.more Meant goes.calls (lock_loses order old mid m synced noted stays means)
      (loses_so mid new (λ lost. LeavesUncut mid lost → MeansAccepted order lost m) Meant (λ lost k uncut. k (lock_uncut old mid lost may synced uncut)) (h (lock_stayed old mid synced noted stays)))

  -- and a call after it that changes nothing
  pub unlocked_loses : (new last : Facts) (P : Files → Type 0) → LeavesOnly mid new P → (HaveNamesStayed mid → LosesMeaning order mid new m) → last.calls ≡ new.calls → last.files ≡ new.files → last.synced ≡ new.synced → LosesMeaning order old last m
  unlocked_loses new last P goes h calls files same =
      let first = (lock_writes old mid synced noted).leaves in
      loses_read old new last (first.more ++ goes.more) Meant (goes.calls ∙ ap (λ (cs : List Call). cs ++ goes.more) first.calls ∙ append_assoc old.calls first.more goes.more) calls files same (locked_loses new P goes h)

pub open_loses : (order : Order) (m : Machine) (old new : Facts) → LosesMeaning order old new m → LosesOnly old new (λ lost. LeavesUncut old lost → HoldsAccepted order lost m)
open_loses order m old new h =
    loses_so old new (λ lost. LeavesUncut old lost → MeansAccepted order lost m) (λ lost. LeavesUncut old lost → HoldsAccepted order lost m) (λ lost k uncut. held order lost m m.in_doubt (k uncut)) h
