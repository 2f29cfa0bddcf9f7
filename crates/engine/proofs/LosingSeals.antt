-- What a power loss leaves while a log is begun: it may be there, or not.
use Rattle.std.proofs.Common.{◌≡◌, ◌≢◌, ◌⊎◌, ◌<◌, ◌+◌, ◌++◌, ◌∷◌, ◌^◌, ℕ, true, List, [], None, inl, inr, refl, sym, ap, subst, ◌∙◌, arith}
use Rattle.std.specs.FinMap.{get, contains_key}
use Rattle.directory_writes.proofs.StoreCalls.{with_other}
use Rattle.directory_writes.specs.internal.Calls.{LeavesFile}
use Rattle.directory_writes.specs.internal.LogFile.{HasNewLog}
use Rattle.edits.specs.Names.{IsFileName, IsNumbered, name_of}
use Rattle.edits.specs.declared.names.FileName.{FileName}
use Rattle.edits.specs.declared.names.FileName.TheVariants.{Current, Lock, Log, Manifest, OldTable, Table}
use Rattle.edits.specs.declared.numbers.FileNumbers.{FileNumbers}
use Rattle.ikey.specs.Orders.{Order}
use Rattle.ikey.specs.declared.entry.Entry.{Entry}
use Rattle.machine.specs.Machine.{Machine}
use Rattle.opening.proofs.Cutting.{cut_directory}
use Rattle.opening.proofs.LosingEdits.{with_same}
use Rattle.opening.proofs.Reopening.{files_apart}
use Rattle.opening.proofs.Spared.{left_by_loss}
use Rattle.opening.specs.Losses.{AreSpared, IsLogRead, IsReadIn}
use Rattle.opening.specs.declared.directory.DirectoryState.{DirectoryState}
use Rattle.recover.proofs.Adding.{table_of}
use Rattle.recover.proofs.NamedFiles.{get_other}
use Rattle.recover.proofs.NewLogs.{log_there}
use Rattle.recover.specs.Directory.{Directory, IsConsistent}
use Rattle.recover.specs.Logs.{InLogs, LogContent}
use Rattle.recover.specs.Tables.{tabled}
use Rattle.recover.specs.internal.Changes.{empty_log, with_log}
use Rattle.store.specs.Calls.{Adds}
use Rattle.store.specs.Files.{Creation, Facts, Files}
use Rattle.store.specs.Losses.{CarriesBut, StaysNamed, StaysOrBegins}
use Rattle.store.proofs.LosingOn.{loses_noted}
use Rattle.table_access.specs.Tables.{Seen}
use Rattle.engine.proofs.Losing.{listed, read_live}
use Rattle.engine.proofs.LosingBegun.{loses_unsynced, unsynced}
use Rattle.engine.proofs.LosingCalls.{can_serving, found_by, found_read, reads_logs}
use Rattle.engine.proofs.LosingFirst.{CanLose, first_here, first_since, found_here}
use Rattle.engine.proofs.LosingPieces.{first_serving}
use Rattle.engine.proofs.RecentWrites.{recent_same, recent_sealed}
use Rattle.engine.proofs.StayedNames.{stayed_begun}
use Rattle.engine.proofs.Synced.{kept_still, table_still}
use Rattle.engine.specs.Losses.{HoldsFirst, LosesFirst, SparesFound}
use Rattle.engine.specs.OpenDb.{OpenDb}
use Rattle.engine.specs.Reopening.{KeepsFound}
use Rattle.engine.specs.internal.Recent.{AreRecent}
use Rattle.engine.specs.internal.Standing.{IsServing}
use Rattle.engine.specs.internal.Synced.{HaveStayed}

pub in_pushed : (logs : List LogContent) (log : LogContent) (n : ℕ) → InLogs (logs ++ log ∷ []) n → InLogs logs n ⊎ (n ≡ log.number)
in_pushed [] log n (inl is) = inr is
in_pushed [] log n (inr none) = absurd none
in_pushed (x ∷ logs) log n (inl is) = inl (inl is)
in_pushed (x ∷ logs) log n (inr i) = elim (in_pushed logs log n i) [ inl there ↦ inl (inr there) | inr is ↦ inr is ]

-- The log of the next number was created. What is synced of it isn't known, if the store failed:
-- less is left where nothing is.
module _ {K : Type 0} {g : _} (order : Order) (source : Seen) (db : OpenDb K g) (m : Machine) (serving : IsServing order source db m) (same : serving.ideal ≡ source.facts.files)
    (facts : Facts) (numbers : FileNumbers) (next_is : numbers.next ≡ db.directory.numbers.next + 1) (few : db.directory.numbers.next < 2 ^ 62)
    (adds : Adds source.facts facts (Creation (name_of (Log db.directory.numbers.next)))) (stays : (q : List ℕ) → q ≢ name_of (Log db.directory.numbers.next) → facts.synced q ≡ source.facts.synced q)
    (carries : CarriesBut source.facts facts (λ (q : List ℕ). q ≡ name_of (Log db.directory.numbers.next))) where
  abbrev old : Facts
  old = source.facts

  abbrev next : ℕ
  next = db.directory.numbers.next

  abbrev name : List ℕ
  name = name_of (Log next)

  abbrev new : Facts
  new = unsynced facts name

  abbrev d : Directory
  d = serving.log.directory.directory

  good : IsConsistent order old.files d
  good = subst (λ (fs : Files). IsConsistent order fs d) same serving.log.directory.consistent

  numbered_next : IsNumbered next
  numbered_next = (db.directory.numbers.in_range.0, omega (arith, few))

  left : (q : List ℕ) → q ≢ name → LeavesFile old new q
  left q apart = (ap (λ (fs : Files). get fs q) adds.1 ∙ get_other old.files name [] q apart, with_other facts.synced name q None apart ∙ stays q apart)

  beside : (file : FileName) → IsFileName file → file ≢ Log next → LeavesFile old new (name_of file)
  beside file is other = left (name_of file) (files_apart file (Log next) is numbered_next other)

  -- other numbers are below it
  log_apart : (n : ℕ) → IsNumbered n → n < next → name_of (Log n) ≢ name
  log_apart n num less = files_apart (Log n) (Log next) num numbered_next (λ e. (let same : n ≡ next = cc in omega (arith, same, less)))

  less_next : (n : ℕ) → IsNumbered n → contains_key old.files (name_of (Log n)) ≡ true → n < next
  less_next n num there = serving.log.knows.free.listed (Log n) num (ap (λ (fs : Files). contains_key fs (name_of (Log n))) same ∙ there)

  logs_apart : (n : ℕ) → InLogs d.logs n → name_of (Log n) ≢ name
  logs_apart n i = (let there = log_there old.files d.logs n good.logs i in log_apart n there.0 (less_next n there.0 there.1))

  -- ---- names

  carries_on : CarriesBut old new (λ (q : List ℕ). q ≡ name)
  carries_on = record { more = carries.more; calls = carries.calls; each = carries.each; now = carries.now; synced = λ q apart. inl (left q apart).1 }

  abbrev drawn : DirectoryState
  drawn = record db.directory { numbers = numbers }

  stayed : HaveStayed new drawn db.tables
  stayed =
      stayed_begun old new db.log db.directory numbers db.tables next_is few serving.synced.names carries_on (inr (adds.0, adds.1)) (with_same facts.synced name None) serving.synced.stayed

  stays_read : (q : List ℕ) → IsReadIn new.files d q → StaysNamed new q
  stays_read q (inl is) = subst (StaysNamed new) (sym is) stayed.current
  stays_read q (inr (inl is)) = subst (StaysNamed new) (sym is) (subst (λ (n : ℕ). StaysNamed new (name_of (Manifest n))) serving.log.knows.number stayed.manifest)
  stays_read q (inr (inr (content, among, inl is))) = subst (StaysNamed new) (sym is) (stayed.placed content.placed (listed order source db m serving content among)).0
  stays_read q (inr (inr (content, among, inr older))) = subst (StaysNamed new) (sym older.0) ((stayed.placed content.placed (listed order source db m serving content among)).1 older.1)

  spared_now : AreSpared new d
  spared_now = record { reads = stays_read; logs = λ q log. subst (StaysOrBegins new) (sym log.3) (stayed.logs log.0 log.1 (read_live order source db m serving log.0 log.2)) }

  -- ---- the directory with the log, and without it

  abbrev before : CanLose order old db d m
  before = can_serving order source db m serving same

  recent_still : AreRecent new db.directory.manifest.number before.contents before.entries d.logs m
  recent_still = recent_same old new db.directory.manifest.number before.contents before.entries d.logs m (λ n i. left (name_of (Log n)) (logs_apart n i)) before.recent

  recent_logged : AreRecent new db.directory.manifest.number before.contents before.entries (with_log d next).logs m
  recent_logged = recent_sealed new db.directory.manifest.number before.contents before.entries d.logs (empty_log next) m refl recent_still

  -- the next open reads the new log, too
  reads_more : (n : ℕ) → IsNumbered n → InLogs (with_log d next).logs n → IsLogRead db.directory n
  reads_more n num i = elim (in_pushed d.logs (empty_log next) n i) [
    | inl there ↦ reads_logs order source db m serving same n num there
    | inr is ↦ inl (let least = serving.synced.names.forward in let less = serving.synced.names.last.1 in omega (arith, least, less, is))
  ]

  can_still : IsConsistent order new.files d → CanLose order new db d m
  can_still now = record {
    files = new.files;
    consistent = now;
    logs = now.logs;
    current = kept_still old new (name_of Current) (beside Current tt (λ e. cc)) before.current;
    manifest = kept_still old new (name_of (Manifest d.manifest)) (beside (Manifest d.manifest) good.manifest.numbered (λ e. cc)) before.manifest;
    tables = λ content among from.
        let numbered = table_of order old.files d.tables content good.tables among in
        table_still old new content.placed.table.number (beside (Table content.placed.table.number) numbered (λ e. cc)) (beside (OldTable content.placed.table.number) numbered (λ e. cc)) (before.tables content among from);
    contents = before.contents;
    entries = before.entries;
    listed = before.listed;
    are = before.are;
    recent = recent_still;
    found = found_read new db before.contents before.entries d.logs m (reads_logs order source db m serving same) recent_still;
  }

  can_logged : HasNewLog order new.files d next → CanLose order new db (with_log d next) m
  can_logged has = record {
    files = new.files;
    consistent = has.consistent;
    logs = has.consistent.logs;
    current = kept_still old new (name_of Current) (beside Current tt (λ e. cc)) before.current;
    manifest = kept_still old new (name_of (Manifest d.manifest)) (beside (Manifest d.manifest) good.manifest.numbered (λ e. cc)) before.manifest;
    tables = λ content among from.
        let numbered = table_of order old.files d.tables content good.tables among in
        table_still old new content.placed.table.number (beside (Table content.placed.table.number) numbered (λ e. cc)) (beside (OldTable content.placed.table.number) numbered (λ e. cc)) (before.tables content among from);
    contents = before.contents;
    entries = before.entries;
    listed = before.listed;
    are = before.are ∙ ap (λ (es : List Entry). tabled before.contents ++ es) (sym has.entries);
    recent = recent_logged;
    found = found_read new db before.contents before.entries (with_log d next).logs m reads_more recent_logged;
  }

  abbrev drawn_db : OpenDb K g
  drawn_db = record db { directory = drawn }

  first_now : IsConsistent order new.files d ⊎ HasNewLog order new.files d next → LosesFirst order new new db m
  first_now (inl now) = first_here left_by_loss cut_directory order new db d m (can_still now) now spared_now (found_here new drawn_db db.tables stayed)
  first_now (inr has) =
      first_here left_by_loss cut_directory order new db (with_log d next) m (can_logged has) has.consistent (record { reads = spared_now.reads; logs = spared_now.logs }) (found_here new drawn_db db.tables stayed)

  -- ---- what the open found

  found_apart : (n : ℕ) → IsNumbered n → n < db.directory.manifest.number → name_of (Log n) ≢ name
  found_apart n num below = log_apart n num (let since = serving.synced.names.begun in let less = serving.synced.names.last.1 in omega (arith, below, since, less))

  as_it_was : (then : Facts) → ((q : List ℕ) → q ≢ name → LeavesFile old then q) → KeepsFound old then db
  as_it_was then same_files =
      found_by old then db (same_files (name_of Current) (files_apart Current (Log next) tt numbered_next (λ e. cc))).0 (same_files (name_of Lock) (files_apart Lock (Log next) tt numbered_next (λ e. cc))).0
      (λ n num below. (
        same_files (name_of (Table n)) (files_apart (Table n) (Log next) num numbered_next (λ e. cc)),
        same_files (name_of (OldTable n)) (files_apart (OldTable n) (Log next) num numbered_next (λ e. cc)),
        same_files (name_of (Log n)) (found_apart n num below),
      ))

  pub found_begun : KeepsFound old facts db
  found_begun = as_it_was facts (λ q apart. ((left q apart).0, stays q apart))

  -- at the moment before it, and at that after it
  pub first_begun : IsConsistent order facts.files d ⊎ HasNewLog order facts.files d next → LosesFirst order old facts db m
  first_begun now =
      let P : Files → Type 0 = λ lost. SparesFound old db lost → HoldsFirst order lost m in
      loses_noted old facts (Creation name) P (inr adds) (first_serving order source db m serving same)
      (loses_unsynced facts name P (first_since order old new new db m (as_it_was new left) (first_now now)))
