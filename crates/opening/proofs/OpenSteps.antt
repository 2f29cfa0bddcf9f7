-- The writing of an open, step by step.
use Rattle.std.proofs.Common.{◌≡◌, ◌⊎◌, ℕ, ◌+◌, ◌<◌, max, true, List, [], ◌∷◌, ◌++◌, length, Some, is_some, Result, Ok, Err, IsTrue, inl, inr, refl, sym, ap, subst, ◌∙◌, arith}
use Rattle.std.specs.FinMap.{insert, contains_key}
use Rattle.coding.specs.declared.error.DbError.{DbError}
use Rattle.store.specs.Files.{Facts, Files}
use Rattle.store.specs.Stops.{KeepsBut, LeavesOnly, stopped_at}
use Rattle.store.proofs.Stopping.{leaves_both, leaves_so}
use Rattle.ikey.specs.Orders.{Order}
use Rattle.ikey.specs.declared.entry.Entry.{Entry}
use Rattle.edits.specs.Names.{name_of, IsNumbered}
use Rattle.edits.specs.declared.field.Field.{Field}
use Rattle.edits.specs.declared.layout.Layout.{Layout}
use Rattle.edits.specs.declared.names.FileName.TheVariants.{Current, Log, Manifest, Temporary}
use Rattle.recover.specs.internal.Changes as changes
use Rattle.recover.specs.internal.Changes.{ManifestEndsAt}
use Rattle.recover.specs.Entries.{greatest}
use Rattle.recover.specs.Logs.{IsLive}
use Rattle.recover.specs.Directory.{Directory, IsConsistent}
use Rattle.recover.specs.Tables.{TableContent}
use Rattle.recover.proofs.NamedFiles.{get_other}
use Rattle.recover.proofs.Adding.{current_apart, manifest_apart}
use Rattle.opening.specs.declared.finding.Found.{Found}
use Rattle.opening.specs.internal.Calls.{Writes, SetsCurrent, MakesCurrent}
use Rattle.opening.specs.internal.Directories.{IsDirectoryOf}
use Rattle.opening.specs.internal.Opening.{Finds, IsUsable, KeepsLogs, IsNewManifest, HasRewritten, IsContinued, IsReady, Rewrites}
use Rattle.opening.proofs.Reopening.{OpenLaws, Beside, Behind, files_apart, numbered_of, next_of, beside_manifest, beside_both, behind_current, around_behind, around_log, continued_beside, HasParts, HasNew, new_parts, continued_new, one_new, logs_below}
use Rattle.opening.proofs.StoreCalls.{Creates, MaySet, after, done_so, went}

-- ---- the new log

module _ (order : Order) (old mid : Files) (found : Found) (bytes : List ℕ) where
  unfoldable pub with_log : Files
  with_log = insert mid (name_of (Log (found.number + 1))) []

  live_new : OpenLaws → (w : IsNewManifest order found bytes) → HasNew order old mid found bytes w → Finds order old found → (e : Directory) → IsConsistent order mid e → IsLive e.layout (found.number + 1)
  live_new laws w has h e good =
      let same = (one_new order old mid found bytes laws.manifest w has e.manifest e.edits e.layout good.manifest).2 in
      let below = (logs_below order old mid found bytes w h).0 in
      inl (omega (arith, same.log_number, below))

  has_log : (w : IsNewManifest order found bytes) → IsUsable order found → HasNew order old mid found bytes w → HasNew order old with_log found bytes w
  unfolding HasNew with_log
  has_log w u has =
      let log = found.number + 1 in
      let m = has.manifest in
      record {
        manifest = record {
          numbered = m.numbered;
          current = get_other mid (name_of (Log log)) [] (name_of Current) (current_apart log (next_of found u)) ∙ m.current;
          bytes = m.bytes;
          there = get_other mid (name_of (Log log)) [] (name_of (Manifest found.number)) (manifest_apart found.number log m.numbered (next_of found u)) ∙ m.there;
          spelled = m.spelled;
        };
        clean = has.clean;
        length = has.length;
      }

  -- in the words of a directory that has it
  ends_still : (d : Directory) (w : IsNewManifest order found bytes) → HasNew order old with_log found bytes w → d.manifest ≡ found.number → d.edits ≡ w.edit ∷ [] → d.layout ≡ w.layout
      → ManifestEndsAt order with_log d.manifest (length bytes) d.edits d.layout
  unfolding HasNew
  ends_still d w has number edits layout =
      let N : ℕ → Type 0 = λ n. ManifestEndsAt order with_log n (length bytes) d.edits d.layout in
      let E : List (List Field) → Type 0 = λ es. ManifestEndsAt order with_log found.number (length bytes) es d.layout in
      let L : Layout → Type 0 = λ l. ManifestEndsAt order with_log found.number (length bytes) (w.edit ∷ []) l in
      subst N (sym number) (subst E (sym edits) (subst L (sym layout) has))

  log_rewritten : OpenLaws → (w : IsNewManifest order found bytes) → HasNew order old mid found bytes w → IsUsable order found → Behind found.number old mid → Finds order old found
      → (tables : List TableContent) (entries : List Entry) (used : ℕ) → IsDirectoryOf order old tables entries used → HasRewritten order with_log found (length bytes) tables entries used
  unfolding with_log Behind
  log_rewritten laws w has u behind h tables entries used of =
      let all = new_parts order old mid found bytes laws w has behind h tables entries used of in
      let d = all.0 in
      let above : (k : ℕ) → IsNumbered k → contains_key mid (name_of (Log k)) ≡ true → k < found.number + 1 = λ k num there.
      (let below : k < found.number = h.number.0.listed (Log k) num (ap is_some (sym (behind (Log k) num (λ e. cc) (λ e. cc) (λ e. cc))) ∙ there) in omega (arith, below)) in
      let more = laws.log order mid d.0 (found.number + 1) d.1 (next_of found u) (live_new laws w has h d.0 d.1) above in
      record {
        log = record {
          directory = changes.with_log d.0 (found.number + 1);
          consistent = more.0;
          ends = more.1;
          in_tables = d.2;
          in_logs = d.3 ∙ sym more.2;
          spent = d.4 ∙ ap (λ (es : List Entry). max d.0.layout.last_sequence (greatest es)) (sym more.2);
        };
        before = d.0.logs;
        logs = refl;
        in_front = d.3;
        number = all.1;
        manifest = ends_still d.0 w (has_log w u has) all.1 all.2 all.3;
        live = subst (λ (l : Layout). KeepsLogs found l.log_number l.previous_log_number) (sym all.3) w.logs;
        forward = (let below = (logs_below order old mid found bytes w h).0 in let same : d.0.layout.log_number ≡ w.layout.log_number = ap (λ (l : Layout). l.log_number) all.3 in omega (arith, below, same));
      }

  current_there : (w : IsNewManifest order found bytes) → HasNew order old mid found bytes w → contains_key mid (name_of Current) ≡ true
  unfolding HasNew
  current_there w has = ap is_some has.manifest.current

  pub log_continued : OpenLaws → (w : IsNewManifest order found bytes) → HasNew order old mid found bytes w → IsUsable order found → Behind found.number old mid → Finds order old found
      → IsContinued order old with_log × IsReady order old with_log found (length bytes)
  unfolding HasNew with_log
  log_continued laws w has u behind h =
      let ends = log_rewritten laws w has u behind h in
      let new = insert mid (name_of (Log (found.number + 1))) [] in
      let there : contains_key new (name_of Current) ≡ true = ap is_some (has_log w u has).manifest.current in
      let parts : (tables : List TableContent) (entries : List Entry) (used : ℕ) → IsDirectoryOf order old tables entries used → HasParts order new tables entries used = λ tables entries used of.
      (let a = (ends tables entries used of).log in (a.directory, a.consistent, a.in_tables, a.in_logs, a.spent)) in
      let continued = continued_new order old new found bytes laws w (has_log w u has) u h (around_log found.number old mid (next_of found u) behind) there parts in
      (continued, record { made = there; ends = ends; free = continued.free found.number h.number.0 })

-- ---- the steps

module _ (order : Order) (laws : OpenLaws) (old : Facts) (found : Found) (u : IsUsable order found) (manifest : List ℕ) (w : IsNewManifest order found manifest) where
  beside_written : (mid : Facts) (r : Result (Unit {0}) DbError) → Writes old mid (name_of (Manifest found.number)) manifest r → IsTrue mid.faithful → Beside found.number old.files mid.files
  beside_written mid r written f = beside_manifest found.number old.files mid.files (numbered_of found u) (written.others f)

  pub manifest_failed : (new : Facts) (e : DbError) → Writes old new (name_of (Manifest found.number)) manifest (Err e) → Rewrites {T = Unit {0}} order old new found (length manifest) (Err e)
  manifest_failed new e written = record {
    call = written.call;
    continued = λ f h. continued_beside order old.files new.files found laws.free h (beside_written new (Err e) written f);
    ok = λ f. tt;
  }

  -- once `CURRENT` is set, it names the new MANIFEST
  has_new : (mid new : Facts) (current : List ℕ) → Writes old mid (name_of (Manifest found.number)) manifest (Ok tt) → current ≡ name_of (Manifest found.number) ++ 10 ∷ []
      → IsTrue mid.faithful → SetsCurrent mid.files new.files (name_of (Temporary found.number)) current → HasNew order old.files new.files found manifest w
  unfolding HasNew
  has_new mid new current written is f set =
      let num = numbered_of found u in
      record {
        manifest = record {
          numbered = num;
          current = set.0 ∙ ap Some is;
          bytes = manifest;
          there = set.1 (name_of (Manifest found.number)) (files_apart (Manifest found.number) (Temporary found.number) num num (λ e. cc)) (files_apart (Manifest found.number) Current num tt (λ e. cc)) ∙ written.ok f;
          spelled = w.spelled;
        };
        clean = w.clean;
        length = refl;
      }

  behind_set : (mid new : Facts) (current : List ℕ) (r : Result (Unit {0}) DbError) → Writes old mid (name_of (Manifest found.number)) manifest r → IsTrue mid.faithful → SetsCurrent mid.files new.files (name_of (Temporary found.number)) current → Behind found.number old.files new.files
  behind_set mid new current r written f set = behind_current found.number old.files mid.files new.files current (numbered_of found u) (beside_written mid r written f) set

  current_continued : (new : Facts) → HasNew order old.files new.files found manifest w → Behind found.number old.files new.files → Finds order old.files found → IsContinued order old.files new.files
  current_continued new has behind h =
      continued_new order old.files new.files found manifest laws w has u h (around_behind found.number old.files new.files behind) (current_there order old.files new.files found manifest w has)
      (λ tables entries used of. (new_parts order old.files new.files found manifest laws w has behind h tables entries used of).0)

  pub current_failed : (mid new : Facts) (current : List ℕ) (e : DbError) → Writes old mid (name_of (Manifest found.number)) manifest (Ok tt) → current ≡ name_of (Manifest found.number) ++ 10 ∷ []
      → MakesCurrent mid new (name_of (Temporary found.number)) current (Err e) → Rewrites {T = Unit {0}} order old new found (length manifest) (Err e)
  current_failed mid new current e written is made = record {
    call = after old mid new done_so (Err e) went written.call made.call;
    continued = λ f h.
        let m = made.call.faithful f in
        elim (made.err f) [
          | inl others ↦ continued_beside order old.files new.files found laws.free h (beside_both found.number old.files mid.files new.files (numbered_of found u) (beside_written mid (Ok tt) written m) others)
          | inr set ↦ current_continued new (has_new mid new current written is m set) (behind_set mid new current (Ok tt) written m set) h
        ];
    ok = λ f. tt;
  }

  logged_continued : (mid most : Facts) (current : List ℕ) → Writes old mid (name_of (Manifest found.number)) manifest (Ok tt) → current ≡ name_of (Manifest found.number) ++ 10 ∷ []
      → IsTrue mid.faithful → SetsCurrent mid.files most.files (name_of (Temporary found.number)) current → Finds order old.files found
      → IsContinued order old.files (insert most.files (name_of (Log (found.number + 1))) []) × IsReady order old.files (insert most.files (name_of (Log (found.number + 1))) []) found (length manifest)
  unfolding with_log
  logged_continued mid most current written is l set h =
      log_continued order old.files most.files found manifest laws w (has_new mid most current written is l set) u (behind_set mid most current (Ok tt) written l set) h

  pub log_created : (mid most new : Facts) (current : List ℕ) (r : Result (Unit {0}) DbError) → Writes old mid (name_of (Manifest found.number)) manifest (Ok tt) → current ≡ name_of (Manifest found.number) ++ 10 ∷ []
      → MakesCurrent mid most (name_of (Temporary found.number)) current (Ok tt) → Creates most new (name_of (Log (found.number + 1))) r → Rewrites order old new found (length manifest) r
  log_created mid most new current (Ok x) written is made created = record {
    call = after old most new done_so (Ok x) went (after old mid most done_so done_so went written.call made.call) created.call;
    continued = λ f h.
        let m = created.call.faithful f in
        let l = made.call.faithful m in
        let P : Files → Type 0 = λ fs. IsContinued order old.files fs in
        subst P (sym (created.ok f)) (logged_continued mid most current written is l (made.ok m) h).0;
    ok = λ f h.
        let m = created.call.faithful f in
        let l = made.call.faithful m in
        let P : Files → Type 0 = λ fs. IsReady order old.files fs found (length manifest) in
        subst P (sym (created.ok f)) (logged_continued mid most current written is l (made.ok m) h).1;
  }
  log_created mid most new current (Err e) written is made created = record {
    call = after old most new done_so (Err e) went (after old mid most done_so done_so went written.call made.call) created.call;
    continued = λ f h.
        let m = created.call.faithful f in
        let l = made.call.faithful m in
        let set = made.ok m in
        let P : Files → Type 0 = λ fs. IsContinued order old.files fs in
        elim (created.err f) [
          | inl same ↦ subst P (sym same) (current_continued most (has_new mid most current written is l set) (behind_set mid most current (Ok tt) written l set) h)
          | inr done ↦ subst P (sym done) (logged_continued mid most current written is l set h).0
        ];
    ok = λ f. tt;
  }

  -- ---- a process crash in the middle

  module _ (h : Finds order old.files found) where
    -- of the files alone
    pub manifest_left : (files : Files) → KeepsBut old.files (λ (q : List ℕ). q ≡ name_of (Manifest found.number)) files → IsContinued order old.files files
    manifest_left files others = continued_beside order old.files files found laws.free h (beside_manifest found.number old.files files (numbered_of found u) others)

    pub current_left : (mid : Facts) (current : List ℕ) → Writes old mid (name_of (Manifest found.number)) manifest (Ok tt) → current ≡ name_of (Manifest found.number) ++ 10 ∷ [] → IsTrue mid.faithful
        → (files : Files) → MaySet mid.files (name_of (Temporary found.number)) current files → IsContinued order old.files files
    current_left mid current written is m files (inl others) =
        continued_beside order old.files files found laws.free h (beside_both found.number old.files mid.files files (numbered_of found u) (beside_written mid (Ok tt) written m) others)
    current_left mid current written is m files (inr done) =
        current_continued (stopped_at mid files) (has_new mid (stopped_at mid files) current written is m done) (behind_set mid (stopped_at mid files) current (Ok tt) written m done) h

    pub log_left : (mid : Facts) (current : List ℕ) → Writes old mid (name_of (Manifest found.number)) manifest (Ok tt) → current ≡ name_of (Manifest found.number) ++ 10 ∷ [] → IsTrue mid.faithful
        → (files : Files) → SetsCurrent mid.files files (name_of (Temporary found.number)) current → IsContinued order old.files (insert files (name_of (Log (found.number + 1))) [])
    log_left mid current written is m files set = (logged_continued mid (stopped_at mid files) current written is m set h).0

    pub manifest_stops : (mid : Facts) → LeavesOnly old mid (KeepsBut old.files (λ (q : List ℕ). q ≡ name_of (Manifest found.number))) → LeavesOnly old mid (IsContinued order old.files)
    manifest_stops mid k = leaves_so old mid (KeepsBut old.files (λ (q : List ℕ). q ≡ name_of (Manifest found.number))) (IsContinued order old.files) manifest_left k

    pub current_stops : (mid new : Facts) (current : List ℕ) → Writes old mid (name_of (Manifest found.number)) manifest (Ok tt) → current ≡ name_of (Manifest found.number) ++ 10 ∷ [] → IsTrue mid.faithful
        → LeavesOnly old mid (KeepsBut old.files (λ (q : List ℕ). q ≡ name_of (Manifest found.number))) → LeavesOnly mid new (MaySet mid.files (name_of (Temporary found.number)) current) → LeavesOnly old new (IsContinued order old.files)
    current_stops mid new current written is m k set =
        leaves_both old mid new (IsContinued order old.files) (manifest_stops mid k)
        (leaves_so mid new (MaySet mid.files (name_of (Temporary found.number)) current) (IsContinued order old.files) (current_left mid current written is m) set)

    pub log_stops : (mid most new : Facts) (current : List ℕ) → Writes old mid (name_of (Manifest found.number)) manifest (Ok tt) → current ≡ name_of (Manifest found.number) ++ 10 ∷ [] → IsTrue mid.faithful
        → SetsCurrent mid.files most.files (name_of (Temporary found.number)) current → LeavesOnly old most (IsContinued order old.files)
        → LeavesOnly most new (λ files. (files ≡ most.files) ⊎ (files ≡ insert most.files (name_of (Log (found.number + 1))) [])) → LeavesOnly old new (IsContinued order old.files)
    log_stops mid most new current written is m set k made =
        leaves_both old most new (IsContinued order old.files) k
        (leaves_so most new (λ files. (files ≡ most.files) ⊎ (files ≡ insert most.files (name_of (Log (found.number + 1))) [])) (IsContinued order old.files)
        (λ files left. elim left [
          | inl same ↦ subst (λ (fs : Files). IsContinued order old.files fs) (sym same) k.now
          | inr done ↦ subst (λ (fs : Files). IsContinued order old.files fs) (sym done) (logged_continued mid most current written is m set h).0
        ]) made)
