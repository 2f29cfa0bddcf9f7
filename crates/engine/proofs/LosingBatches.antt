-- What a power loss leaves in the middle of a write: a prefix of the batches, with that of the
-- write or without it.
use Rattle.std.proofs.Common.{◌≡◌, ◌≢◌, ◌⊎◌, ◌<◌, ◌+◌, ◌++◌, ◌∷◌, ℕ, false, List, [], length, map, take, Option, Some, None, Ok, inl, inr, refl, sym, ap, subst, ◌∙◌, arith, append-nil, append_assoc, string_bytes}
use Rattle.std.specs.FinMap.{get}
use Rattle.std.specs.List.{AllByRecursion}
use Rattle.batch.specs.declared.operation.Operation.{Operation}
use Rattle.edits.specs.Names.{name_of, IsNumbered}
use Rattle.edits.specs.declared.layout.Layout.{Layout}
use Rattle.edits.specs.declared.names.FileName.TheVariants.{Current, Lock, Log, Manifest, OldTable, Table}
use Rattle.ikey.specs.Orders.{Order}
use Rattle.ikey.specs.Views.{AllUpTo}
use Rattle.ikey.specs.declared.entry.Entry.{Entry}
use Rattle.machine.specs.Access.{accepted}
use Rattle.machine.specs.Machine.{Machine}
use Rattle.memtables.specs.Memories.{logged_in}
use Rattle.opening.specs.Durable.{IsSynced}
use Rattle.opening.specs.Losses.{AreSpared, IsKept, IsLogRead, logs_in_doubt}
use Rattle.opening.specs.internal.Directories.{CanAppend}
use Rattle.opening.proofs.Cutting.{cut_directory}
use Rattle.opening.proofs.LosingEdits.{spared_on}
use Rattle.opening.proofs.Reopening.{files_apart}
use Rattle.opening.proofs.Spared.{left_by_loss}
use Rattle.recover.proofs.Adding.{current_apart, logged-extended, logs_apart, manifest_apart, old_table_apart, table_apart, table_of}
use Rattle.recover.proofs.Keeping.{live_of}
use Rattle.recover.proofs.NamedFiles.{get_other}
use Rattle.recover.specs.Directory.{Directory, IsConsistent, used_in}
use Rattle.recover.specs.Entries.{entries_of}
use Rattle.recover.specs.Logs.{AreLive, HasLogs, InLogs, LogContent, NumbersRise, batch_entries, logged}
use Rattle.recover.specs.Tables.{TableContent, tabled}
use Rattle.recover.specs.internal.Changes.{IsExtended}
use Rattle.store.specs.Calls.{Adds, Idles}
use Rattle.store.specs.Files.{Addition, AppendsBeginning, Call, Disk, Facts, Files, Sync, Synced, disk_of, lock_name, with_synced}
use Rattle.store.specs.Losses.{CarriesBut, PutsSynced}
use Rattle.table_access.specs.Tables.{Seen}
use Rattle.store.proofs.Carrying.{carries_begun, carries_same, carries_synced}
use Rattle.store.proofs.LosingOn.{loses_appended, loses_noted, loses_same, puts_calls}
use Rattle.engine.proofs.FrontSyncing.{still_synced, sync_keeps, this_synced}
use Rattle.engine.proofs.Losing.{spared}
use Rattle.engine.proofs.LosingCalls.{can_serving, found_read}
use Rattle.engine.proofs.LosingFirst.{CanLose, first_accepted, first_here, first_since, first_then, found_here, found_then}
use Rattle.engine.proofs.Origins.{undamaged_serving}
use Rattle.engine.proofs.RecentBatches.{batch_entries-append}
use Rattle.engine.proofs.RecentBehind.{front_kept, live_read, recent_behind}
use Rattle.engine.proofs.RecentWrites.{left_kept, recent_kept, recent_torn}
use Rattle.engine.proofs.StayedNames.{stayed_all}
use Rattle.engine.proofs.Steps.{serving_of}
use Rattle.engine.proofs.Tabled.{directory_bounded}
use Rattle.engine.proofs.WriteSynced.{kept_each}
use Rattle.engine.specs.Losses.{HoldsFirst, LosesFirst, LosesOver, SparesFound}
use Rattle.engine.specs.OpenDb.{OpenDb}
use Rattle.engine.specs.Reopening.{KeepsFound, StaysOrGoes}
use Rattle.engine.specs.Stands.{StandsOver}
use Rattle.engine.specs.declared.ids.Ids.{Ids}
use Rattle.engine.specs.internal.Logs.{HasLastLog, LeavesOrSyncs, PutsBatch, SyncsEach, SyncsThenPuts}
use Rattle.engine.specs.internal.Recent.{AreRecent}
use Rattle.engine.specs.internal.Standing.{IsServing, StandsWhole}
use Rattle.engine.specs.internal.Synced.{AreSyncedBut, HaveNames, HaveStayed}

module _ {K : Type 0} {g : _} (order : Order) (db : OpenDb K g) (names : HaveNames db.log db.directory db.tables) where
  -- ---- at one moment

  -- The directory is there, and the calls since the last sync have spared what it reads.
  pub record CanLoseHere (then : Facts) (d : Directory) (m : Machine) : Type 0 where
    pub can : CanLose order then db d m
    pub good : IsConsistent order then.files d
    pub first_log : d.layout.log_number ≡ db.directory.first_log
    pub previous_log : d.layout.previous_log_number ≡ db.directory.previous_log
    pub spared : AreSpared then d
    pub stayed : HaveStayed then db.directory db.tables

  here_first : (then : Facts) (d : Directory) (m : Machine) → CanLoseHere then d m → LosesFirst order then then db m
  here_first then d m h = first_here left_by_loss cut_directory order then db d m h.can h.good h.spared (found_here then db db.tables h.stayed)

  logs_read : (layout : Layout) (logs : List LogContent) → layout.log_number ≡ db.directory.first_log → layout.previous_log_number ≡ db.directory.previous_log → AreLive layout logs → (n : ℕ) → IsNumbered n → InLogs logs n → IsLogRead db.directory n
  logs_read layout logs first previous live n numbered i = live_read layout db.directory n first previous (live_of layout logs n live i)

  -- ---- up to a later moment

  -- From old on each loss leaves a prefix of the machine's batches; the directory is there again,
  -- and what was synced whole still is.
  pub record Reaches (old then : Facts) (d : Directory) (m : Machine) : Type 0 where
    pub here : CanLoseHere then d m
    pub keeps : (q : List ℕ) → IsKept old q → IsKept then q
    pub found : KeepsFound old then db
    pub more : List Call
    pub calls : then.calls ≡ old.calls ++ more
    pub first : LosesFirst order old then db m

  -- ---- a call that leaves the files

  module _ (a b : Facts) (d : Directory) (m : Machine) (files : b.files ≡ a.files) (leaves : (q : List ℕ) → LeavesOrSyncs a b q) (carries : CarriesBut a b (λ (q : List ℕ). ⊥)) (h : CanLoseHere a d m) where
    same_file : (q : List ℕ) → get b.files q ≡ get a.files q
    same_file q = ap (λ (fs : Files). get fs q) files

    keeps_still : (q : List ℕ) → IsKept a q → IsKept b q
    keeps_still q = left_kept a b q (same_file q) (leaves q)

    stays_still : (q : List ℕ) → StaysOrGoes a b q
    stays_still q = inr (same_file q, keeps_still q)

    found_still : KeepsFound a b db
    found_still = record { current = same_file (name_of Current); lock = same_file lock_name; each = λ n num below. (stays_still (name_of (Table n)), stays_still (name_of (OldTable n)), stays_still (name_of (Log n))) }

    can_still : CanLoseHere b d m
    can_still =
        let c = h.can in
        let good : IsConsistent order b.files d = subst (λ (fs : Files). IsConsistent order fs d) (sym files) h.good in
        let recent : AreRecent b db.directory.manifest.number c.contents c.entries d.logs m =
        recent_kept a b db.directory.manifest.number c.contents c.entries d.logs m good.logs (λ n i. (same_file (name_of (Log n)), leaves (name_of (Log n)))) c.recent in
        record {
          can = record {
            files = b.files;
            consistent = good;
            logs = good.logs;
            current = keeps_still (name_of Current) c.current;
            manifest = keeps_still (name_of (Manifest d.manifest)) c.manifest;
            tables = λ content among from.
                let n = content.placed.table.number in
                let kept = c.tables content among from in
                (keeps_still (name_of (Table n)) kept.0, λ none. keeps_still (name_of (OldTable n)) (kept.1 (sym (same_file (name_of (Table n))) ∙ none)));
            contents = c.contents;
            entries = c.entries;
            listed = c.listed;
            are = c.are;
            recent = recent;
            found = found_read b db c.contents c.entries d.logs m (logs_read d.layout d.logs h.first_log h.previous_log good.live) recent;
          };
          good = good;
          first_log = h.first_log;
          previous_log = h.previous_log;
          spared = spared_on a b d carries h.spared;
          stayed = stayed_all a b db.log db.directory db.tables names carries h.stayed;
        }

  -- none was made
  reaches_idle : (a b : Facts) (d : Directory) (m : Machine) → Idles a b → CanLoseHere a d m → Reaches a b d m
  reaches_idle a b d m idle h =
      let files : b.files ≡ a.files = ap (λ (disk : Disk). disk.files) idle.1 in
      let synced : b.synced ≡ a.synced = ap (λ (disk : Disk). disk.synced) idle.1 in
      let leaves : (q : List ℕ) → LeavesOrSyncs a b q = λ q. inl (ap (λ (s : Synced). s q) synced) in
      let carries = carries_same a b (λ (q : List ℕ). ⊥) idle.0 files synced in
      record {
        here = can_still a b d m files leaves carries h;
        keeps = keeps_still a b d m files leaves carries h;
        found = found_still a b d m files leaves carries h;
        more = [];
        calls = idle.0 ∙ sym (append-nil a.calls);
        first = loses_same a b (λ lost. SparesFound a db lost → HoldsFirst order lost m) idle.0 files synced (here_first a d m h);
      }

  -- a file was synced
  reaches_synced : (a b : Facts) (name : List ℕ) (d : Directory) (m : Machine) → Adds a b (Sync name) → b.synced ≡ with_synced a.synced name (get a.files name) → CanLoseHere a d m → Reaches a b d m
  reaches_synced a b name d m adds synced h =
      let leaves : (q : List ℕ) → LeavesOrSyncs a b q = λ q. sync_keeps a a b name q synced adds.1 (inl refl) in
      let carries = carries_synced a b name (λ (q : List ℕ). ⊥) (Ok tt) adds tt adds.1 tt in
      let here = can_still a b d m adds.1 leaves carries h in
      let found = found_still a b d m adds.1 leaves carries h in
      record {
        here = here;
        keeps = keeps_still a b d m adds.1 leaves carries h;
        found = found;
        more = record { found = disk_of a; change = Sync name } ∷ [];
        calls = adds.0;
        first = loses_noted a b (Sync name) (λ lost. SparesFound a db lost → HoldsFirst order lost m) (inr adds) (here_first a d m h) (first_since order a b b db m found (here_first b d m here));
      }

  reaches_both : (a b c : Facts) (d e : Directory) (m : Machine) → Reaches a b d m → Reaches b c e m → Reaches a c e m
  reaches_both a b c d e m h k = record {
    here = k.here;
    keeps = λ q kept. k.keeps q (h.keeps q kept);
    found = found_then a b c db h.found k.found;
    more = h.more ++ k.more;
    calls = k.calls ∙ ap (λ (calls : List Call). calls ++ k.more) h.calls ∙ append_assoc a.calls h.more k.more;
    first = first_then order a b c k.more db m k.calls h.found h.first k.first;
  }

  reaches_each : (done : List (List ℕ)) (a b : Facts) (d : Directory) (m : Machine) → SyncsEach done a b → CanLoseHere a d m → Reaches a b d m
  reaches_each [] a b d m idle h = reaches_idle a b d m idle h
  reaches_each (name ∷ done) a b d m s h =
      let one = reaches_synced a s.0 name d m s.1 s.2 h in
      reaches_both a s.0 b d d m one (reaches_each done s.0 b d m s.3 one.here)

  -- ---- an append to the log

  last_named : string_bytes db.log.name ≡ name_of (Log db.log.number)
  last_named = names.last.2

  -- The file of another name is as it was.
  module _ (mid p : Facts) (bytes : List ℕ) (noted : Idles mid p ⊎ ((n : ℕ) × Adds mid p (Addition (string_bytes db.log.name) (take n bytes)))) (synced : p.synced ≡ mid.synced) where
    other_file : (q : List ℕ) → q ≢ name_of (Log db.log.number) → get p.files q ≡ get mid.files q
    other_file q apart = elim noted [
      | inl idle ↦ ap (λ (disk : Disk). get disk.files q) idle.1
      | inr some ↦ (let done = some.1.1 in ap (λ (fs : Files). get fs q) done.2 ∙ get_other mid.files (string_bytes db.log.name) (done.0 ++ take some.0 bytes) q (λ is. apart (is ∙ last_named)))
    ]

    same_synced : (q : List ℕ) → p.synced q ≡ mid.synced q
    same_synced q = ap (λ (s : Synced). s q) synced

    other_kept : (q : List ℕ) → q ≢ name_of (Log db.log.number) → IsKept mid q → IsKept p q
    other_kept q apart kept bytes there = same_synced q ∙ kept bytes (sym (other_file q apart) ∙ there)

    other_stays : (q : List ℕ) → q ≢ name_of (Log db.log.number) → StaysOrGoes mid p q
    other_stays q apart = inr (other_file q apart, other_kept q apart)

    -- which those of the open are
    found_beside : KeepsFound mid p db
    found_beside =
        let last = names.last.0 in
        record {
          current = other_file (name_of Current) (current_apart db.log.number last);
          lock = other_file lock_name (files_apart Lock (Log db.log.number) tt last (λ e. cc));
          each = λ n num below. (
            other_stays (name_of (Table n)) (table_apart n db.log.number num last),
            other_stays (name_of (OldTable n)) (old_table_apart n db.log.number num last),
            other_stays (name_of (Log n)) (logs_apart n db.log.number num last (λ is. (let since = names.begun in omega (arith, is, below, since)))),
          );
        }

    carried : CarriesBut mid p (λ (q : List ℕ). ⊥)
    carried = carries_begun mid p (string_bytes db.log.name) bytes (λ (q : List ℕ). ⊥) synced noted

    -- the directory with its last log as it is then, of a machine whose batches that has
    module _ (d : Directory) (m n : Machine) (h : CanLoseHere mid d m) (before : List LogContent) (next : LogContent) (entries : List Entry) (good : IsConsistent order p.files (record d { logs = before ++ next ∷ [] }))
        (are : entries ≡ tabled h.can.contents ++ logged (before ++ next ∷ [])) (recent : AreRecent p db.directory.manifest.number h.can.contents entries (before ++ next ∷ []) n) where
      abbrev e : Directory
      e = record d { logs = before ++ next ∷ [] }

      can_appended : CanLoseHere p e n
      can_appended =
          let c = h.can in
          let last = names.last.0 in
          let s = spared_on mid p d carried h.spared in
          record {
            can = record {
              files = p.files;
              consistent = good;
              logs = good.logs;
              current = other_kept (name_of Current) (current_apart db.log.number last) c.current;
              manifest = other_kept (name_of (Manifest d.manifest)) (manifest_apart d.manifest db.log.number h.good.manifest.numbered last) c.manifest;
              tables = λ content among from.
                  let k = content.placed.table.number in
                  let num = table_of order mid.files d.tables content h.good.tables among in
                  let newer = table_apart k db.log.number num last in
                  let kept = c.tables content among from in (
                    other_kept (name_of (Table k)) newer kept.0,
                    λ none. other_kept (name_of (OldTable k)) (old_table_apart k db.log.number num last) (kept.1 (sym (other_file (name_of (Table k)) newer) ∙ none)),
                  );
              contents = c.contents;
              entries = entries;
              listed = c.listed;
              are = are;
              recent = recent;
              found = found_read p db c.contents entries (before ++ next ∷ []) n (logs_read d.layout (before ++ next ∷ []) h.first_log h.previous_log good.live) recent;
            };
            good = good;
            first_log = h.first_log;
            previous_log = h.previous_log;
            spared = record { reads = s.reads; logs = s.logs };
            stayed = stayed_all mid p db.log db.directory db.tables names carried h.stayed;
          }

    -- ---- the batch is there, or it isn't

    -- With these batches at its end the directory is that of a machine whose first batches are of
    -- those that are accepted by then.
    pub record Appended (m : Machine) (operations : List Operation) : Type 0 where
      pub d : Directory
      pub n : Machine
      pub here : CanLoseHere p d n
      pub so : (lost : Files) → HoldsFirst order lost n → HoldsFirst order lost (accepted m operations false)

    module _ (d : Directory) (m : Machine) (operations : List Operation) (some : operations ≢ []) (h : CanLoseHere mid d m) (spent : used_in d ≡ m.used) (x : HasLastLog order p.files d db.log.number m.used operations)
        (front : (n : ℕ) → IsNumbered n → IsLogRead db.directory n → n < db.log.number → IsKept mid (name_of (Log n))) where
      abbrev after : Directory
      after = record d { logs = x.before ++ x.next ∷ [] }

      -- the logs in front are synced whole
      kept_here : (n : ℕ) → IsNumbered n → IsLogRead db.directory n → n < db.log.number → IsKept p (name_of (Log n))
      kept_here n num read below = other_kept (name_of (Log n)) (logs_apart n db.log.number num names.last.0 (λ is. omega (arith, is, below))) (front n num read below)

      all_kept : AllByRecursion (λ (log : LogContent). IsKept p (name_of (Log log.number))) x.before
      all_kept = front_kept p mid.files d.layout 0 x.before x.last (subst (NumbersRise 0) x.old h.good.rising) (subst (AreLive d.layout) x.old h.good.live) (subst (HasLogs mid.files) x.old h.good.logs)
          (λ n num live below. kept_here n num (live_read d.layout db.directory n h.first_log h.previous_log live) (let is = x.number.0 in omega (arith, below, is)))

      abbrev extended : (more : List Entry) → batch_entries x.next.batches ≡ batch_entries x.last.batches ++ more → IsExtended d after more
      extended more entries = record { before = x.before; last = x.last; next = x.next; old = x.old; new = refl; number = x.number.1 ∙ sym x.number.0; entries = entries }

      torn : x.next.batches ≡ x.last.batches → Appended m operations
      torn same =
          let c = h.can in
          let e = extended [] (ap batch_entries same ∙ sym (append-nil (batch_entries x.last.batches))) in
          let logged_same : logged after.logs ≡ logged d.logs = (logged-extended d after [] e).1 ∙ append-nil (logged d.logs) in
          let recent = recent_torn mid p db.directory.manifest.number c.contents c.entries x.before x.last x.next m (subst (λ (logs : List LogContent). AreRecent mid db.directory.manifest.number c.contents c.entries logs m) x.old c.recent)
          (x.number.1 ∙ sym x.number.0) same all_kept (same_synced (name_of (Log x.last.number))) in
          record {
            d = after;
            n = m;
            here = can_appended d m m h x.before x.next c.entries x.consistent (c.are ∙ ap (λ (es : List Entry). tabled c.contents ++ es) (sym logged_same)) recent;
            so = λ lost holds. first_accepted order lost m operations holds;
          }

      whole : (n : Machine) → n.base ≡ m.base → n.batches ≡ m.batches ++ operations ∷ [] → n.used ≡ m.used + length operations → n.synced ≡ m.synced → ((lost : Files) → HoldsFirst order lost n → HoldsFirst order lost (accepted m operations false))
          → x.next.batches ≡ x.last.batches ++ (m.used + 1, operations) ∷ [] → Appended m operations
      whole n base batches used reaches so written =
          let c = h.can in
          let more = entries_of (m.used + 1) operations in
          let one : batch_entries ((m.used + 1, operations) ∷ []) ≡ more = append-nil more in
          let e = extended more (ap batch_entries written ∙ batch_entries-append x.last.batches ((m.used + 1, operations) ∷ []) ∙ ap (λ (es : List Entry). batch_entries x.last.batches ++ es) one) in
          let bounded : AllUpTo m.used (tabled c.contents ++ logged d.logs) = directory_bounded order mid.files c.contents (logged d.logs) m.used (inr (d, h.good, c.listed, refl, sym spent)) in
          let before = subst (λ (es : List Entry). AreRecent mid db.directory.manifest.number c.contents es d.logs m) c.are c.recent in
          let recent = recent_behind false order mid p mid.files db.directory c.contents (logged d.logs) (logged after.logs) d after m.used m n operations e h.good h.first_log h.previous_log before (logged-extended d after more e).1 written
          (λ k num read below. kept_here k num read (let is = x.number.0 in omega (arith, below, is))) refl bounded base batches used reaches (same_synced (name_of (Log x.last.number))) in
          record { d = after; n = n; here = can_appended d m n h x.before x.next (tabled c.contents ++ logged after.logs) x.consistent refl recent; so = so }

      appended : Appended m operations
      appended = elim x.batches [
        | inl same ↦ torn same
        | inr written ↦ at operations some (λ n base batches used reaches so. whole n base batches used reaches so written)
      ]
        where
          at : (os : List Operation) → os ≢ [] → ((n : Machine) → n.base ≡ m.base → n.batches ≡ m.batches ++ os ∷ [] → n.used ≡ m.used + length os → n.synced ≡ m.synced → ((lost : Files) → HoldsFirst order lost n → HoldsFirst order lost (accepted m os false)) → Appended m os)
              → Appended m os
          at [] some make = absurd (some refl)
          at (operation ∷ os) some make = make (accepted m (operation ∷ os) false) refl refl refl refl (λ lost holds. holds)

  -- ---- the calls of a write

  -- what is so of fewer batches is so of these
  with_batch : (a b : Facts) (k m : Machine) (operations : List Operation) → ((lost : Files) → HoldsFirst order lost k → HoldsFirst order lost (accepted m operations false)) → LosesFirst order a b db k → LosesFirst order a b db (accepted m operations false)
  with_batch a b k m operations so h lost since spares = so lost (h lost since spares)

  -- before it, and where nothing is done
  pub unwritten_first : (then : Facts) (d : Directory) (m : Machine) (operations : List Operation) → CanLoseHere then d m → LosesFirst order then then db (accepted m operations false)
  unwritten_first then d m operations h = with_batch then then m m operations (λ lost holds. first_accepted order lost m operations holds) (here_first then d m h)

  -- after the logs in front: the append, and the sync
  puts_first : (mid new : Facts) (bytes : List ℕ) (d : Directory) (m : Machine) (operations : List Operation) → operations ≢ [] → CanLoseHere mid d m → used_in d ≡ m.used → (puts : PutsSynced mid new (string_bytes db.log.name) bytes)
      → ((files : Files) → AppendsBeginning mid.files files (string_bytes db.log.name) bytes → HasLastLog order files d db.log.number m.used operations)
      → ((n : ℕ) → IsNumbered n → IsLogRead db.directory n → n < db.log.number → IsKept mid (name_of (Log n))) → LosesFirst order mid new db (accepted m operations false) × KeepsFound mid new db
  puts_first mid new bytes d m operations some h spent puts adds front =
      let p = puts.mid in
      let name = string_bytes db.log.name in
      let n = accepted m operations false in
      let left : AppendsBeginning mid.files p.files name bytes = elim puts.noted [ inl idle ↦ inl (ap (λ (disk : Disk). disk.files) idle.1) | inr some ↦ inr (some.0, some.1.1) ] in
      let a = appended mid p bytes puts.noted puts.kept d m operations some h spent (adds p.files left) front in
      let found = found_beside mid p bytes puts.noted puts.kept in
      let behind : LosesFirst order p p db n = with_batch p p a.n m operations a.so (here_first p a.d a.n a.here) in
      let begun : LosesFirst order mid p db n = loses_appended mid p name bytes (λ lost. SparesFound mid db lost → HoldsFirst order lost n) puts.noted (unwritten_first mid d m operations h) (first_since order mid p p db n found behind) in
      let last : Reaches p new a.d a.n = elim puts.done [ inl idle ↦ reaches_idle p new a.d a.n idle a.here | inr done ↦ reaches_synced p new name a.d a.n done.0 done.1 a.here ] in
      (first_then order mid p new last.more db n last.calls found begun (with_batch p new a.n m operations a.so last.first), found_then mid p new db found last.found)

  -- the logs in front are synced by then, and the files are as they were
  each_files : (done : List (List ℕ)) (a b : Facts) → SyncsEach done a b → b.files ≡ a.files
  each_files [] a b idle = ap (λ (disk : Disk). disk.files) idle.1
  each_files (name ∷ done) a b s = each_files done s.0 b s.3 ∙ s.1.1

  each_still : (done : List (List ℕ)) (a b : Facts) (q : List ℕ) → SyncsEach done a b → IsSynced a q → IsSynced b q
  each_still [] a b q idle is = ap (λ (disk : Disk). disk.synced q) idle.1 ∙ is ∙ sym (ap (λ (disk : Disk). get disk.files q) idle.1)
  each_still (name ∷ done) a b q s is = each_still done s.0 b q s.3 (still_synced a s.0 name q s.2 s.1.1 is)

  each_synced : (done : List (List ℕ)) (a b : Facts) → SyncsEach done a b → AllByRecursion (IsSynced b) done
  each_synced [] a b idle = tt
  each_synced (name ∷ done) a b s = (each_still done s.0 b name s.3 (this_synced a s.0 name s.2 s.1.1), each_synced done s.0 b s.3)

  pub write_first : (old new : Facts) (tables : List TableContent) (entries : List Entry) (used : ℕ) (a : CanAppend order old.files db.log.number db.log.end tables entries used) (m : Machine) (operations : List Operation) → operations ≢ [] → used ≡ m.used
      → CanLoseHere old a.directory m → AreSyncedBut (logs_in_doubt db.log) old db.directory db.tables
      → SyncsThenPuts (map string_bytes db.log.front.items) old new (λ (mid : Facts). PutsBatch old mid new db.log.number (string_bytes db.log.name) db.log.end used operations)
      → LosesFirst order old new db (accepted m operations false) × KeepsFound old new db
  write_first old new tables entries used a m operations some is h synced puts =
      let d = a.directory in
      let mid = puts.mid in
      let n = accepted m operations false in
      let front = reaches_each puts.done old mid d m puts.synced h in
      elim puts.ends [
        | inl idle ↦
            let all = reaches_both old mid new d d m front (reaches_idle mid new d m idle front.here) in
            (with_batch old new m m operations (λ lost holds. first_accepted order lost m operations holds) all.first, all.found)
        | inr put ↦
            let more = puts_calls mid new (string_bytes db.log.name) put.1.bytes put.1.puts in
            let all = subst (AllByRecursion (IsSynced mid)) put.0 (each_synced puts.done old mid puts.synced) in
            let behind = puts_first mid new put.1.bytes d m operations some front.here (sym a.spent ∙ is) put.1.puts
            (λ files left. subst (λ (u : ℕ). HasLastLog order files d db.log.number u operations) is
            (put.1.adds order files (subst (λ (fs : Files). AppendsBeginning fs files (string_bytes db.log.name) put.1.bytes) (each_files puts.done old mid puts.synced) left) tables entries last_named a))
            (λ k num read below. kept_each mid (name_of (Log k)) (map string_bytes db.log.front.items) all (λ none.
            front.keeps (name_of (Log k)) (synced.others k num read ((λ same. logs_apart k db.log.number num names.last.0 (λ e. omega (arith, e, below)) (same ∙ last_named)), none)))) in
            (first_then order old mid new more.0 db n more.1 front.found (with_batch old mid m m operations (λ lost holds. first_accepted order lost m operations holds) front.first) behind.0, found_then old mid new db front.found behind.1)
      ]

-- ---- of an open database

pub here_serving : {K : Type 0} {g : _} (order : Order) (source : Seen) (db : OpenDb K g) (m : Machine) (serving : IsServing order source db m) → (same : serving.ideal ≡ source.facts.files)
    → CanLoseHere order db serving.synced.names source.facts serving.log.directory.directory m
here_serving order source db m serving same =
    let d = serving.log.directory.directory in
    record {
      can = can_serving order source db m serving same;
      good = subst (λ (fs : Files). IsConsistent order fs d) same serving.log.directory.consistent;
      first_log = serving.log.knows.first_log;
      previous_log = serving.log.knows.previous_log;
      spared = spared order source db m serving;
      stayed = serving.synced.stayed;
    }

-- what each way out of a write leaves
module _ {K : Type 0} {g : _} (order : Order) (source : Seen) (ids : Ids) (db : OpenDb K g) (m : Machine) (operations : List Operation) (whole : db.broken ≡ false) (w : StandsWhole order source ids db m) where
  abbrev serves : IsServing order source db m
  serves = undamaged_serving order source db m w.undamaged (serving_of order source ids db m whole w.stands)

  pub loses_unwritten : LosesFirst order source.facts source.facts db (accepted m operations false)
  loses_unwritten = unwritten_first order db serves.synced.names source.facts serves.log.directory.directory m operations (here_serving order source db m serves refl)

  pub loses_written : (new : Facts) → length operations ≢ 0 → SyncsThenPuts (map string_bytes db.log.front.items) source.facts new (λ (mid : Facts). PutsBatch source.facts mid new db.log.number (string_bytes db.log.name) db.log.end db.memory.last operations)
      → LosesFirst order source.facts new db (accepted m operations false) × KeepsFound source.facts new db
  loses_written new some puts =
      write_first order db serves.synced.names source.facts new serves.contents (logged_in db.memory) db.memory.last serves.log.directory m operations (λ is. some (ap length is)) (sym serves.entries.used) (here_serving order source db m serves refl)
      serves.synced.synced puts

-- the files that the open found are as they were
pub found_unwritten : {K : Type 0} {g : _} (facts : Facts) (db : OpenDb K g) → KeepsFound facts facts db
found_unwritten facts db = record { current = refl; lock = refl; each = λ n num below. (inr (refl, λ kept. kept), inr (refl, λ kept. kept), inr (refl, λ kept. kept)) }

-- in a session, whatever its state
pub any_unwritten : {K : Type 0} {g : _} (order : Order) (source : Seen) (ids : Ids) (o : Option (OpenDb K g)) (m : Machine) (operations : List Operation) → m.damaged ≡ false → StandsOver order source ids o m
    → LosesOver order source.facts source.facts o (accepted m operations false)
any_unwritten order source ids None m operations undamaged s = tt
any_unwritten order source ids (Some db) m operations undamaged s = λ whole. loses_unwritten order source ids db m operations whole (record { stands = s; undamaged = undamaged })
