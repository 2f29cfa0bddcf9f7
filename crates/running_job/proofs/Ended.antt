-- A job that is ended.
use Rattle.std.proofs.Common.{◌≡◌, ◌≤◌, ◌^◌, ℕ, IfErr, OnOk, List, Err, Ok, Result, inl, map, refl, subst}
use Rattle.std.proofs.lemmas.List.{append-nil}
use Rattle.std.specs.List.{Contains}
use Rattle.coding.specs.declared.error.DbError.TheVariants.{Corrupt, Io, NumbersSpent, OutOfMemory, Unsupported}
use Rattle.compact.specs.Merging.{IsMerging}
use Rattle.edits.specs.declared.field.PlacedTable.{PlacedTable}
use Rattle.ikey.specs.declared.key_order.KeyOrder.{Ghosts}
use Rattle.ikey.specs.Entries.{InternalEntry, entry_of}
use Rattle.ikey.specs.Orders.{Order}
use Rattle.ikey.specs.Sources.{SameEntries}
use Rattle.running_job.specs.declared.open_job.OpenJob.{OpenJob}
use Rattle.running_job.specs.internal.Ending.{CanEnd, EndLeaves, EndMayLeave, EndMayPutOwn, RefusesEnd}
use Rattle.running_job.specs.Running.{HasMerged, deep_of}
use Rattle.recover.specs.Directory.{Directory}
use Rattle.recover.specs.Tables.{tabled}
use Rattle.db_cursor.specs.Whole.{Whole}
use Rattle.store.specs.Files.{Facts}
use Rattle.store.specs.Stops.{LeavesOnly}
use Rattle.store.proofs.Stopping.{leaves_same, leaves_so, others_same}
use Rattle.directory_writes.specs.declared.flush.FlushError.{FlushError}
use Rattle.directory_writes.specs.declared.flush.FlushError.TheVariants.{Before, Edit}
use Rattle.directory_writes.specs.declared.install.Installed.{Installed}
use Rattle.directory_writes.specs.declared.manifest.CurrentManifest.{CurrentManifest}
use Rattle.directory_writes.specs.internal.Install.{CanInstall, InstallLeaves, InstallMayLeave, InstallMayPutOwn, IsServed, RefusesInstall}
use Rattle.directory_writes.specs.internal.Putting.{WritesThenPuts}
use Rattle.directory_writes.proofs.Installs.{same_tables}

-- what is so, is so where it is done
pub on_ok : {T E : Type 0} (result : Result T E) (P : Type 0) → P → OnOk result P
on_ok (Ok done) P p = p
on_ok (Err e) P p = tt

-- where nothing is left, all came
pub has_merged : {K : Type 0} {g : Ghosts K} (order : Order) (facts : Facts) (next : ℕ) (work : OpenJob K g) → HasMerged order facts next work
has_merged order facts next work whole contents came is r = (
  subst (λ (entries : List InternalEntry). SameEntries (map entry_of entries) (tabled contents)) (append-nil came) r.entries,
  subst (λ (f : Facts). IsMerging order.cmp (deep_of order.cmp work) work.job.last.items work.job.selection work.job.outputs f next came) is r.merging,
)

module _ {K : Type 0} {g : Ghosts K} (order : Order) (work : OpenJob K g) (old : Facts) (next last_sequence : ℕ) (manifest : CurrentManifest) (tables : List PlacedTable) where
  -- a job that can be ended can be installed
  pub installable : next ≤ 2 ^ 62 → (whole : Whole) (d : Directory) (came : List InternalEntry) → whole.seen.facts ≡ old → (can : CanEnd order whole next last_sequence manifest tables d work came)
      → CanInstall order (deep_of order.cmp work) work.job old next last_sequence manifest tables came d can.running.inputs can.running.rest
  installable few whole d came is can =
      let r = can.running in
      record {
        served = subst (λ (facts : Facts). IsServed order facts.files next manifest tables d) is can.served;
        parted = r.planned.parted;
        planned = r.planned.planned;
        positive = r.planned.positive;
        replaceable = r.planned.replaceable;
        merging = subst (λ (facts : Facts). IsMerging order.cmp (deep_of order.cmp work) work.job.last.items work.job.selection work.job.outputs facts next came) is r.merging;
        all_came = subst (λ (entries : List InternalEntry). SameEntries (map entry_of entries) (tabled r.inputs)) (append-nil came) r.entries;
        unused = r.unused;
        few = few;
        used = can.used;
      }

  pub leaves_end : next ≤ 2 ^ 62 → (new : Facts) (result : Result (Installed K) FlushError) → InstallLeaves order work.job old new next last_sequence manifest tables result
      → EndLeaves order old new next last_sequence manifest tables work result
  leaves_end few new result leaves t whole d came is can = leaves t (deep_of order.cmp work) came d can.running.inputs can.running.rest (installable few whole d came is can)

  pub refuses_end : next ≤ 2 ^ 62 → (new : Facts) (result : Result (Installed K) FlushError) → InstallLeaves order work.job old new next last_sequence manifest tables result
      → IfErr result (λ e. RefusesInstall e order.cmp work.job old new next last_sequence tables) → IfErr result (λ e. RefusesEnd order old new next last_sequence manifest tables work e)
  refuses_end few new (Ok done) leaves why = tt
  refuses_end few new (Err Edit) leaves why = why
  refuses_end few new (Err (Before OutOfMemory)) leaves why = why
  refuses_end few new (Err (Before Io)) leaves why = why
  refuses_end few new (Err (Before (Corrupt file what))) leaves why = λ t whole d came is can.
      (leaves t (deep_of order.cmp work) came d can.running.inputs can.running.rest (installable few whole d came is can)).0 tt
  refuses_end few new (Err (Before (Unsupported what))) leaves why = λ t whole d came is can.
      why (deep_of order.cmp work) came (installable few whole d came is can).merging
  refuses_end few new (Err (Before NumbersSpent)) leaves why = absurd why
  refuses_end few new (Err (Before _)) leaves why = absurd why

  -- ---- a process crash in the middle

  pub end_unstopped : LeavesOnly old old (EndMayLeave order old next last_sequence manifest tables work)
  end_unstopped =
      leaves_same old old (EndMayLeave order old next last_sequence manifest tables work) refl refl
      (λ whole d came is can.
      let served = subst (λ (facts : Facts). IsServed order facts.files next manifest tables d) is can.served in
      record {
        either = inl (served.consistent, record { beside = record { logs = λ n num live. refl; tables = λ content i. refl }; ends = λ log position e. e });
        free = served.free;
      })

  pub end_stopped : next ≤ 2 ^ 62 → (new : Facts) → LeavesOnly old new (InstallMayLeave order work.job old next last_sequence manifest tables) → LeavesOnly old new (EndMayLeave order old next last_sequence manifest tables work)
  end_stopped few new h =
      leaves_so old new (InstallMayLeave order work.job old next last_sequence manifest tables) (EndMayLeave order old next last_sequence manifest tables work)
      (λ files left whole d came is can. left (deep_of order.cmp work) came d can.running.inputs can.running.rest (installable few whole d came is can)) h

  -- nothing is put in
  pub end_unstopped_own : LeavesOnly old old (EndMayPutOwn order old next last_sequence manifest tables work)
  end_unstopped_own =
      leaves_same old old (EndMayPutOwn order old next last_sequence manifest tables work) refl refl
      (λ whole d came is can e good placed there.
      let served = subst (λ (facts : Facts). IsServed order facts.files next manifest tables d) is can.served in
      inl (subst (λ (ps : List PlacedTable). Contains ps placed) (same_tables order old.files e d good served.consistent) there))

  pub end_stopped_own : next ≤ 2 ^ 62 → (new : Facts) → LeavesOnly old new (InstallMayPutOwn order work.job old next last_sequence manifest tables) → LeavesOnly old new (EndMayPutOwn order old next last_sequence manifest tables work)
  end_stopped_own few new h =
      leaves_so old new (InstallMayPutOwn order work.job old next last_sequence manifest tables) (EndMayPutOwn order old next last_sequence manifest tables work)
      (λ files left whole d came is can. left (deep_of order.cmp work) came d can.running.inputs can.running.rest (installable few whole d came is can)) h

-- nothing is written, and no edit put in
pub puts_none : (old : Facts) (mine : List ℕ → Type 0) (name : List ℕ) (is_kept : Facts → Type 0) → WritesThenPuts old old mine name is_kept
puts_none old mine name is_kept = record { mid = old; writes = others_same old old mine refl refl refl; puts = inl (refl, refl) }
