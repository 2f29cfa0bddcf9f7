-- A job that is ended, in each directory that differs in tables alone.
use Rattle.std.proofs.Common.{◌≡◌, ◌<◌, ◌≤◌, ◌^◌, ℕ, List, Err, Result, inl, inr, refl, sym, subst, ◌∙◌, arith}
use Rattle.coding.specs.declared.error.DbError.TheVariants.{NumbersSpent}
use Rattle.compact.specs.Outputs.{AreNumbered, table_name}
use Rattle.edits.specs.declared.field.PlacedTable.{PlacedTable}
use Rattle.ikey.specs.declared.key_order.KeyOrder.{Ghosts}
use Rattle.ikey.specs.Entries.{InternalEntry}
use Rattle.ikey.specs.Orders.{Order}
use Rattle.running_job.specs.declared.open_job.OpenJob.{OpenJob}
use Rattle.running_job.specs.internal.Ending.{CanEndOver, EndLeavesOver, EndMayLeaveOver, EndPutsOwn}
use Rattle.running_job.specs.Running.{deep_of}
use Rattle.recover.specs.Directory.{Directory, IsConsistent}
use Rattle.recover.specs.Numbers.{IsFree}
use Rattle.recover.specs.Tables.{TableContent}
use Rattle.store.specs.Files.{Facts, Files}
use Rattle.store.specs.Stops.{LeavesOnly}
use Rattle.store.proofs.Stopping.{leaves_same, leaves_so}
use Rattle.directory_writes.proofs.JobsEach.{merging_each, merging_stayed}
use Rattle.directory_writes.proofs.SameChanges.{also, unchanged_too}
use Rattle.directory_writes.specs.Differing.{OfEach, with_files}
use Rattle.directory_writes.specs.declared.flush.FlushError.{FlushError}
use Rattle.directory_writes.specs.declared.flush.FlushError.TheVariants.{Before}
use Rattle.directory_writes.specs.declared.install.Installed.{Installed}
use Rattle.directory_writes.specs.declared.manifest.CurrentManifest.{CurrentManifest}
use Rattle.directory_writes.specs.internal.Each.{HasSameOutputs, HaveStayed}
use Rattle.directory_writes.specs.internal.Flush.{KeepsLogsAndTables}
use Rattle.directory_writes.specs.internal.Install.{CanInstall, InstallLeaves, InstallMayLeave, InstallPutsOwn, IsServed}

kept_itself : (files : Files) (d : Directory) → KeepsLogsAndTables files files d d
kept_itself files d = record { beside = record { logs = λ n num live. refl; tables = λ content i. refl }; ends = λ log position e. e }

module _ {K : Type 0} {g : Ghosts K} (order : Order) (work : OpenJob K g) (old : Facts) (next last_sequence : ℕ) (manifest : CurrentManifest) (tables : List PlacedTable) where
  -- such a job can be installed there
  installable_over : AreNumbered work.job.outputs next → next ≤ 2 ^ 62 → (ideal : Files) (d : Directory) (came : List InternalEntry) (inputs rest : List TableContent)
      → CanEndOver order old ideal next last_sequence manifest tables d work came inputs rest
      → CanInstall order (deep_of order.cmp work) work.job (with_files old ideal) next last_sequence manifest tables came d inputs rest
  installable_over numbered few ideal d came inputs rest can =
      let m = can.merged in
      record {
        served = can.served;
        parted = m.planned.parted;
        planned = m.planned.planned;
        positive = m.planned.positive;
        replaceable = m.planned.replaceable;
        merging = merging_each order.cmp (deep_of order.cmp work) work.job.last.items work.job.selection work.job.outputs old next came ideal numbered can.outputs m.merging;
        all_came = m.entries;
        unused = m.unused;
        few = few;
        used = can.used;
      }

  -- those that were ended have stayed under their names
  stayed : (ideal : Files) (d : Directory) (came : List InternalEntry) (inputs rest : List TableContent) → CanEndOver order old ideal next last_sequence manifest tables d work came inputs rest → HaveStayed work.job.outputs old
  stayed ideal d came inputs rest can = merging_stayed order.cmp (deep_of order.cmp work) work.job.last.items work.job.selection work.job.outputs old next came can.merged.merging

  abbrev pub EndsEach : Facts → Result (Installed K) FlushError → Type 0
  EndsEach new result = OfEach (λ ideal after. EndLeavesOver order old new ideal after next last_sequence manifest tables work result) old.files new.files

  pub ends_each : AreNumbered work.job.outputs next → next ≤ 2 ^ 62 → (new : Facts) (result : Result (Installed K) FlushError)
      → OfEach (λ ideal after. HasSameOutputs work.job.outputs old.files ideal → HaveStayed work.job.outputs old → InstallLeaves order work.job (with_files old ideal) (with_files new after) next last_sequence manifest tables result) old.files new.files → EndsEach new result
  ends_each numbered few new result each ideal after differs c t d came inputs rest can =
      each ideal after differs c can.outputs (stayed ideal d came inputs rest can) t (deep_of order.cmp work) came d inputs rest (installable_over numbered few ideal d came inputs rest can)

  -- whose tables it puts in if the store failed at the edit
  pub puts_each : AreNumbered work.job.outputs next → next ≤ 2 ^ 62 → (new : Facts) (result : Result (Installed K) FlushError)
      → OfEach (λ ideal after. HasSameOutputs work.job.outputs old.files ideal → HaveStayed work.job.outputs old → InstallPutsOwn order work.job (with_files old ideal) (with_files new after) next last_sequence manifest tables result) old.files new.files
      → OfEach (λ ideal after. EndPutsOwn order old new ideal after next last_sequence manifest tables work result) old.files new.files
  puts_each numbered few new result each ideal after differs c is t d came inputs rest can e good placed there =
      elim (each ideal after differs c can.outputs (stayed ideal d came inputs rest can) is t (deep_of order.cmp work) came d inputs rest (installable_over numbered few ideal d came inputs rest can) e good placed there) [
        | inl old_one ↦ inl old_one
        | inr own ↦ inr (own.0, (own.1.0, sym (also old.files new.files ideal after differs c (table_name placed.table.number) (can.outputs placed.table.number own.0)) ∙ own.1.1))
      ]

  -- where the numbers are older than the job's
  pub older_each : next < work.next → (result : Result (Installed K) FlushError) → EndsEach old result
  older_each lt result ideal after differs c t d came inputs rest can = absurd (let drawn = can.merged.drawn in omega (arith, lt, drawn))

  -- where there are none left
  pub spent_each : EndsEach old (Err (Before NumbersSpent))
  spent_each ideal after differs c t d came inputs rest can =
      let same : after ≡ ideal = unchanged_too old.files old.files ideal after c refl in (
        λ corrupt. corrupt,
        record {
          served = subst (λ (fs : Files). IsServed order fs next manifest tables d) (sym same) can.served;
          kept = subst (λ (fs : Files). KeepsLogsAndTables ideal fs d d) (sym same) (kept_itself ideal d);
        },
      )

  -- ---- a process crash in the middle

  abbrev pub StopsEach : Files → Type 0
  StopsEach files = OfEach (λ ideal after. EndMayLeaveOver order old ideal after next last_sequence manifest tables work) old.files files

  pub unstopped_each : LeavesOnly old old StopsEach
  unstopped_each = leaves_same old old StopsEach refl refl
      (λ ideal after differs c d came inputs rest can.
      let same : after ≡ ideal = unchanged_too old.files old.files ideal after c refl in
      record {
        either = inl (subst (λ (fs : Files). IsConsistent order fs d) (sym same) can.served.consistent, subst (λ (fs : Files). KeepsLogsAndTables ideal fs d d) (sym same) (kept_itself ideal d));
        free = subst (λ (fs : Files). IsFree order fs next) (sym same) can.served.free;
      })

  pub stopped_each : AreNumbered work.job.outputs next → next ≤ 2 ^ 62 → (new : Facts)
      → LeavesOnly old new (λ files. OfEach (λ ideal after. HasSameOutputs work.job.outputs old.files ideal → HaveStayed work.job.outputs old → InstallMayLeave order work.job (with_files old ideal) next last_sequence manifest tables after) old.files files) → LeavesOnly old new StopsEach
  stopped_each numbered few new h =
      leaves_so old new (λ files. OfEach (λ ideal after. HasSameOutputs work.job.outputs old.files ideal → HaveStayed work.job.outputs old → InstallMayLeave order work.job (with_files old ideal) next last_sequence manifest tables after) old.files files) StopsEach
      (λ files left ideal after differs c d came inputs rest can.
      left ideal after differs c can.outputs (stayed ideal d came inputs rest can) (deep_of order.cmp work) came d inputs rest (installable_over numbered few ideal d came inputs rest can)) h
