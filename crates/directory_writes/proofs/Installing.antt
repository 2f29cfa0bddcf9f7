-- The whole end of a job, by what its calls say.
use Rattle.std.proofs.Common.{◌≡◌, ◌⊎◌, ◌<◌, ◌^◌, ℕ, Bool, List, [], ◌∷◌, Some, Ok, Err, IsTrue, string_bytes, inl, inr, refl, sym, subst, ◌∙◌, arith}
use Rattle.std.specs.Cmp.{IsTotalOrder}
use Rattle.std.specs.List.{AllByRecursion, Contains}
use Rattle.std.specs.declared.cmp.Ordering.{Ordering}
use Rattle.std.proofs.lemmas.List.Elements.{All-contains, All-from_recursion, recursion_from_All}
use Rattle.versions.proofs.Pairs.{all_contained}
use Rattle.edits.specs.declared.field.Field.TheVariants as field
use Rattle.coding.specs.declared.error.DbError.{DbError}
use Rattle.coding.specs.declared.error.DbError.TheVariants.{OutOfMemory, Io, Corrupt}
use Rattle.store.specs.Files.{Facts}
use Rattle.store.specs.Stops.{KeepsBut, LeavesOnly, stopped_at}
use Rattle.store.proofs.Stopping.{leaves_both, leaves_so}
use Rattle.compact.proofs.Writing.{writes-stopped}
use Rattle.ikey.specs.Entries.{InternalEntry}
use Rattle.ikey.specs.Orders.{Order}
use Rattle.edits.specs.Layout.{after_edit}
use Rattle.edits.specs.declared.field.Field.{Field}
use Rattle.edits.specs.declared.field.PlacedTable.{PlacedTable}
use Rattle.table.specs.Writing.{KeepsOthers, SyncsOnly}
use Rattle.versions.specs.Applying.{LeadsLayout, LeadsAstray}
use Rattle.versions.specs.Levels.{Placement, AreInOrder}
use Rattle.recover.specs.Tables.{TableContent, HasTable, InTables}
use Rattle.recover.specs.Directory.{Directory}
use Rattle.recover.specs.internal.Changes.{SameManifestLaw}
use Rattle.recover.proofs.Memberships.{from_rest, in_part, one_of_tables}
use Rattle.compact.specs.Outputs.{TablesWritten, AreNumbered, IsNumberAtHand, IsOwn, IsTableName, WritesTables}
use Rattle.compact.specs.JobEdits.{IsOwnIn}
use Rattle.compact.specs.declared.job.Job.{Job}
use Rattle.directory_writes.specs.internal.Calls.{Touches}
use Rattle.directory_writes.specs.Replacing.{placed_in}
use Rattle.directory_writes.specs.internal.Flush.{IsCorrupt, RefusesVersion, edit_refusal}
use Rattle.directory_writes.specs.internal.Install.{AreOldOrOwn, CanInstall, HasPreparedJob, InstallLeaves, InstallMayLeave, InstallMayPutOwn, InstallMeans, InstallPutsOwn, InstallTouches, IsJobEdit, RefusesEdit}
use Rattle.directory_writes.specs.internal.Manifest.{AppendsEdit}
use Rattle.directory_writes.specs.declared.flush.FlushError.TheVariants.{Before}
use Rattle.directory_writes.specs.declared.install.PreparedJob.{PreparedJob}
use Rattle.directory_writes.specs.declared.manifest.CurrentManifest.{CurrentManifest}
use Rattle.directory_writes.proofs.AfterEdits.{PutsIn, all_edit}
use Rattle.directory_writes.proofs.Installs.{IsFit, after, compaction, installed_ok, kept_tables, maybe_installed, maybe_own, outputs_put, same_tables, served_mid, uninstalled, uninstalled_still}
use Rattle.directory_writes.proofs.Rooms.{are_apart, lie_apart}

-- ---- which files change

pub touches_job : (old mid new : Facts) (w : TablesWritten) (manifest : List ℕ) → WritesTables old mid (IsNumberAtHand w) → Touches mid new → (IsTrue new.faithful → KeepsOthers mid.files new.files manifest)
    → (IsTrue new.faithful → SyncsOnly mid.synced new.synced manifest) → InstallTouches old new w manifest
touches_job old mid new w manifest h t others synced = record {
  faithful = λ f. h.faithful (t.faithful f);
  failures = omega (arith, h.failures, t.failures);
  denials = t.denials ∙ h.denials;
  locked = t.locked ∙ h.locked;
  others = λ f name apart other. others f name other ∙ h.others (t.faithful f) name apart;
  synced = λ f name apart other. synced f name other ∙ h.synced (t.faithful f) name apart;
}

-- ---- whose tables a version has

puts_own : (w : TablesWritten) (old : List PlacedTable) (edit : List Field) → AllByRecursion (IsOwnIn w) edit → AllByRecursion (PutsIn (λ (p : PlacedTable). Contains old p ⊎ IsOwn w p.table.number)) edit
puts_own w old [] h = tt
puts_own w old (field.NewFile placed ∷ edit) h = (inr h.0, puts_own w old edit h.1)
puts_own w old (field.DeletedFile level number ∷ edit) h = (tt, puts_own w old edit h.1)
puts_own w old (field.Comparator name ∷ edit) h = (tt, puts_own w old edit h.1)
puts_own w old (field.LogNumber k ∷ edit) h = (tt, puts_own w old edit h.1)
puts_own w old (field.NextFileNumber k ∷ edit) h = (tt, puts_own w old edit h.1)
puts_own w old (field.LastSequence k ∷ edit) h = (tt, puts_own w old edit h.1)
puts_own w old (field.CompactPointer level key ∷ edit) h = (tt, puts_own w old edit h.1)
puts_own w old (field.PreviousLogNumber k ∷ edit) h = (tt, puts_own w old edit h.1)

pub old_or_own : (cmp : List ℕ → List ℕ → Ordering) (w : TablesWritten) (old new : List PlacedTable) (edit : List Field) → AreInOrder cmp old → AllByRecursion (IsOwnIn w) edit → LeadsLayout (after_edit edit) old new → AreOldOrOwn w old new
old_or_own cmp w old new edit order own leads placed there =
    let P : PlacedTable → Type 0 = λ p. Contains old p ⊎ IsOwn w p.table.number in
    let r = leads old (record { numbers = order.numbers; all = all_contained (Contains old) old (λ p c. c); only = all_contained (Contains old) old (λ p c. c) }) in
    let all : AllByRecursion P r.0 = all_edit P edit old r.0 (puts_own w old edit own) (recursion_from_All P old (all_contained P old (λ p c. inl c))) r.1 in
    All-contains P r.0 placed (All-from_recursion P r.0 all) (All-contains (Contains r.0) new placed r.2.only there)

-- why there is no edit, where there is no version after it
pub unversioned : {K C : Type 0} (e : DbError) (cmp : List ℕ → List ℕ → Ordering) (job : Job K C) (old new : Facts) (next last_sequence : ℕ) (tables : List PlacedTable) (edit : List Field) → new.failures ≡ old.failures → IsJobEdit cmp job old new next last_sequence edit
    → RefusesVersion e (LeadsAstray cmp (after_edit edit) tables) → RefusesEdit e cmp job old new next last_sequence tables
unversioned OutOfMemory cmp job old new next last_sequence tables edit stood is h = stood
unversioned (Corrupt file what) cmp job old new next last_sequence tables edit stood is h = (edit, is, h)
unversioned _ cmp job old new next last_sequence tables edit stood is h = absurd h

-- ---- the version has room

low_levels : (n : ℕ) (tables : List PlacedTable) → AllByRecursion (IsFit n) tables → AllByRecursion (λ (p : PlacedTable). p.level < 7) tables
low_levels n [] h = tt
low_levels n (t ∷ tables) h = (h.0.0, low_levels n tables h.1)

module _ {K C : Type 0} (order : Order) (job : Job K C) (next last_sequence : ℕ) (fits : next < 2 ^ 64) (numbered : AreNumbered job.outputs next) (old mid : Facts) (w : WritesTables old mid (IsNumberAtHand job.outputs)) (manifest : CurrentManifest) where
  module _ (f : IsTrue mid.faithful) (deep : List ℕ → Bool) (tables : List PlacedTable) (came : List InternalEntry) (d : Directory) (inputs rest : List TableContent)
      (can : CanInstall order deep job old next last_sequence manifest tables came d inputs rest) where
    not_astray : IsTotalOrder order.cmp → (edit : List Field) → IsJobEdit order.cmp job old mid next last_sequence edit → LeadsAstray order.cmp (after_edit edit) tables → ⊥
    not_astray total edit e astray =
        let put = outputs_put order job next last_sequence fits numbered old mid w f deep manifest tables came d inputs rest can edit e in
        let served = served_mid order job next last_sequence fits numbered old mid w f deep manifest tables came d inputs rest can in
        let kept = kept_tables order job next last_sequence fits numbered old mid w f deep manifest tables came d inputs rest can edit e in
        let whole = compaction order job next last_sequence fits numbered old mid w f deep manifest tables came d inputs rest can edit e in
        let layout = after order job next last_sequence fits numbered old mid w f deep manifest tables came d inputs rest can edit e in
        let has : (t : TableContent) → InTables put.1 t → HasTable order mid.files t = λ t i.
        elim (in_part put.1 put.0 rest t whole.new_tables i) [
          | inl o ↦ put.2.has t o
          | inr r ↦ one_of_tables order mid.files d.tables t served.consistent.tables (from_rest d.tables inputs rest t can.parted r)
        ] in
        let A : List PlacedTable → Type 0 = λ ts. after_edit edit ts ≡ Some (placed_in put.1) in
        astray (placed_in d.tables) (placed_in put.1) can.served.listed (subst A (sym can.served.consistent.placed) put.2.after)
        (are_apart order total mid.files put.1 has (lie_apart order d layout inputs rest put.0 put.1 job.plan.output_level whole can.served.consistent.apart) (low_levels next (placed_in put.1) kept.0) kept.1)

    not_corrupt : IsTotalOrder order.cmp → (e : DbError) → RefusesEdit e order.cmp job old mid next last_sequence tables → IsCorrupt e → ⊥
    not_corrupt total (Corrupt file what) h c = not_astray total h.0 h.1 h.2
    not_corrupt total e h c = absurd c

  -- ---- how the call may end

  pub leaves_none : IsTotalOrder order.cmp → (tables : List PlacedTable) (e : DbError) → RefusesEdit e order.cmp job old mid next last_sequence tables
      → InstallLeaves order job old mid next last_sequence manifest tables (Err (Before e))
  leaves_none total tables e why f deep came d inputs rest can = (
    not_corrupt f deep tables came d inputs rest can total e why,
    uninstalled order job next last_sequence fits numbered old mid w f deep manifest tables came d inputs rest can,
  )

  module _ (new : Facts) (t : Touches mid new) (version : Placement) (prepared : PreparedJob K) (p : HasPreparedJob order.cmp job old mid next last_sequence version prepared) where
    pub leaves_ok : (end : ℕ) → AppendsEdit order mid new manifest.number (string_bytes manifest.name) manifest.end prepared.edit (Ok end)
        → InstallLeaves order job old new next last_sequence manifest version.tables (Ok (record { version = prepared.version; manifest_end = end }))
    leaves_ok end r g deep came d inputs rest can =
        installed_ok order job next last_sequence fits numbered old mid w (t.faithful g) deep manifest version.tables came d inputs rest can prepared.edit p.edit new end prepared.version.value.tables g r p.leads

    pub leaves_maybe : SameManifestLaw → (e : DbError) → (e ≡ OutOfMemory) ⊎ (e ≡ Io) → AppendsEdit order mid new manifest.number (string_bytes manifest.name) manifest.end prepared.edit (Err e)
        → InstallLeaves order job old new next last_sequence manifest version.tables (Err (edit_refusal e))
    leaves_maybe same e which r g deep came d inputs rest can =
        let M : DbError → Type 0 = λ x. InstallMeans order deep job old.files new.files next manifest version.tables came d inputs rest (Err (edit_refusal x)) in
        let A : DbError → Type 0 = λ x. AppendsEdit order mid new manifest.number (string_bytes manifest.name) manifest.end prepared.edit (Err x) in
        elim which [
          | inl memory ↦ subst M (sym memory) (
            λ corrupt. corrupt,
            uninstalled_still order job next last_sequence fits numbered old mid w (t.faithful g) deep manifest version.tables came d inputs rest can prepared.edit p.edit new g (subst A memory r),
          )
          | inr io ↦ subst M (sym io) (maybe_installed order job next last_sequence fits numbered old mid w (t.faithful g) deep manifest version.tables came d inputs rest can prepared.edit p.edit same new g (subst A io r))
        ]

    -- whose tables it puts in then
    pub owns_maybe : SameManifestLaw → (e : DbError) → (e ≡ OutOfMemory) ⊎ (e ≡ Io) → AppendsEdit order mid new manifest.number (string_bytes manifest.name) manifest.end prepared.edit (Err e)
        → InstallPutsOwn order job old new next last_sequence manifest version.tables (Err (edit_refusal e))
    owns_maybe same e which r =
        let P : DbError → Type 0 = λ x. InstallPutsOwn order job old new next last_sequence manifest version.tables (Err (edit_refusal x)) in
        let A : DbError → Type 0 = λ x. AppendsEdit order mid new manifest.number (string_bytes manifest.name) manifest.end prepared.edit (Err x) in
        elim which [
          | inl memory ↦ subst P (sym memory) (λ is. absurd (cc))
          | inr io ↦ subst P (sym io) (λ is g deep came d inputs rest can.
              maybe_own order job next last_sequence fits numbered old mid w (t.faithful g) deep manifest version.tables came d inputs rest can prepared.edit p.edit same new g (subst A io r) prepared.version.value.tables p.leads p.tables
              (p.synced deep came (t.faithful g) can.merging))
        ]

-- ---- a process crash in the middle

module _ {K C : Type 0} (order : Order) (job : Job K C) (next last_sequence : ℕ) (fits : next < 2 ^ 64) (numbered : AreNumbered job.outputs next) (old mid : Facts) (w : WritesTables old mid (IsNumberAtHand job.outputs)) (manifest : CurrentManifest) (f : IsTrue mid.faithful) where
  -- while the last table is ended
  pub table_stopped : (tables : List PlacedTable) → LeavesOnly old mid (InstallMayLeave order job old next last_sequence manifest tables)
  table_stopped tables =
      leaves_so old mid (KeepsBut old.files (IsTableName (IsNumberAtHand job.outputs))) (InstallMayLeave order job old next last_sequence manifest tables)
      (λ files kept deep came d inputs rest can.
      let stopped = writes-stopped old files (IsNumberAtHand job.outputs) (w.faithful f) kept in
      let left = uninstalled order job next last_sequence fits numbered old (stopped_at old files) stopped refl deep manifest tables came d inputs rest can in
      record { either = inl (left.served.consistent, left.kept); free = left.served.free }) (w.calls f).leaves

  -- whose tables the directory has then: its own
  pub table_stopped_own : (tables : List PlacedTable) → LeavesOnly old mid (InstallMayPutOwn order job old next last_sequence manifest tables)
  table_stopped_own tables =
      leaves_so old mid (KeepsBut old.files (IsTableName (IsNumberAtHand job.outputs))) (InstallMayPutOwn order job old next last_sequence manifest tables)
      (λ files kept deep came d inputs rest can x good placed there.
      let stopped = writes-stopped old files (IsNumberAtHand job.outputs) (w.faithful f) kept in
      let left = uninstalled order job next last_sequence fits numbered old (stopped_at old files) stopped refl deep manifest tables came d inputs rest can in
      inl (subst (λ (ps : List PlacedTable). Contains ps placed) (same_tables order files x d good left.served.consistent) there)) (w.calls f).leaves

  -- while the edit is put after the MANIFEST
  pub install_stopped : SameManifestLaw → (new : Facts) (version : Placement) (prepared : PreparedJob K) (p : HasPreparedJob order.cmp job old mid next last_sequence version prepared)
      → LeavesOnly mid new (λ files. AppendsEdit order mid (stopped_at mid files) manifest.number (string_bytes manifest.name) manifest.end prepared.edit (Err Io))
      → LeavesOnly old new (InstallMayLeave order job old next last_sequence manifest version.tables)
  install_stopped same new version prepared p edit =
      let P = InstallMayLeave order job old next last_sequence manifest version.tables in
      leaves_both old mid new P (table_stopped version.tables)
      (leaves_so mid new _ P
      (λ files left deep came d inputs rest can.
      leaves_maybe order job next last_sequence fits numbered old mid w manifest (stopped_at mid files) (record { faithful = λ g. f; failures = omega arith; denials = refl; locked = refl }) version prepared p
      same Io (inr refl) left refl deep came d inputs rest can) edit)

  pub install_stopped_own : SameManifestLaw → (new : Facts) (version : Placement) (prepared : PreparedJob K) (p : HasPreparedJob order.cmp job old mid next last_sequence version prepared)
      → LeavesOnly mid new (λ files. AppendsEdit order mid (stopped_at mid files) manifest.number (string_bytes manifest.name) manifest.end prepared.edit (Err Io))
      → LeavesOnly old new (InstallMayPutOwn order job old next last_sequence manifest version.tables)
  install_stopped_own same new version prepared p edit =
      let P = InstallMayPutOwn order job old next last_sequence manifest version.tables in
      leaves_both old mid new P (table_stopped_own version.tables)
      (leaves_so mid new _ P
      (λ files left deep came d inputs rest can.
      owns_maybe order job next last_sequence fits numbered old mid w manifest (stopped_at mid files) (record { faithful = λ g. f; failures = omega arith; denials = refl; locked = refl }) version prepared p
      same Io (inr refl) left refl refl deep came d inputs rest can) edit)
