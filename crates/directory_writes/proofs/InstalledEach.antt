-- The end of a job, in each directory that differs in tables alone.
use Rattle.std.proofs.Common.{◌≡◌, ◌⊎◌, ◌<◌, ◌^◌, ◌++◌, ◌∙◌, ℕ, suc, Bool, List, [], ◌∷◌, Any, map, Option, Some, None, MatchBool, MatchOption, Result, Ok, Err, IsTrue, string_bytes, inl, inr, refl, sym, ap, subst, arith}
use Rattle.std.specs.Cmp.{IsTotalOrder}
use Rattle.std.specs.FinMap.{get}
use Rattle.std.specs.List.{AllByRecursion}
use Rattle.std.specs.declared.cmp.Ordering.{Ordering}
use Rattle.coding.specs.declared.error.DbError.{DbError}
use Rattle.coding.specs.declared.error.DbError.TheVariants.{OutOfMemory, Io, Corrupt, Unsupported, NumbersSpent}
use Rattle.store.specs.Files.{Files, Facts, Synced}
use Rattle.store.specs.Losses.{StaysNamed}
use Rattle.store.specs.Stops.{KeepsBut, LeavesOnly, stopped_at}
use Rattle.store.proofs.Stopping.{leaves_both, leaves_so}
use Rattle.ikey.specs.Entries.{InternalEntry, Pair}
use Rattle.ikey.specs.Orders.{Order}
use Rattle.edits.specs.declared.field.Field.{Field}
use Rattle.edits.specs.declared.field.Field.TheVariants as field
use Rattle.edits.specs.declared.field.PlacedTable.{PlacedTable}
use Rattle.edits.specs.declared.field.TableFile.{TableFile}
use Rattle.table.specs.Building.{last_added}
use Rattle.versions.specs.Levels.{Placement}
use Rattle.recover.specs.internal.Changes.{SameManifestLaw}
use Rattle.compact.proofs.Writing.{writes-stopped}
use Rattle.compact.specs.Choosing.{Choosing}
use Rattle.compact.specs.JobEdits.{IsOwnIn, gone, placed_at, pointer_fields}
use Rattle.compact.specs.Merging.{IsFinished, IsMerging}
use Rattle.compact.specs.Outputs.{AreClosed, AreNumbered, Filling, IsAtHand, IsNext, IsNumberAtHand, IsOwn, IsTableName, TablesWritten, WritesTables, table_name}
use Rattle.compact.specs.declared.job.Job.{Job}
use Rattle.directory_writes.specs.Differing.{OfEach, with_files}
use Rattle.directory_writes.specs.internal.Calls.{Touches}
use Rattle.directory_writes.specs.internal.Each.{HasSameOutputs, HaveStayed}
use Rattle.directory_writes.specs.internal.Flush.{edit_refusal}
use Rattle.directory_writes.specs.internal.Install.{HasPreparedJob, InstallLeaves, InstallMayLeave, InstallPutsOwn, IsJobEdit, RefusesEdit}
use Rattle.directory_writes.specs.internal.Manifest.{AppendsEdit}
use Rattle.directory_writes.specs.declared.flush.FlushError.{FlushError}
use Rattle.directory_writes.specs.declared.flush.FlushError.TheVariants.{Before}
use Rattle.directory_writes.specs.declared.install.Installed.{Installed}
use Rattle.directory_writes.specs.declared.install.PreparedJob.{PreparedJob}
use Rattle.directory_writes.specs.declared.manifest.CurrentManifest.{CurrentManifest}
use Rattle.directory_writes.proofs.Installing.{leaves_none, leaves_ok, leaves_maybe, owns_maybe, table_stopped}
use Rattle.directory_writes.proofs.SameCalls.{edit_too, touches_too, writes_tables_too}
use Rattle.directory_writes.proofs.SameChanges.{also, differs_after, same_change, stays_since}

-- ---- what a job has written

-- the file of the table of this number is the same
abbrev pub Agrees : Files → Files → ℕ → Type 0
Agrees files whole number = get whole (table_name number) ≡ get files (table_name number)

pub each_closed : (P : ℕ → Type 0) (cs : List TableFile) → ((number : ℕ) → Any (λ (table : TableFile). table.number ≡ number) cs → P number) → AllByRecursion (λ (table : TableFile). P table.number) cs
each_closed P [] k = tt
each_closed P (table ∷ cs) k = (k table.number (0, table, omega arith, refl, refl), each_closed P cs (λ number at. k number (suc at.0, at.1, omega (arith, at.2), at.3, at.4)))

-- a store with no call noted
abbrev pub none_called : (facts : Facts) (whole : Files) (cs : List TableFile) → AllByRecursion (λ (table : TableFile). StaysNamed (with_files facts whole) (table_name table.number)) cs
none_called facts whole [] = tt
none_called facts whole (table ∷ cs) = (tt, none_called facts whole cs)

-- two stores that keep the same synced
module _ (cmp : List ℕ → List ℕ → Ordering) (a b : Facts) (synced : b.synced ≡ a.synced) where
  closed_too : (cs : List TableFile) (ts : List (List Pair)) → AllByRecursion (λ (table : TableFile). Agrees a.files b.files table.number) cs → AllByRecursion (λ (table : TableFile). StaysNamed b (table_name table.number)) cs
      → AreClosed cmp a cs ts → AreClosed cmp b cs ts
  closed_too [] [] k stays h = tt
  closed_too [] (pairs ∷ ts) k stays h = absurd h
  closed_too (table ∷ cs) [] k stays h = absurd h
  closed_too (table ∷ cs) (pairs ∷ ts) k stays h = (
    record {
      file = h.0.file;
      has = k.0 ∙ h.0.has;
      synced = ap (λ (s : Synced). s (table_name table.number)) synced ∙ h.0.synced;
      stays = stays.0;
      table_of = h.0.table_of;
      size = h.0.size;
      smallest = h.0.smallest;
      largest = h.0.largest;
    },
    closed_too cs ts k.1 stays.1 h.1,
  )

  -- the table at hand has the name of its number
  at_hand_too : (o : Option Filling) (cs : List TableFile) (next : ℕ) (pairs : List Pair) → MatchOption o (Unit {0}) (IsNext cs next) → ((number : ℕ) → MatchOption o ⊥ (λ (t : Filling). number ≡ t.number) → Agrees a.files b.files number)
      → IsAtHand cmp a o pairs → IsAtHand cmp b o pairs
  at_hand_too None cs next pairs n k h = h
  at_hand_too (Some t) cs next pairs n k h =
      let same : get b.files t.building.name ≡ get a.files t.building.name = ap (get b.files) n.named ∙ k t.number refl ∙ sym (ap (get a.files) n.named) in (
        record {
          builds = (
            h.0.builds.0,
            subst (λ (found : Option (List ℕ)). MatchBool t.building.created (found ≡ Some h.0.builds.0) ((h.0.builds.0 ≡ []) × (last_added t.building ≡ None))) (sym same) h.0.builds.1,
            h.0.builds.2,
          );
          smallest = h.0.smallest;
          largest = h.0.largest;
        },
        h.1,
      )

  pub merging_too : (deep : List ℕ → Bool) (last : List ℕ) (c : Choosing) (w : TablesWritten) (next : ℕ) (came : List InternalEntry) → MatchOption w.at_hand (Unit {0}) (IsNext w.closed next)
      → AllByRecursion (λ (table : TableFile). Agrees a.files b.files table.number) w.closed → HaveStayed w b → ((number : ℕ) → IsNumberAtHand w number → Agrees a.files b.files number)
      → IsMerging cmp deep last c w a next came → IsMerging cmp deep last c w b next came
  merging_too deep last c w next came n closed stays hand m =
      let h = m.has_written in
      record {
        written = m.written;
        kept = m.kept;
        written_are = m.written_are;
        well_kept = m.well_kept;
        has_written = record {
          tables = h.tables;
          rest = h.rest;
          closed_are = closed_too w.closed h.tables closed stays h.closed_are;
          rest_is = at_hand_too w.at_hand w.closed next h.rest n hand h.rest_is;
          all = h.all;
          ends = h.ends;
          closed_numbers = h.closed_numbers;
          number = h.number;
        };
        chooses = m.chooses;
        last_is = m.last_is;
        bound = m.bound;
        sorted = m.sorted;
      }

-- ---- the tables of its edit

own_placed : (w : TablesWritten) (level : ℕ) (tables : List TableFile) → AllByRecursion (IsOwnIn w) (map (placed_at level) tables) → AllByRecursion (λ (table : TableFile). IsOwn w table.number) tables
own_placed w level [] h = tt
own_placed w level (table ∷ tables) h = (h.0, own_placed w level tables h.1)

behind_these : (P : Field → Type 0) (xs ys : List Field) → AllByRecursion P (xs ++ ys) → AllByRecursion P ys
behind_these P [] ys h = h
behind_these P (x ∷ xs) ys h = behind_these P xs ys h.1

agree_own : (P Q : TableFile → Type 0) (tables : List TableFile) → ((table : TableFile) → P table → Q table) → AllByRecursion P tables → AllByRecursion Q tables
agree_own P Q [] so h = tt
agree_own P Q (table ∷ tables) so h = (so table h.0, agree_own P Q tables so h.1)

-- ---- an edit that is ready

module _ {K C : Type 0} (cmp : List ℕ → List ℕ → Ordering) (job : Job K C) (next last_sequence : ℕ) (numbered : AreNumbered job.outputs next) (old mid : Facts) (whole then : Files)
    (before : HasSameOutputs job.outputs old.files whole) (stayed : HaveStayed job.outputs old) (behind : HasSameOutputs job.outputs mid.files then) where
  merging_back : (deep : List ℕ → Bool) (came : List InternalEntry) → IsMerging cmp deep job.last.items job.selection job.outputs (with_files old whole) next came → IsMerging cmp deep job.last.items job.selection job.outputs old next came
  merging_back deep came m =
      merging_too cmp (with_files old whole) old refl deep job.last.items job.selection job.outputs next came numbered.at_hand
      (each_closed (Agrees whole old.files) job.outputs.closed (λ number at. sym (before number (inr at)))) stayed (λ number at. sym (before number (inl at))) m

  finished_too : (deep : List ℕ → Bool) (came : List InternalEntry) (edit : List Field) → AllByRecursion (IsOwnIn job.outputs) edit → IsFinished cmp deep job.plan job.last.items job.selection mid next last_sequence came edit
      → IsFinished cmp deep job.plan job.last.items job.selection (with_files mid then) next last_sequence came edit
  finished_too deep came edit own (tables, is, merging) =
      let level = job.plan.output_level in
      let front = field.NextFileNumber next ∷ field.LastSequence last_sequence ∷ pointer_fields level job.plan.compact_pointer in
      let placed = behind_these (IsOwnIn job.outputs) (map gone is.sorted) (map (placed_at level) tables)
      (behind_these (IsOwnIn job.outputs) front (map gone is.sorted ++ map (placed_at level) tables) (subst (AllByRecursion (IsOwnIn job.outputs)) is.fields_are own)) in
      let agree = agree_own (λ (table : TableFile). IsOwn job.outputs table.number) (λ (table : TableFile). Agrees mid.files then table.number) tables (λ table is. behind table.number is) (own_placed job.outputs level tables placed) in
      (tables, is, merging_too cmp mid (with_files mid then) refl deep job.last.items job.selection (record { closed = tables; at_hand = None }) next came tt agree (none_called mid then tables) (λ number at. absurd at) merging)

  job_edit_too : (edit : List Field) → IsJobEdit cmp job old mid next last_sequence edit → IsJobEdit cmp job (with_files old whole) (with_files mid then) next last_sequence edit
  job_edit_too edit e = record {
    proper = e.proper;
    spelled = e.spelled;
    own = e.own;
    of_plan = e.of_plan;
    finished = λ deep came f merging. finished_too deep came edit e.own (e.finished deep came f (merging_back deep came merging));
  }

  prepared_too : (version : Placement) (prepared : PreparedJob K) → HasPreparedJob cmp job old mid next last_sequence version prepared → HasPreparedJob cmp job (with_files old whole) (with_files mid then) next last_sequence version prepared
  prepared_too version prepared p = record {
    edit = job_edit_too prepared.edit p.edit;
    leads = p.leads;
    replaces = p.replaces;
    tables = p.tables;
    synced = λ deep came f merging placed there. elim (p.tables placed there) [
      | inl was ↦ inl was
      | inr own ↦ elim (p.synced deep came f (merging_back deep came merging) placed there) [
        | inl was ↦ inl was
        | inr kept ↦ inr (kept.0, behind placed.table.number own ∙ kept.1, kept.2)
      ]
    ];
    in_order = p.in_order;
    pointers = p.pointers;
  }

  refuses_too : (e : DbError) (tables : List PlacedTable) → RefusesEdit e cmp job old mid next last_sequence tables → RefusesEdit e cmp job (with_files old whole) (with_files mid then) next last_sequence tables
  refuses_too OutOfMemory tables why = why
  refuses_too Io tables why = why
  refuses_too (Corrupt file what) tables why = (why.0, job_edit_too why.0 why.1, why.2)
  refuses_too (Unsupported what) tables why = λ deep came m. why deep came (merging_back deep came m)
  refuses_too NumbersSpent tables why = why
  refuses_too _ tables why = absurd why

-- ---- what the directory means

module _ {K C : Type 0} (order : Order) (job : Job K C) (next last_sequence : ℕ) (fits : next < 2 ^ 64) (numbered : AreNumbered job.outputs next) (old mid : Facts) (w : WritesTables old mid (IsNumberAtHand job.outputs)) (manifest : CurrentManifest) where
  abbrev pub InstallEach : Facts → List PlacedTable → Result (Installed K) FlushError → Type 0
  InstallEach new tables r = OfEach (λ whole behind. HasSameOutputs job.outputs old.files whole → HaveStayed job.outputs old → InstallLeaves order job (with_files old whole) (with_files new behind) next last_sequence manifest tables r) old.files new.files

  abbrev pub OwnsEach : Facts → List PlacedTable → Result (Installed K) FlushError → Type 0
  OwnsEach new tables r = OfEach (λ whole behind. HasSameOutputs job.outputs old.files whole → HaveStayed job.outputs old → InstallPutsOwn order job (with_files old whole) (with_files new behind) next last_sequence manifest tables r) old.files new.files

  -- no edit is ready
  pub none_each : IsTotalOrder order.cmp → (tables : List PlacedTable) (e : DbError) → RefusesEdit e order.cmp job old mid next last_sequence tables → InstallEach mid tables (Err (Before e))
  none_each total tables e why whole behind d c outputs stayed =
      leaves_none order job next last_sequence fits numbered (with_files old whole) (with_files mid behind) (writes_tables_too old mid whole behind c.stays (IsNumberAtHand job.outputs) w) manifest total tables e
      (refuses_too order.cmp job next last_sequence numbered old mid whole behind outputs stayed (λ number own. also old.files mid.files whole behind d c (table_name number) (outputs number own)) e tables why)

  module _ (new : Facts) (t : Touches mid new) (version : Placement) (prepared : PreparedJob K) (p : HasPreparedJob order.cmp job old mid next last_sequence version prepared) where
    pub ok_each : (end : ℕ) → AppendsEdit order mid new manifest.number (string_bytes manifest.name) manifest.end prepared.edit (Ok end)
        → InstallEach new version.tables (Ok (record { version = prepared.version; manifest_end = end }))
    ok_each end r whole behind d c outputs stayed =
        let s = same_change old.files mid.files whole d in
        let stays = stays_since old.files mid.files new.files whole s.0 behind s.1 c in
        leaves_ok order job next last_sequence fits numbered (with_files old whole) (with_files mid s.0) (writes_tables_too old mid whole s.0 s.1.stays (IsNumberAtHand job.outputs) w) manifest
        (with_files new behind) (touches_too mid new s.0 behind stays t) version prepared
        (prepared_too order.cmp job next last_sequence numbered old mid whole s.0 outputs stayed (λ number own. also old.files mid.files whole s.0 d s.1 (table_name number) (outputs number own)) version prepared p) end
        (edit_too order mid new s.0 behind s.2 (differs_after old.files new.files whole behind d c) stays manifest.number (string_bytes manifest.name) manifest.end prepared.edit (Ok end) r)

    pub maybe_each : SameManifestLaw → (e : DbError) → (e ≡ OutOfMemory) ⊎ (e ≡ Io) → AppendsEdit order mid new manifest.number (string_bytes manifest.name) manifest.end prepared.edit (Err e)
        → InstallEach new version.tables (Err (edit_refusal e))
    maybe_each same e which r whole behind d c outputs stayed =
        let s = same_change old.files mid.files whole d in
        let stays = stays_since old.files mid.files new.files whole s.0 behind s.1 c in
        leaves_maybe order job next last_sequence fits numbered (with_files old whole) (with_files mid s.0) (writes_tables_too old mid whole s.0 s.1.stays (IsNumberAtHand job.outputs) w) manifest
        (with_files new behind) (touches_too mid new s.0 behind stays t) version prepared
        (prepared_too order.cmp job next last_sequence numbered old mid whole s.0 outputs stayed (λ number own. also old.files mid.files whole s.0 d s.1 (table_name number) (outputs number own)) version prepared p)
        same e which
        (edit_too order mid new s.0 behind s.2 (differs_after old.files new.files whole behind d c) stays manifest.number (string_bytes manifest.name) manifest.end prepared.edit (Err e) r)

    -- whose tables it puts in
    pub owns_each : SameManifestLaw → (e : DbError) → (e ≡ OutOfMemory) ⊎ (e ≡ Io) → AppendsEdit order mid new manifest.number (string_bytes manifest.name) manifest.end prepared.edit (Err e)
        → OwnsEach new version.tables (Err (edit_refusal e))
    owns_each same e which r whole behind d c outputs stayed =
        let s = same_change old.files mid.files whole d in
        let stays = stays_since old.files mid.files new.files whole s.0 behind s.1 c in
        owns_maybe order job next last_sequence fits numbered (with_files old whole) (with_files mid s.0) (writes_tables_too old mid whole s.0 s.1.stays (IsNumberAtHand job.outputs) w) manifest
        (with_files new behind) (touches_too mid new s.0 behind stays t) version prepared
        (prepared_too order.cmp job next last_sequence numbered old mid whole s.0 outputs stayed (λ number own. also old.files mid.files whole s.0 d s.1 (table_name number) (outputs number own)) version prepared p)
        same e which
        (edit_too order mid new s.0 behind s.2 (differs_after old.files new.files whole behind d c) stays manifest.number (string_bytes manifest.name) manifest.end prepared.edit (Err e) r)

-- ---- a process crash in the middle

module _ {K C : Type 0} (order : Order) (job : Job K C) (next last_sequence : ℕ) (fits : next < 2 ^ 64) (numbered : AreNumbered job.outputs next) (old mid : Facts) (w : WritesTables old mid (IsNumberAtHand job.outputs)) (manifest : CurrentManifest) (f : IsTrue mid.faithful) where
  abbrev pub StoppedEach : List PlacedTable → Files → Type 0
  StoppedEach tables files = OfEach (λ whole behind. HasSameOutputs job.outputs old.files whole → HaveStayed job.outputs old → InstallMayLeave order job (with_files old whole) next last_sequence manifest tables behind) old.files files

  -- while the last table is ended
  pub table_stopped_each : (tables : List PlacedTable) → LeavesOnly old mid (StoppedEach tables)
  table_stopped_each tables =
      leaves_so old mid (KeepsBut old.files (IsTableName (IsNumberAtHand job.outputs))) (StoppedEach tables)
      (λ files kept whole behind d c outputs stayed.
      let there = with_files old whole in
      let stopped = writes-stopped there behind (IsNumberAtHand job.outputs) (w.faithful f) (λ q out. c.stays q (kept q out)) in
      (table_stopped order job next last_sequence fits numbered there (stopped_at there behind) stopped manifest refl tables).now) (w.calls f).leaves

  -- while the edit is put after the MANIFEST
  pub install_stopped_each : SameManifestLaw → (new : Facts) (version : Placement) (prepared : PreparedJob K) (p : HasPreparedJob order.cmp job old mid next last_sequence version prepared)
      → LeavesOnly mid new (λ files. AppendsEdit order mid (stopped_at mid files) manifest.number (string_bytes manifest.name) manifest.end prepared.edit (Err Io))
      → LeavesOnly old new (StoppedEach version.tables)
  install_stopped_each same new version prepared p edit =
      let P = StoppedEach version.tables in
      leaves_both old mid new P (table_stopped_each version.tables)
      (leaves_so mid new _ P
      (λ files left whole behind d c outputs stayed deep came dir inputs rest can.
      maybe_each order job next last_sequence fits numbered old mid w manifest (stopped_at mid files) (record { faithful = λ g. f; failures = omega arith; denials = refl; locked = refl }) version prepared p
      same Io (inr refl) left whole behind d c outputs stayed refl deep came dir inputs rest can) edit)
