-- A flush, in each directory that differs in tables alone.
use Rattle.std.proofs.Common.{◌≡◌, ◌⊎◌, ◌<◌, ◌+◌, ◌^◌, ◌∙◌, ℕ, List, [], Result, Ok, Err, IsTrue, string_bytes, inl, inr, refl, sym, ap, subst, arith}
use Rattle.std.specs.FinMap.{get}
use Rattle.coding.specs.declared.error.DbError.{DbError}
use Rattle.coding.specs.declared.error.DbError.TheVariants.{OutOfMemory, Io, Corrupt, Unsupported, NumbersSpent}
use Rattle.store.specs.Files.{Files, Facts}
use Rattle.store.specs.Stops.{KeepsBut, LeavesOnly, stopped_at}
use Rattle.store.proofs.Stopping.{leaves_both, leaves_same, leaves_so}
use Rattle.ikey.specs.declared.entry.Entry.{Entry}
use Rattle.ikey.specs.Orders.{Order}
use Rattle.edits.specs.Names.{name_of, IsNumbered}
use Rattle.edits.specs.declared.field.PlacedTable.{PlacedTable}
use Rattle.edits.specs.declared.names.FileName.TheVariants.{Table, OldTable}
use Rattle.table.specs.Writing.{Writes}
use Rattle.versions.specs.Levels.{Placement}
use Rattle.recover.specs.internal.Changes.{FlushLaw, SameManifestLaw, UnreadLaw}
use Rattle.recover.specs.Numbers.{IsFree}
use Rattle.directory_writes.specs.Differing.{DiffersInTables, IsSameChange, OfEach, with_files}
use Rattle.directory_writes.specs.internal.Calls.{Touches}
use Rattle.directory_writes.specs.internal.Flush.{DrawsTable, FlushLeaves, FlushMayLeave, HasPrepared, RefusesNewTable, edit_refusal}
use Rattle.directory_writes.specs.internal.Manifest.{AppendsEdit}
use Rattle.directory_writes.specs.declared.flush.FlushError.TheVariants.{Before}
use Rattle.directory_writes.specs.declared.flush.FlushPlan.{FlushPlan}
use Rattle.directory_writes.specs.declared.flush.Flushed.{Flushed}
use Rattle.directory_writes.specs.declared.flush.FlushError.{FlushError}
use Rattle.directory_writes.specs.declared.flush.Prepared.{Prepared}
use Rattle.directory_writes.specs.declared.manifest.CurrentManifest.{CurrentManifest}
use Rattle.directory_writes.proofs.Flushes.{leaves_none, leaves_ok, leaves_maybe, table_stopped}
use Rattle.directory_writes.proofs.SameCalls.{edit_too, level0_too, table_agrees, touches_too, writes_too}
use Rattle.directory_writes.proofs.SameChanges.{also, differs_after, free_agree, same_change, stays_since, unchanged_too}

-- ---- what was made ready

prepared_too : {K : Type 0} (order : Order) (facts : Facts) (whole : Files) (after : ℕ) (plan : FlushPlan) (entries : List Entry) (placement : Placement) (prepared : Prepared K)
    → get whole (name_of (Table prepared.number)) ≡ get facts.files (name_of (Table prepared.number)) → get whole (name_of (OldTable prepared.number)) ≡ get facts.files (name_of (OldTable prepared.number))
    → HasPrepared order facts after plan entries placement prepared → HasPrepared order (with_files facts whole) after plan entries placement prepared
prepared_too order facts whole after plan entries placement prepared newer older p = record {
  table = p.table;
  number_is = p.number_is;
  fields = p.fields;
  proper = p.proper;
  spelled = p.spelled;
  limit = p.limit;
  leads = p.leads;
  version = p.version;
  written = λ f. level0_too order facts.files whole prepared.number entries p.table (table_agrees facts.files whole prepared.number newer older) (p.written f);
  synced = λ f. p.synced f ∙ sym newer;
}

refuses_too : (old new old_there new_there : Facts) (entries : List Entry) (tables : List PlacedTable) (next after : ℕ) (e : DbError) → (new ≡ old → new_there ≡ old_there)
    → new_there.failures ≡ new.failures → old_there.failures ≡ old.failures → new_there.faithful ≡ new.faithful
    → RefusesNewTable e old new entries tables next after → RefusesNewTable e old_there new_there entries tables next after
refuses_too old new old_there new_there entries tables next after OutOfMemory same now before faithful why = now ∙ why ∙ sym before
refuses_too old new old_there new_there entries tables next after Io same now before faithful why = omega (arith, why, now, before)
refuses_too old new old_there new_there entries tables next after (Unsupported what) same now before faithful why = λ f. why (subst IsTrue faithful f)
refuses_too old new old_there new_there entries tables next after (Corrupt file what) same now before faithful why = why
refuses_too old new old_there new_there entries tables next after NumbersSpent same now before faithful why = (why.0, why.1, same why.2)
refuses_too old new old_there new_there entries tables next after _ same now before faithful why = absurd why

-- ---- what the directory means

module _ (K : Type 0) (order : Order) (old : Facts) (next after : ℕ) (plan : FlushPlan) (manifest : CurrentManifest) (entries : List Entry) where
  abbrev pub FlushEach : Facts → List PlacedTable → Result (Flushed K) FlushError → Type 0
  FlushEach new tables r = OfEach (λ whole behind. FlushLeaves {K = K} order (with_files old whole) (with_files new behind) next after plan manifest entries tables r) old.files new.files

  same_there : (new : Facts) (whole behind : Files) → IsSameChange old.files new.files whole behind → new ≡ old → with_files new behind ≡ with_files old whole
  same_there new whole behind c same =
      let files : behind ≡ whole = unchanged_too old.files new.files whole behind c (ap (λ (x : Facts). x.files) same) in
      λ i. with_files (same i) (files i)

  drawn_too : (new : Facts) (whole behind : Files) → IsSameChange old.files new.files whole behind → DrawsTable old new next after → DrawsTable (with_files old whole) (with_files new behind) next after
  drawn_too new whole behind c (inl none) = inl (none.0, same_there new whole behind c none.1)
  drawn_too new whole behind c (inr drawn) = inr drawn

  -- the table isn't ready
  pub none_each : UnreadLaw → (new : Facts) (tables : List PlacedTable) (e : DbError) → Writes old new (name_of (Table next)) → DrawsTable old new next after → RefusesNewTable e old new entries tables next after
      → FlushEach new tables (Err (Before e))
  none_each law new tables e w drawn why whole behind d c =
      leaves_none K order (with_files old whole) next after plan manifest entries law (with_files new behind) tables e (writes_too old new whole behind c.stays (name_of (Table next)) w)
      (drawn_too new whole behind c drawn)
      (refuses_too old new (with_files old whole) (with_files new behind) entries tables next after e (same_there new whole behind c) refl refl refl why)

module _ {K : Type 0} (order : Order) (old : Facts) (next after : ℕ) (plan : FlushPlan) (manifest : CurrentManifest) (entries : List Entry) where
  module _ (law : UnreadLaw) (flush : FlushLaw) (same : SameManifestLaw) (mid new : Facts) (placement : Placement) (prepared : Prepared K) (w : Writes old mid (name_of (Table next))) (t : Touches mid new)
      (number : prepared.number ≡ next) (more : after ≡ next + 1) (some : 0 < next) (few : next < 2 ^ 62) (p : HasPrepared order mid after plan entries placement prepared) where
    ready_too : (whole then : Files) → DiffersInTables old.files whole → IsSameChange old.files mid.files whole then → IsFree order whole next → HasPrepared order (with_files mid then) after plan entries placement prepared
    ready_too whole then d c free =
        let num : IsNumbered next = (some, omega (arith, few)) in
        let N : ℕ → Type 0 = λ k. get then (name_of (Table k)) ≡ get mid.files (name_of (Table k)) in
        let O : ℕ → Type 0 = λ k. get then (name_of (OldTable k)) ≡ get mid.files (name_of (OldTable k)) in
        prepared_too order mid then after plan entries placement prepared
        (subst N (sym number) (also old.files mid.files whole then d c (name_of (Table next)) (free_agree order old.files whole next d free (Table next) num refl)))
        (subst O (sym number) (also old.files mid.files whole then d c (name_of (OldTable next)) (free_agree order old.files whole next d free (OldTable next) num refl))) p

    pub ok_each : (end : ℕ) → AppendsEdit order mid new manifest.number (string_bytes manifest.name) manifest.end prepared.edit (Ok end)
        → FlushEach K order old next after plan manifest entries new placement.tables (Ok (record { version = prepared.version; manifest_end = end; number = prepared.number }))
    ok_each end r whole behind d c f dir sealed current can =
        let s = same_change old.files mid.files whole d in
        let stays = stays_since old.files mid.files new.files whole s.0 behind s.1 c in
        leaves_ok order (with_files old whole) next after plan manifest entries law flush same (with_files mid s.0) (with_files new behind) placement prepared
        (writes_too old mid whole s.0 s.1.stays (name_of (Table next)) w) (touches_too mid new s.0 behind stays t) number more some few (ready_too whole s.0 d s.1 can.free) end
        (edit_too order mid new s.0 behind s.2 (differs_after old.files new.files whole behind d c) stays manifest.number (string_bytes manifest.name) manifest.end prepared.edit (Ok end) r)
        f dir sealed current can

    pub maybe_each : (e : DbError) → (e ≡ OutOfMemory) ⊎ (e ≡ Io) → AppendsEdit order mid new manifest.number (string_bytes manifest.name) manifest.end prepared.edit (Err e)
        → FlushEach K order old next after plan manifest entries new placement.tables (Err (edit_refusal e))
    maybe_each e which r whole behind d c f dir sealed current can =
        let s = same_change old.files mid.files whole d in
        let stays = stays_since old.files mid.files new.files whole s.0 behind s.1 c in
        leaves_maybe order (with_files old whole) next after plan manifest entries law flush same (with_files mid s.0) (with_files new behind) placement prepared
        (writes_too old mid whole s.0 s.1.stays (name_of (Table next)) w) (touches_too mid new s.0 behind stays t) number more some few (ready_too whole s.0 d s.1 can.free) e which
        (edit_too order mid new s.0 behind s.2 (differs_after old.files new.files whole behind d c) stays manifest.number (string_bytes manifest.name) manifest.end prepared.edit (Err e) r)
        f dir sealed current can

-- ---- a process crash in the middle

module _ (order : Order) (old : Facts) (next after : ℕ) (plan : FlushPlan) (manifest : CurrentManifest) (entries : List Entry) (tables : List PlacedTable) where
  abbrev pub StoppedEach : Files → Type 0
  StoppedEach files = OfEach (λ whole behind. FlushMayLeave order whole next after plan manifest entries tables behind) old.files files

  -- while the table is written
  pub table_stopped_each : UnreadLaw → (new : Facts) → DrawsTable old new next after → LeavesOnly old new (KeepsBut old.files (λ (q : List ℕ). q ≡ name_of (Table next))) → LeavesOnly old new StoppedEach
  table_stopped_each law new (inl none) w =
      leaves_same old new StoppedEach (ap (λ (x : Facts). x.calls) none.1) (ap (λ (x : Facts). x.files) none.1)
      (λ whole behind d c.
      let same : behind ≡ whole = unchanged_too old.files old.files whole behind c refl in
      (table_stopped order (with_files old whole) next after plan manifest entries tables law (with_files old behind) (inl (none.0, λ i. with_files old (same i)))
      (record { more = []; calls = refl; during = λ files gone. absurd gone; now = λ q out. c.stays q refl })).now)
  table_stopped_each law new (inr drawn) w =
      leaves_so old new (KeepsBut old.files (λ (q : List ℕ). q ≡ name_of (Table next))) StoppedEach
      (λ files kept whole behind d c.
      (table_stopped order (with_files old whole) next after plan manifest entries tables law (with_files old behind) (inr drawn)
      (record { more = []; calls = refl; during = λ fs gone. absurd gone; now = λ q out. c.stays q (kept q out) })).now) w

-- while the edit is
pub flush_stopped_each : {K : Type 0} (order : Order) (old : Facts) (next after : ℕ) (plan : FlushPlan) (manifest : CurrentManifest) (entries : List Entry) → UnreadLaw → FlushLaw → SameManifestLaw → (mid new : Facts) (placement : Placement) (prepared : Prepared K)
    → Writes old mid (name_of (Table next)) → DrawsTable old mid next after → (Touches mid new) → prepared.number ≡ next → after ≡ next + 1 → 0 < next → next < 2 ^ 62 → HasPrepared order mid after plan entries placement prepared
    → LeavesOnly mid new (λ files. AppendsEdit order mid (stopped_at mid files) manifest.number (string_bytes manifest.name) manifest.end prepared.edit (Err Io))
    → IsTrue new.faithful → LeavesOnly old new (StoppedEach order old next after plan manifest entries placement.tables)
flush_stopped_each {K} order old next after plan manifest entries law flush same mid new placement prepared w drawn t number more some few p edit f =
    let faithful = t.faithful f in
    let P = StoppedEach order old next after plan manifest entries placement.tables in
    leaves_both old mid new P (table_stopped_each order old next after plan manifest entries placement.tables law mid drawn (w.calls faithful).leaves)
    (leaves_so mid new _ P
    (λ files left whole behind d c.
    maybe_each {K = K} order old next after plan manifest entries law flush same mid (stopped_at mid files) placement prepared w
    (record { faithful = λ g. faithful; failures = omega arith; denials = refl; locked = refl }) number more some few p Io (inr refl) left whole behind d c refl) edit)
