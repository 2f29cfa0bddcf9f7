-- A whole flush, by what its calls say.
use Rattle.std.proofs.Common.{◌≡◌, ◌⊎◌, ◌<◌, ◌+◌, ◌^◌, ℕ, List, Ok, Err, IsTrue, string_bytes, inl, inr, refl, sym, ap, subst, ◌∙◌, arith}
use Rattle.std.specs.FinMap.{get}
use Rattle.coding.specs.declared.error.DbError.{DbError}
use Rattle.coding.specs.declared.error.DbError.TheVariants.{OutOfMemory, Io}
use Rattle.store.specs.Files.{Files, Facts}
use Rattle.store.specs.Stops.{KeepsBut, LeavesOnly, stopped_at}
use Rattle.store.proofs.Stopping.{leaves_both, leaves_same, leaves_so}
use Rattle.ikey.specs.declared.entry.Entry.{Entry}
use Rattle.ikey.specs.Orders.{Order}
use Rattle.edits.specs.Names.{name_of, IsNumbered}
use Rattle.edits.specs.declared.field.PlacedTable.{PlacedTable}
use Rattle.edits.specs.declared.names.FileName.TheVariants.{Table}
use Rattle.table.specs.Writing.{KeepsOthers, SyncsOnly, Writes}
use Rattle.versions.specs.Levels.{Placement}
use Rattle.recover.specs.Logs.{LogContent}
use Rattle.recover.specs.Directory.{Directory}
use Rattle.recover.specs.internal.Changes.{FlushLaw, SameManifestLaw, UnreadLaw}
use Rattle.directory_writes.specs.internal.Calls.{Touches}
use Rattle.directory_writes.specs.internal.Flush.{CanFlush, DrawsTable, FlushTouches, FlushLeaves, FlushMayLeave, FlushMeans, MayBeFlushed, HasPrepared, IsUnflushed, RefusesNewTable, SyncsFlush, edit_refusal}
use Rattle.directory_writes.specs.internal.Level0.{IsLevel0}
use Rattle.directory_writes.specs.internal.Manifest.{AppendsEdit, SyncsEdit}
use Rattle.directory_writes.specs.declared.flush.FlushError.TheVariants.{Before}
use Rattle.directory_writes.specs.declared.flush.FlushPlan.{FlushPlan}
use Rattle.directory_writes.specs.declared.flush.Prepared.{Prepared}
use Rattle.directory_writes.specs.declared.manifest.CurrentManifest.{CurrentManifest}
use Rattle.directory_writes.proofs.TableEdits.{flushed_ok, maybe_flushed, unflushed_still}
use Rattle.directory_writes.proofs.TableFiles.{not_corrupt, unflushed, unflushed_yet}

-- ---- which files change

pub touches_table : (old new : Facts) (table manifest : List ℕ) → Writes old new table → FlushTouches old new table manifest
touches_table old new table manifest w = record {
  faithful = w.faithful;
  failures = w.failures;
  denials = w.denials;
  locked = w.locked;
  others = λ f name apart other. w.others f name apart;
  synced = λ f name apart other. w.synced f name apart;
}

pub touches_both : (old mid new : Facts) (table manifest : List ℕ) → Writes old mid table → Touches mid new → (IsTrue new.faithful → KeepsOthers mid.files new.files manifest)
    → (IsTrue new.faithful → SyncsOnly mid.synced new.synced manifest) → FlushTouches old new table manifest
touches_both old mid new table manifest w t others synced = record {
  faithful = λ f. w.faithful (t.faithful f);
  failures = omega (arith, w.failures, t.failures);
  denials = t.denials ∙ w.denials;
  locked = t.locked ∙ w.locked;
  others = λ f name apart other. others f name other ∙ w.others (t.faithful f) name apart;
  synced = λ f name apart other. synced f name other ∙ w.synced (t.faithful f) name apart;
}

pub syncs_both : {T E : Type 0} (mid new : Facts) (number n : ℕ) (manifest : List ℕ) (value : T) → number ≡ n → (IsTrue new.faithful → IsTrue mid.faithful)
    → (IsTrue mid.faithful → mid.synced (name_of (Table number)) ≡ get mid.files (name_of (Table number))) → (IsTrue new.faithful → KeepsOthers mid.files new.files manifest)
    → (end : ℕ) → SyncsEdit mid new manifest (Ok end) → SyncsFlush {T = T} {E = E} new (name_of (Table n)) manifest (Ok value)
syncs_both mid new number n manifest value is back synced others end s =
    let whole : IsTrue mid.faithful → mid.synced (name_of (Table n)) ≡ get mid.files (name_of (Table n)) = subst (λ (k : ℕ). IsTrue mid.faithful → mid.synced (name_of (Table k)) ≡ get mid.files (name_of (Table k))) is synced in
    record {
      table = λ f apart. s.others f (name_of (Table n)) apart ∙ whole (back f) ∙ sym (others f (name_of (Table n)) apart);
      manifest = s.ok;
    }

-- ---- what the directory means

numbered_by : (n : ℕ) → 0 < n → n < 2 ^ 62 → IsNumbered n
numbered_by n some few = (some, omega (arith, few))

module _ (K : Type 0) (order : Order) (old : Facts) (next after : ℕ) (plan : FlushPlan) (manifest : CurrentManifest) (entries : List Entry) where
  -- the table isn't ready
  pub leaves_none : UnreadLaw → (new : Facts) (tables : List PlacedTable) (e : DbError) → Writes old new (name_of (Table next)) → DrawsTable old new next after → RefusesNewTable e old new entries tables next after
      → FlushLeaves {K = K} order old new next after plan manifest entries tables (Err (Before e))
  leaves_none law new tables e w (inl none) why f d sealed current can =
      let P : Files → Type 0 = λ fs. IsUnflushed order old.files fs after plan manifest entries tables d sealed current in
      let N : ℕ → Type 0 = λ k. IsUnflushed order old.files old.files k plan manifest entries tables d sealed current in (
        not_corrupt order old.files next after plan manifest entries tables d sealed current old new e can why,
        subst P (sym (ap (λ (x : Facts). x.files) none.1)) (subst N (sym none.0) (unflushed_yet order old.files next plan manifest entries tables d sealed current can)),
      )
  leaves_none law new tables e w (inr drawn) why f d sealed current can =
      let N : ℕ → Type 0 = λ k. IsUnflushed order old.files new.files k plan manifest entries tables d sealed current in (
        not_corrupt order old.files next after plan manifest entries tables d sealed current old new e can why,
        subst N (sym drawn.0) (unflushed order old.files new.files next (numbered_by next drawn.1 drawn.2) (w.others f) plan manifest entries tables d sealed current can law),
      )

module _ {K : Type 0} (order : Order) (old : Facts) (next after : ℕ) (plan : FlushPlan) (manifest : CurrentManifest) (entries : List Entry) where
  module _ (law : UnreadLaw) (flush : FlushLaw) (same : SameManifestLaw) (mid new : Facts) (placement : Placement) (prepared : Prepared K) (w : Writes old mid (name_of (Table next))) (t : Touches mid new)
      (number : prepared.number ≡ next) (more : after ≡ next + 1) (some : 0 < next) (few : next < 2 ^ 62) (p : HasPrepared order mid after plan entries placement prepared) where
    written : IsTrue mid.faithful → IsLevel0 order mid.files next entries p.table
    written f = subst (λ (k : ℕ). IsLevel0 order mid.files k entries p.table) number (p.written f)

    still : IsTrue mid.faithful → (d : Directory) (sealed : List LogContent) (current : LogContent) → CanFlush order old.files next plan manifest entries placement.tables d sealed current
        → IsUnflushed order old.files mid.files after plan manifest entries placement.tables d sealed current
    still f d sealed current can =
        let N : ℕ → Type 0 = λ k. IsUnflushed order old.files mid.files k plan manifest entries placement.tables d sealed current in
        subst N (sym more) (unflushed order old.files mid.files next (numbered_by next some few) (w.others f) plan manifest entries placement.tables d sealed current can law)

    pub leaves_ok : (end : ℕ) → AppendsEdit order mid new manifest.number (string_bytes manifest.name) manifest.end prepared.edit (Ok end)
        → FlushLeaves {K = K} order old new next after plan manifest entries placement.tables (Ok (record { version = prepared.version; manifest_end = end; number = prepared.number }))
    leaves_ok end r f d sealed current can =
        let g = t.faithful f in
        flushed_ok order old.files mid next after few more plan manifest entries placement.tables d sealed current can (still g d sealed current can) p.table (p.number_is ∙ number) (written g)
        prepared.edit p.fields p.limit flush new end prepared.version.value.tables f r p.leads

    pub leaves_maybe : (e : DbError) → (e ≡ OutOfMemory) ⊎ (e ≡ Io) → AppendsEdit order mid new manifest.number (string_bytes manifest.name) manifest.end prepared.edit (Err e)
        → FlushLeaves {K = K} order old new next after plan manifest entries placement.tables (Err (edit_refusal e))
    leaves_maybe e which r f d sealed current can =
        let g = t.faithful f in
        let M : DbError → Type 0 = λ x. FlushMeans {K = K} order old.files new.files next after plan manifest entries placement.tables d sealed current (Err (edit_refusal x)) in
        let A : DbError → Type 0 = λ x. AppendsEdit order mid new manifest.number (string_bytes manifest.name) manifest.end prepared.edit (Err x) in
        elim which [
          | inl memory ↦ subst M (sym memory) (
            λ corrupt. corrupt,
            unflushed_still order old.files mid next after few more plan manifest entries placement.tables d sealed current can (still g d sealed current can) p.table (p.number_is ∙ number)
                (written g) prepared.edit p.fields p.limit new f (subst A memory r),
          )
          | inr io ↦ subst M (sym io) (maybe_flushed order old.files mid next after few more plan manifest entries placement.tables d sealed current can (still g d sealed current can) p.table (p.number_is ∙ number)
              (written g) prepared.edit p.fields p.limit flush same new f (subst A io r))
        ]

-- ---- a process crash in the middle

module _ (order : Order) (old : Facts) (next after : ℕ) (plan : FlushPlan) (manifest : CurrentManifest) (entries : List Entry) (tables : List PlacedTable) where
  abbrev pub StoppedFlush : Files → Type 0
  StoppedFlush = FlushMayLeave order old.files next after plan manifest entries tables

  still_same : (files : Files) (d : Directory) (sealed : List LogContent) (current : LogContent) → IsUnflushed order old.files files after plan manifest entries tables d sealed current
      → MayBeFlushed order old.files files next after entries d sealed current
  still_same files d sealed current h = record { either = inl (h.can.consistent, h.kept); free = h.can.free }

  -- while the table is written
  pub table_stopped : UnreadLaw → (new : Facts) → DrawsTable old new next after → LeavesOnly old new (KeepsBut old.files (λ (q : List ℕ). q ≡ name_of (Table next))) → LeavesOnly old new StoppedFlush
  table_stopped law new (inl none) w =
      leaves_same old new StoppedFlush (ap (λ (x : Facts). x.calls) none.1) (ap (λ (x : Facts). x.files) none.1)
      (λ d sealed current can.
      let N : ℕ → Type 0 = λ k. IsUnflushed order old.files old.files k plan manifest entries tables d sealed current in
      still_same old.files d sealed current (subst N (sym none.0) (unflushed_yet order old.files next plan manifest entries tables d sealed current can)))
  table_stopped law new (inr drawn) w =
      leaves_so old new (KeepsBut old.files (λ (q : List ℕ). q ≡ name_of (Table next))) StoppedFlush
      (λ files kept d sealed current can.
      let N : ℕ → Type 0 = λ k. IsUnflushed order old.files files k plan manifest entries tables d sealed current in
      still_same files d sealed current (subst N (sym drawn.0) (unflushed order old.files files next (numbered_by next drawn.1 drawn.2) kept plan manifest entries tables d sealed current can law))) w

-- while the edit is
pub flush_stopped : {K : Type 0} (order : Order) (old : Facts) (next after : ℕ) (plan : FlushPlan) (manifest : CurrentManifest) (entries : List Entry) → UnreadLaw → FlushLaw → SameManifestLaw → (mid new : Facts) (placement : Placement) (prepared : Prepared K)
    → Writes old mid (name_of (Table next)) → DrawsTable old mid next after → (Touches mid new) → prepared.number ≡ next → after ≡ next + 1 → 0 < next → next < 2 ^ 62 → HasPrepared order mid after plan entries placement prepared
    → LeavesOnly mid new (λ files. AppendsEdit order mid (stopped_at mid files) manifest.number (string_bytes manifest.name) manifest.end prepared.edit (Err Io))
    → IsTrue new.faithful → LeavesOnly old new (StoppedFlush order old next after plan manifest entries placement.tables)
flush_stopped {K} order old next after plan manifest entries law flush same mid new placement prepared w drawn t number more some few p edit f =
    let faithful = t.faithful f in
    let P = StoppedFlush order old next after plan manifest entries placement.tables in
    leaves_both old mid new P (table_stopped order old next after plan manifest entries placement.tables law mid drawn (w.calls faithful).leaves)
    (leaves_so mid new _ P
    (λ files left.
    leaves_maybe {K = K} order old next after plan manifest entries law flush same mid (stopped_at mid files) placement prepared w
    (record { faithful = λ g. faithful; failures = omega arith; denials = refl; locked = refl }) number more some few p Io (inr refl) left refl) edit)
