-- What the removal of obsolete files leaves of the meaning.
use Rattle.std.proofs.Common.{◌≡◌, ◌⊎◌, ℕ, Bool, true, false, List, Some, None, is_some, Result, IsTrue, inl, inr, refl, sym, ap, subst, ◌∙◌, arith}
use Rattle.std.specs.Option.{option_or}
use Rattle.std.specs.FinMap.{get, contains_key}
use Rattle.ikey.specs.Orders.{Order}
use Rattle.coding.specs.declared.error.DbError.{DbError}
use Rattle.store.specs.Files.{Files, Facts}
use Rattle.store.specs.Stops.{LeavesOnly}
use Rattle.store.proofs.Stopping.{leaves_both, leaves_same, leaves_so}
use Rattle.edits.specs.Names.{name_of, IsFileName, IsNumbered}
use Rattle.edits.specs.declared.field.Field.{Field}
use Rattle.edits.specs.declared.layout.Layout.{Layout}
use Rattle.edits.specs.declared.names.FileName.{FileName}
use Rattle.edits.specs.declared.names.FileName.TheVariants.{Current, Log, Manifest, Table, OldTable}
use Rattle.edits.proofs.FileNames.{one_file}
use Rattle.versions.specs.declared.live.LiveNumbers.{LiveNumbers}
use Rattle.recover.specs.Tables.{table_at}
use Rattle.recover.specs.Logs.{LogContent, InLogs, IsLive}
use Rattle.recover.specs.Directory.{Directory, IsConsistent, HasManifest, EndsAt}
use Rattle.recover.specs.internal.Laws.{Agree, FreeChangeLaw}
use Rattle.recover.specs.internal.Changes.{ManifestEndsAt}
use Rattle.recover.specs.Numbers.{IsFree}
use Rattle.recover.proofs.Adding.{last_in, table_of}
use Rattle.recover.proofs.Keeping.{keep_manifest, live_of}
use Rattle.recover.proofs.NewLogs.{log_there}
use Rattle.directory_writes.specs.internal.Calls.{LeavesFile}
use Rattle.directory_writes.specs.Removal.{IsLiveAmong, IsDead}
use Rattle.directory_writes.specs.internal.Removal.{LosesDeadOnly, RemovesDead, AreOfDirectory, KeepsParts, StaysConsistent}
use Rattle.directory_writes.specs.declared.removal.Removal.{Removal}
use Rattle.directory_writes.proofs.Cleaning.{read_newer}
use Rattle.directory_writes.proofs.Losing.{loses_as}

-- each file is as before, or is obsolete and is gone
abbrev pub StaysOrGoes : Files → Files → (FileName → Type 0) → Type 0
StaysOrGoes old new live = (name : List ℕ) → (get new name ≡ get old name) ⊎ (IsDead live name × (get new name ≡ None))

module _ (order : Order) (numbers : LiveNumbers) (in_use : ℕ → Type 0) (old new : Files) (change : StaysOrGoes old new (IsLiveAmong old numbers in_use)) where
  live_kept : (file : FileName) → IsFileName file → IsLiveAmong old numbers in_use file → get new (name_of file) ≡ get old (name_of file)
  live_kept file is alive = elim (change (name_of file)) [
    | inl same ↦ same
    | inr dead ↦ absurd (dead.0.3 (subst (IsLiveAmong old numbers in_use) (one_file file dead.0.0 is dead.0.1 dead.0.2) alive))
  ]

  table_kept : (n : ℕ) → IsNumbered n → in_use n → table_at new n ≡ table_at old n
  table_kept n num used = by (contains_key old (name_of (Table n))) refl
    where
      newer : get new (name_of (Table n)) ≡ get old (name_of (Table n))
      newer = live_kept (Table n) num used

      by : (t : Bool) → contains_key old (name_of (Table n)) ≡ t → table_at new n ≡ table_at old n
      by true there = read_newer (get old (name_of (Table n))) (get old (name_of (OldTable n))) (get new (name_of (Table n))) (get new (name_of (OldTable n))) newer there
      by false absent =
          let older = live_kept (OldTable n) num (used, λ has. let clash : true ≡ false = sym has.0 ∙ absent in cc) in
          λ i. option_or (newer i) (older i)

  there_before : (q : List ℕ) → contains_key new q ≡ true → contains_key old q ≡ true
  there_before q there = elim (change q) [
    | inl same ↦ ap is_some (sym same) ∙ there
    | inr dead ↦ (let clash : false ≡ true = ap is_some (sym dead.1) ∙ there in absurd (cc))
  ]

  manifest_before : (m : ℕ) (edits : List (List Field)) (layout : Layout) → HasManifest order new m edits layout → HasManifest order old m edits layout
  manifest_before m edits layout has =
      let current = live_kept Current tt tt in
      elim (change (name_of (Manifest m))) [
        | inl same ↦ keep_manifest order new old m edits layout (sym current) (sym same) has
        | inr dead ↦ (let clash : None ≡ Some has.bytes = sym dead.1 ∙ has.there in absurd (cc))
      ]

  free_still : (n : ℕ) → IsFree order old n → IsFree order new n
  free_still n free = record {
    some = free.some;
    listed = λ file is there. free.listed file is (there_before (name_of file) there);
    recorded = λ m edits layout has. free.recorded m edits layout (manifest_before m edits layout has);
  }

  module _ (d : Directory) (h : IsConsistent order old d) (are : AreOfDirectory numbers in_use d) where
    log_kept : (n : ℕ) → IsNumbered n → IsLive d.layout n → get new (name_of (Log n)) ≡ get old (name_of (Log n))
    log_kept n num (inl le) = live_kept (Log n) num (inl (omega (arith, are.log_number, le)))
    log_kept n num (inr previous) = live_kept (Log n) num (inr (previous.0 ∙ sym are.previous_log_number))

    manifest_kept : get new (name_of (Manifest d.manifest)) ≡ get old (name_of (Manifest d.manifest))
    manifest_kept = live_kept (Manifest d.manifest) h.manifest.numbered (sym are.manifest)

    agree : Agree old new d
    agree = record {
      current = live_kept Current tt tt;
      manifest = manifest_kept;
      logs = log_kept;
      tables = λ content i. table_kept content.placed.table.number (table_of order old d.tables content h.tables i) (are.tables content i);
    }

    log_ends : (number position : ℕ) → EndsAt old d number position → EndsAt new d number position
    log_ends number position e =
        let P : List LogContent → Type 0 = λ contents. InLogs contents e.last.number in
        let there : InLogs d.logs e.last.number = subst P (sym e.logs) (last_in e.before e.last) in
        let Q : ℕ → Type 0 = λ n. get new (name_of (Log n)) ≡ get old (name_of (Log n)) in
        let same = subst Q e.number (log_kept e.last.number (log_there old d.logs e.last.number h.logs there).0 (live_of d.layout d.logs e.last.number h.live there)) in
        record { before = e.before; last = e.last; logs = e.logs; number = e.number; clean = e.clean; bytes = e.bytes; there = same ∙ e.there; length = e.length }

    manifest_ends : (position : ℕ) (edits : List (List Field)) (layout : Layout) → ManifestEndsAt order old d.manifest position edits layout → ManifestEndsAt order new d.manifest position edits layout
    manifest_ends position edits layout e =
        let m = e.manifest in
        record {
          manifest = record { numbered = m.numbered; current = live_kept Current tt tt ∙ m.current; bytes = m.bytes; there = manifest_kept ∙ m.there; spelled = m.spelled };
          clean = e.clean;
          length = e.length;
        }

    pub keeps_parts : FreeChangeLaw → KeepsParts order old new in_use d
    keeps_parts law = record {
      consistent = law order old new d agree h;
      log = log_ends;
      manifest = manifest_ends;
      tables = table_kept;
      free = free_still;
    }

stays_or_goes : (old new : Facts) (live : FileName → Type 0) → ((q : List ℕ) → LeavesFile old new q ⊎ (IsDead live q × (get new.files q ≡ None))) → StaysOrGoes old.files new.files live
stays_or_goes old new live files q = elim (files q) [
  | inl same ↦ inl same.0
  | inr dead ↦ inr dead
]

-- what is left of the files keeps the parts
pub keeps_meaning : (numbers : LiveNumbers) (in_use : ℕ → Type 0) (old new : Facts) (r : Result Removal DbError) → RemovesDead old new (IsLiveAmong old.files numbers in_use) r → FreeChangeLaw → IsTrue new.faithful
    → (order : Order) (d : Directory) → IsConsistent order old.files d → AreOfDirectory numbers in_use d → KeepsParts order old.files new.files in_use d
keeps_meaning numbers in_use old new r removes law f order d h are =
    keeps_parts order numbers in_use old.files new.files (stays_or_goes old new (IsLiveAmong old.files numbers in_use) (removes.files f)) d h are law

-- ---- a process crash in the middle

module _ (numbers : LiveNumbers) (in_use : ℕ → Type 0) (old mid : Facts) (calls : mid.calls ≡ old.calls) (same : mid.files ≡ old.files) where
  -- before anything is removed
  pub meaning_unstopped : LeavesOnly old mid (StaysConsistent numbers in_use old.files)
  meaning_unstopped = leaves_same old mid (StaysConsistent numbers in_use old.files) calls same (λ order d h are. h)

  pub meaning_stopped : FreeChangeLaw → (live : FileName → Type 0) → ((file : FileName) → IsFileName file → IsLiveAmong old.files numbers in_use file → live file) → (new : Facts) → LeavesOnly mid new (LosesDeadOnly mid.files live)
      → LeavesOnly old new (StaysConsistent numbers in_use old.files)
  meaning_stopped law live back new h =
      leaves_both old mid new (StaysConsistent numbers in_use old.files) meaning_unstopped
      (leaves_so mid new (LosesDeadOnly mid.files live) (StaysConsistent numbers in_use old.files)
      (λ files left order d h are.
      (keeps_parts order numbers in_use old.files files
      (loses_as live (IsLiveAmong old.files numbers in_use) back old.files files (subst (λ (fs : Files). LosesDeadOnly fs live files) same left)) d h are law).consistent) h)
