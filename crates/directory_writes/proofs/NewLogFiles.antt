-- An empty log after the others.
use Rattle.std.proofs.Common.{◌≡◌, ◌⊎◌, ℕ, ◌+◌, ◌<◌, ◌≤◌, Bool, true, false, cond, List, [], ◌∷◌, Some, is_some, Result, Ok, Err, IsTrue, OnOk, OnErr, inl, inr, refl, sym, ap, subst, ◌∙◌, arith}
use Rattle.std.specs.List.{AllByRecursion}
use Rattle.std.specs.Cmp.Lexicographic.{slice_cmp, nat_list_cmp_total}
use Rattle.std.specs.Ordering.{nat_cmp, eq_by_cmp}
use Rattle.std.specs.FinMap.{get, insert, contains_key, get-insert}
use Rattle.coding.specs.declared.error.DbError.{DbError}
use Rattle.coding.specs.declared.error.DbError.TheVariants.{OutOfMemory, Io}
use Rattle.store.specs.Files.{Files, Facts}
use Rattle.store.specs.Stops.{LeavesOnly}
use Rattle.store.proofs.Stopping.{leaves_same, leaves_so}
use Rattle.ikey.specs.Orders.{Order}
use Rattle.edits.specs.Layout.{fields_of}
use Rattle.edits.specs.Names.{name_of, IsNumbered}
use Rattle.edits.specs.declared.field.Field.{Field}
use Rattle.edits.specs.declared.field.Field.TheVariants as field
use Rattle.edits.specs.declared.layout.Layout.{Layout}
use Rattle.edits.specs.declared.names.FileName.TheVariants.{Current, Log, Manifest}
use Rattle.edits.proofs.FileNames.{one_file}
use Rattle.table.specs.Writing.{KeepsOthers}
use Rattle.recover.specs.Directory.{Directory, IsConsistent, HasManifest}
use Rattle.recover.specs.internal.Changes.{ManifestEndsAt, BeginLogLaw}
use Rattle.recover.specs.Numbers.{NamesBelow, IsFree, number_of}
use Rattle.recover.proofs.NamedFiles.{get_other, same_name}
use Rattle.recover.proofs.Adding.{current_apart, manifest_apart}
use Rattle.recover.proofs.Keeping.{keep_manifest}
use Rattle.directory_writes.specs.internal.Calls.{Creates}
use Rattle.directory_writes.specs.internal.LogFile.{HasNewLog, BeginsLog, MayHaveLog}

-- ---- the MANIFEST stays

module _ (order : Order) (files : Files) (number : ℕ) (numbered : IsNumbered number) where
  abbrev with_new : Files
  with_new = insert files (name_of (Log number)) []

  current_kept : get with_new (name_of Current) ≡ get files (name_of Current)
  current_kept = get_other files (name_of (Log number)) [] (name_of Current) (current_apart number numbered)

  manifest_kept : (m : ℕ) → IsNumbered m → get with_new (name_of (Manifest m)) ≡ get files (name_of (Manifest m))
  manifest_kept m num = get_other files (name_of (Log number)) [] (name_of (Manifest m)) (manifest_apart m number num numbered)

  ends_kept : (m end : ℕ) (edits : List (List Field)) (layout : Layout) → ManifestEndsAt order files m end edits layout → ManifestEndsAt order with_new m end edits layout
  ends_kept m end edits layout h =
      let e = h.manifest in
      record {
        manifest = record { numbered = e.numbered; current = current_kept ∙ e.current; bytes = e.bytes; there = manifest_kept m e.numbered ∙ e.there; spelled = e.spelled };
        clean = h.clean;
        length = h.length;
      }

  manifest_before : (m : ℕ) (edits : List (List Field)) (layout : Layout) → HasManifest order with_new m edits layout → HasManifest order files m edits layout
  manifest_before m edits layout h = keep_manifest order with_new files m edits layout (sym current_kept) (sym (manifest_kept m h.numbered)) h

-- ---- free numbers

below_more : (n : ℕ) (f : Field) → NamesBelow n f → NamesBelow (n + 1) f
below_more n (field.Comparator name) h = tt
below_more n (field.LogNumber m) h = omega (arith, h)
below_more n (field.NextFileNumber m) h = tt
below_more n (field.LastSequence m) h = tt
below_more n (field.CompactPointer level key) h = tt
below_more n (field.DeletedFile level m) h = omega (arith, h)
below_more n (field.NewFile placed) h = omega (arith, h)
below_more n (field.PreviousLogNumber m) h = omega (arith, h)

all_below_more : (n : ℕ) (fields : List Field) → AllByRecursion (NamesBelow n) fields → AllByRecursion (NamesBelow (n + 1)) fields
all_below_more n [] h = tt
all_below_more n (f ∷ fields) h = (below_more n f h.0, all_below_more n fields h.1)

there_or : (b : Bool) (files : Files) (name q : List ℕ) → eq_by_cmp (slice_cmp nat_cmp) q name ≡ b → is_some (cond b (Some []) (get files q)) ≡ true → (q ≡ name) ⊎ (contains_key files q ≡ true)
there_or true files name q is there = inl (same_name q name is)
there_or false files name q is there = inr there

listed_with : (files : Files) (name q : List ℕ) → contains_key (insert files name []) q ≡ true → (q ≡ name) ⊎ (contains_key files q ≡ true)
listed_with files name q there =
    there_or (eq_by_cmp (slice_cmp nat_cmp) q name) files name q refl (ap is_some (sym (get-insert nat_list_cmp_total files name [] q)) ∙ there)

-- above a free number all are free, whether the log is there or not
module _ (order : Order) (files : Files) (number : ℕ) (free : IsFree order files number) where
  pub recorded_more : (m : ℕ) (edits : List (List Field)) (layout : Layout) → HasManifest order files m edits layout
      → (layout.next_file_number ≤ number + 1) × (layout.log_number < number + 1) × (layout.previous_log_number < number + 1) × AllByRecursion (NamesBelow (number + 1)) (fields_of edits)
  recorded_more m edits layout has =
      let r = free.recorded m edits layout has in
      (omega (arith, r.0), omega (arith, r.1), omega (arith, r.2), all_below_more number (fields_of edits) r.3)

  free_more : IsFree order files (number + 1)
  free_more = record {
    some = omega arith;
    listed = λ file is there. (let below : number_of file < number = free.listed file is there in omega (arith, below));
    recorded = recorded_more;
  }

  free_with_log : IsNumbered number → IsFree order (insert files (name_of (Log number)) []) (number + 1)
  free_with_log numbered = record {
    some = omega arith;
    listed = λ file is there. elim (listed_with files (name_of (Log number)) (name_of file) there) [
      | inl same ↦ let e : number_of file ≡ number = ap number_of (one_file file (Log number) is numbered same) in omega (arith, e)
      | inr old ↦ let below : number_of file < number = free.listed file is old in omega (arith, below)
    ];
    recorded = λ m edits layout has. recorded_more m edits layout (manifest_before order files number numbered m edits layout has);
  }

-- ---- the log

new_log : (order : Order) (files : Files) (d : Directory) (number : ℕ) → BeginLogLaw → IsNumbered number → IsConsistent order files d → IsFree order files number
    → HasNewLog order (insert files (name_of (Log number)) []) d number
new_log order files d number law numbered h free =
    let below : d.layout.log_number < number = (free.recorded d.manifest d.edits d.layout h.manifest).1 in
    let said = law order files d number h numbered (inl (omega (arith, below))) (λ n num there. free.listed (Log n) num there) in
    record { consistent = said.0; ends = said.1; entries = said.2 }

-- the log is there or not
abbrev pub MayBegin : Files → Files → ℕ → Type 0
MayBegin old new number = (new ≡ old) ⊎ (new ≡ insert old (name_of (Log number)) [])

on_ok : {T E P Q : Type 0} (r : Result T E) → (P → Q) → OnOk r P → OnOk r Q
on_ok (Ok x) f p = f p
on_ok (Err e) f p = tt

on_err : {T E P : Type 0} (r : Result T E) → P → OnErr r P
on_err (Ok x) p = tt
on_err (Err e) p = p

module _ (order : Order) (law : BeginLogLaw) (number : ℕ) (numbered : IsNumbered number) where
  maybe_new : (old new : Files) → MayBegin old new number → (d : Directory) → IsConsistent order old d → IsFree order old number → IsConsistent order new d ⊎ HasNewLog order new d number
  maybe_new old new (inl same) d h free = let P : Files → Type 0 = λ fs. IsConsistent order fs d in inl (subst P (sym same) h)
  maybe_new old new (inr made) d h free = let P : Files → Type 0 = λ fs. HasNewLog order fs d number in inr (subst P (sym made) (new_log order old d number law numbered h free))

  maybe_ends : (old new : Files) → MayBegin old new number → (m end : ℕ) (edits : List (List Field)) (layout : Layout) → ManifestEndsAt order old m end edits layout → ManifestEndsAt order new m end edits layout
  maybe_ends old new (inl same) m end edits layout h = let P : Files → Type 0 = λ fs. ManifestEndsAt order fs m end edits layout in subst P (sym same) h
  maybe_ends old new (inr made) m end edits layout h = let P : Files → Type 0 = λ fs. ManifestEndsAt order fs m end edits layout in subst P (sym made) (ends_kept order old number numbered m end edits layout h)

  maybe_others : (old new : Files) → MayBegin old new number → KeepsOthers old new (name_of (Log number))
  maybe_others old new (inl same) q apart = ap (λ (fs : Files). get fs q) same
  maybe_others old new (inr made) q apart = ap (λ (fs : Files). get fs q) made ∙ get_other old (name_of (Log number)) [] q apart

  maybe_free : (old new : Files) → MayBegin old new number → IsFree order old number → IsFree order new (number + 1)
  maybe_free old new (inl same) free = let P : Files → Type 0 = λ fs. IsFree order fs (number + 1) in subst P (sym same) (free_more order old number free)
  maybe_free old new (inr made) free = let P : Files → Type 0 = λ fs. IsFree order fs (number + 1) in subst P (sym made) (free_with_log order old number free numbered)

  pub begins : {T : Type 0} (old new : Facts) (after : ℕ) (r : Result T DbError) → after ≡ number + 1 → (IsTrue new.faithful → MayBegin old.files new.files number)
      → (IsTrue new.faithful → OnOk r (new.files ≡ insert old.files (name_of (Log number)) [])) → BeginsLog order old new number after r
  begins old new after r is may made = record {
    ok = λ f.
        let P : Files → Type 0 = λ fs. (d : Directory) → IsConsistent order old.files d → IsFree order old.files number → HasNewLog order fs d number in
        on_ok r (λ same. subst P (sym same) (λ d h free. new_log order old.files d number law numbered h free)) (made f);
    err = λ f. on_err r (maybe_new old.files new.files (may f));
    manifest = λ f. maybe_ends old.files new.files (may f);
    others = λ f. maybe_others old.files new.files (may f);
    free = λ f free. let P : ℕ → Type 0 = λ n. IsFree order new.files n in subst P (sym is) (maybe_free old.files new.files (may f) free);
  }

-- the file was made or not
pub maybe_made : (old new : Facts) (number : ℕ) (e : DbError) → (e ≡ OutOfMemory) ⊎ (e ≡ Io) → Creates old new (name_of (Log number)) (Err e) → IsTrue new.faithful → MayBegin old.files new.files number
maybe_made old new number e (inl memory) made f = inl (made.memory f (ap (λ (x : DbError). Err x) memory)).0
maybe_made old new number e (inr io) made f = made.io f (ap (λ (x : DbError). Err x) io)

-- ---- a process crash in the middle

module _ (order : Order) (number : ℕ) (old : Facts) where
  pub log_unstopped : (new : Facts) → new ≡ old → LeavesOnly old new (MayHaveLog order old.files number)
  log_unstopped new is = leaves_same old new (MayHaveLog order old.files number) (ap (λ (f : Facts). f.calls) is) (ap (λ (f : Facts). f.files) is) (λ d h free. inl h)

  pub log_stopped : BeginLogLaw → IsNumbered number → (name : List ℕ) → name ≡ name_of (Log number) → (new : Facts) → LeavesOnly old new (λ files. (files ≡ old.files) ⊎ (files ≡ insert old.files name []))
      → LeavesOnly old new (MayHaveLog order old.files number)
  log_stopped law numbered name named new h =
      leaves_so old new (λ files. (files ≡ old.files) ⊎ (files ≡ insert old.files name [])) (MayHaveLog order old.files number)
      (λ files left. maybe_new order law number numbered old.files files (subst (λ (q : List ℕ). (files ≡ old.files) ⊎ (files ≡ insert old.files q [])) named left)) h
