-- An edit after the MANIFEST.
use Rattle.std.proofs.Common.{◌≡◌, ◌⊎◌, ℕ, ◌+◌, ◌-◌, ◌<◌, ◌≤◌, ◌%◌, Bool, true, false, cond, List, [], ◌∷◌, ◌++◌, length, take, Some, is_some, Ok, Err, IsTrue, inl, inr, refl, sym, ap, subst, ◌∙◌, arith}
use Rattle.std.specs.List.{AllByRecursion}
use Rattle.std.specs.Cmp.Lexicographic.{slice_cmp, nat_list_cmp_total}
use Rattle.std.specs.Ordering.{nat_cmp, eq_by_cmp}
use Rattle.std.specs.FinMap.{get, insert, contains_key, get-insert}
use Rattle.std.proofs.lemmas.Bool.{cases_lt}
use Rattle.std.proofs.lemmas.List.{take_all}
use Rattle.coding.specs.declared.error.DbError.{DbError}
use Rattle.coding.specs.declared.error.DbError.TheVariants.{OutOfMemory, Io}
use Rattle.store.specs.Files.{Files, Facts, Appends, AppendsBeginning}
use Rattle.store.specs.Stops.{LeavesOnly, stopped_at}
use Rattle.store.proofs.Stopping.{leaves_same, leaves_so}
use Rattle.ikey.specs.Orders.{Order}
use Rattle.logfile.specs.Log.{IsLog, IsWritten}
use Rattle.logfile.specs.Appends.{room_behind, tail_after}
use Rattle.logfile.specs.declared.record.Tail.TheVariants.{Clean}
use Rattle.edits.specs.Edit.{IsEdit}
use Rattle.edits.specs.Layout.{fields_of}
use Rattle.edits.specs.Names.{name_of}
use Rattle.edits.specs.declared.field.Field.{Field}
use Rattle.edits.specs.declared.layout.Layout.{Layout}
use Rattle.edits.specs.declared.names.FileName.TheVariants.{Manifest}
use Rattle.table.specs.Writing.{KeepsOthers}
use Rattle.recover.specs.Directory.{HasManifest}
use Rattle.recover.specs.internal.Laws.{AddsRecord, AddsAllOrNothing, OneManifestLaw}
use Rattle.recover.specs.internal.Changes.{ManifestEndsAt, EditLaw, FailedEditLaw}
use Rattle.recover.specs.Numbers.{NamesBelow, IsFree}
use Rattle.recover.proofs.NamedFiles.{get_other, same_name}
use Rattle.directory_writes.specs.internal.Calls.{AppendsSynced}
use Rattle.directory_writes.specs.internal.Manifest.{CanAddEdit, IsRecordedBelow, AppendsEdit}

-- ---- names

there_at : (b : Bool) (files : Files) (name text before q : List ℕ) → get files name ≡ Some before → eq_by_cmp (slice_cmp nat_cmp) q name ≡ b → is_some (cond b (Some text) (get files q)) ≡ is_some (get files q)
there_at true files name text before q there is =
    let same : q ≡ name = same_name q name is in
    sym (ap (λ (n : List ℕ). is_some (get files n)) same ∙ ap is_some there)
there_at false files name text before q there is = refl

-- another text in a file that is there leaves the names
same_there : (files : Files) (name text before q : List ℕ) → get files name ≡ Some before → contains_key (insert files name text) q ≡ contains_key files q
same_there files name text before q there =
    ap is_some (get-insert nat_list_cmp_total files name text q) ∙ there_at (eq_by_cmp (slice_cmp nat_cmp) q name) files name text before q there refl

-- ---- fields

all-append : (P : Field → Type 0) (xs ys : List Field) → AllByRecursion P xs → AllByRecursion P ys → AllByRecursion P (xs ++ ys)
all-append P [] ys a b = b
all-append P (x ∷ xs) ys a b = (a.0, all-append P xs ys a.1 b)

all_in_front : (P : Field → Type 0) (xs ys : List Field) → AllByRecursion P (xs ++ ys) → AllByRecursion P xs
all_in_front P [] ys a = tt
all_in_front P (x ∷ xs) ys a = (a.0, all_in_front P xs ys a.1)

all_behind : (P : Field → Type 0) (xs ys : List Field) → AllByRecursion P (xs ++ ys) → AllByRecursion P ys
all_behind P [] ys a = a
all_behind P (x ∷ xs) ys a = all_behind P xs ys a.1

all_with : (P : Field → Type 0) (edits : List (List Field)) (edit : List Field) → AllByRecursion P (fields_of edits) → AllByRecursion P edit → AllByRecursion P (fields_of (edits ++ edit ∷ []))
all_with P [] edit a b = all-append P edit [] b tt
all_with P (e ∷ edits) edit a b =
    all-append P e (fields_of (edits ++ edit ∷ [])) (all_in_front P e (fields_of edits) a) (all_with P edits edit (all_behind P e (fields_of edits) a) b)

-- ---- free numbers

-- the numbers that a MANIFEST records are below this one
abbrev Records : ℕ → List (List Field) → Layout → Type 0
Records n edits layout = (layout.next_file_number ≤ n) × (layout.log_number < n) × (layout.previous_log_number < n) × AllByRecursion (NamesBelow n) (fields_of edits)

-- what is free stays so where the MANIFEST says something else
free_with : (order : Order) (files : Files) (number : ℕ) (name text before : List ℕ) (edits : List (List Field)) (layout : Layout) → OneManifestLaw → get files name ≡ Some before
    → HasManifest order (insert files name text) number edits layout → (n : ℕ) → IsFree order files n → Records n edits layout → IsFree order (insert files name text) n
free_with order files number name text before edits layout one there has n free r = record {
  some = free.some;
  listed = λ file is listed. free.listed file is (sym (same_there files name text before (name_of file) there) ∙ listed);
  recorded = λ m others another other.
      let said = one order (insert files name text) number m edits others layout another has other in (
        omega (arith, r.0, said.2.next_file_number),
        omega (arith, r.1, said.2.log_number),
        omega (arith, r.2, said.2.previous_log_number),
        subst (λ (es : List (List Field)). AllByRecursion (NamesBelow n) (fields_of es)) said.1 r.3,
      );
}

-- ---- a part of a record

-- the law of the writer of logs about it
abbrev pub FailedWriteLaw : Type 0
FailedWriteLaw = (bytes payload new : List ℕ) (records : List (List ℕ)) (n : ℕ) → IsLog bytes records Clean
    → IsWritten (room_behind bytes) payload new → n < length new → IsLog (bytes ++ take n new) records (tail_after (room_behind bytes) n)

all_or_nothing : FailedWriteLaw → (position : ℕ) (payload added : List ℕ) → IsWritten (32768 - position % 32768) payload added → AddsRecord position payload added → AddsAllOrNothing position payload added
all_or_nothing law position payload added written adds bytes records n long log = elim (cases_lt n (length added)) [
  | inl part ↦
      let P : ℕ → Type 0 = λ p. IsWritten (32768 - p % 32768) payload added in
      inl (tail_after (room_behind bytes) n, law bytes payload added records n log (subst P (sym long) written) part)
  | inr whole ↦
      let all : take n added ≡ added = take_all n added whole in
      let Q : List ℕ → Type 0 = λ a. IsLog (bytes ++ a) (records ++ payload ∷ []) Clean in
      inr (subst Q (sym all) (adds bytes records long log))
]

-- ---- the edit

module _ (order : Order) (files : Files) (number end : ℕ) (edits : List (List Field)) (layout next : Layout) (edit : List Field) (payload added before : List ℕ)
    (can : CanAddEdit order files number (name_of (Manifest number)) end edits layout edit next) (there : get files (name_of (Manifest number)) ≡ Some before) (spelled : IsEdit payload edit) where
  -- what stands after the MANIFEST
  abbrev behind : List ℕ → Files
  behind bytes = insert files (name_of (Manifest number)) (before ++ bytes)

  edit_behind : EditLaw → AddsRecord end payload added → ManifestEndsAt order (behind added) number (end + length added) (edits ++ edit ∷ []) next
  edit_behind law adds = law order files number end edits layout next edit payload added before can.ends there spelled adds can.folded

  part_behind : FailedEditLaw → (k : ℕ) → AddsAllOrNothing end payload added
      → HasManifest order (behind (take k added)) number edits layout ⊎ HasManifest order (behind (take k added)) number (edits ++ edit ∷ []) next
  part_behind law k adds = law order files number end k edits layout next edit payload added before can.ends there spelled adds can.folded

  records_more : (n : ℕ) → IsFree order files n → IsRecordedBelow n edit next → Records n (edits ++ edit ∷ []) next
  records_more n free r = (
    r.next_file_number,
    r.log_number,
    r.previous_log_number,
    all_with (NamesBelow n) edits edit (free.recorded number edits layout can.ends.manifest).3 r.named,
  )

  -- the same numbers are free, whether the edit is there or not
  free_behind : OneManifestLaw → (bytes : List ℕ) → HasManifest order (behind bytes) number edits layout ⊎ HasManifest order (behind bytes) number (edits ++ edit ∷ []) next
      → (n : ℕ) → IsFree order files n → IsRecordedBelow n edit next → IsFree order (behind bytes) n
  free_behind one bytes (inl has) n free r =
      free_with order files number (name_of (Manifest number)) (before ++ bytes) before edits layout one there has n free (free.recorded number edits layout can.ends.manifest)
  free_behind one bytes (inr has) n free r =
      free_with order files number (name_of (Manifest number)) (before ++ bytes) before (edits ++ edit ∷ []) next one there has n free (records_more n free r)

-- ---- what the calls leave

can_named : (order : Order) (files : Files) (number : ℕ) (name : List ℕ) (end : ℕ) (edits : List (List Field)) (layout next : Layout) (edit : List Field)
    → CanAddEdit order files number name end edits layout edit next → CanAddEdit order files number (name_of (Manifest number)) end edits layout edit next
can_named order files number name end edits layout next edit can = record { named = refl; ends = can.ends; folded = can.folded }

others_kept : (old new : Files) (name bytes : List ℕ) → Appends old new name bytes → KeepsOthers old new name
others_kept old new name bytes a q apart = ap (λ (fs : Files). get fs q) a.2 ∙ get_other old name (a.0 ++ bytes) q apart

module _ (order : Order) (old new : Facts) (number : ℕ) (name : List ℕ) (end : ℕ) (edit : List Field) where
  -- nothing was done
  pub edit_unchanged : (e : DbError) → (IsTrue new.faithful → new.files ≡ old.files) → AppendsEdit order old new number name end edit (Err e)
  edit_unchanged e same = record {
    ok = λ f. tt;
    device = λ f i edits layout next can. inl (let P : Files → Type 0 = λ fs. HasManifest order fs number edits layout in subst P (sym (same f)) can.ends.manifest);
    memory = λ f i. same f;
    others = λ f q apart. ap (λ (fs : Files). get fs q) (same f);
    free = λ f edits layout next can n free recorded. let P : Files → Type 0 = λ fs. IsFree order fs n in subst P (sym (same f)) free;
  }

  module _ (payload added : List ℕ) (spelled : IsEdit payload edit) (adds : AddsRecord end payload added) (one : OneManifestLaw) where
    pub edit_done : EditLaw → (after : ℕ) → after ≡ end + length added → AppendsSynced old new name added (Ok tt) → AppendsEdit order old new number name end edit (Ok after)
    edit_done law after is r = record {
      ok = λ f edits layout next can.
          let done = (r.ok f).0 in
          let there : get old.files (name_of (Manifest number)) ≡ Some done.0 = ap (get old.files) (sym can.named) ∙ done.1 in
          let files : new.files ≡ insert old.files (name_of (Manifest number)) (done.0 ++ added) = done.2 ∙ ap (λ (n : List ℕ). insert old.files n (done.0 ++ added)) can.named in
          let P : Files → Type 0 = λ fs. ManifestEndsAt order fs number after (edits ++ edit ∷ []) next in
          let Q : ℕ → Type 0 = λ n. ManifestEndsAt order (insert old.files (name_of (Manifest number)) (done.0 ++ added)) number n (edits ++ edit ∷ []) next in
          subst P (sym files) (subst Q (sym is)
          (edit_behind order old.files number end edits layout next edit payload added done.0 (can_named order old.files number name end edits layout next edit can) there spelled law adds));
      device = λ f i. absurd (cc);
      memory = λ f i. absurd (cc);
      others = λ f. others_kept old.files new.files name added (r.ok f).0;
      free = λ f edits layout next can n free recorded.
          let done = (r.ok f).0 in
          let there : get old.files (name_of (Manifest number)) ≡ Some done.0 = ap (get old.files) (sym can.named) ∙ done.1 in
          let files : new.files ≡ insert old.files (name_of (Manifest number)) (done.0 ++ added) = done.2 ∙ ap (λ (m : List ℕ). insert old.files m (done.0 ++ added)) can.named in
          let P : Files → Type 0 = λ fs. IsFree order fs n in
          let same = can_named order old.files number name end edits layout next edit can in
          let has = (edit_behind order old.files number end edits layout next edit payload added done.0 same there spelled law adds).manifest in
          subst P (sym files) (free_behind order old.files number end edits layout next edit payload added done.0 same there spelled one added (inr has) n free recorded);
    }

    -- a beginning of the record may be there
    module _ (law : FailedEditLaw) (part : FailedWriteLaw) (written : IsWritten (32768 - end % 32768) payload added) where
      part_there : (edits : List (List Field)) (layout next : Layout) (k : ℕ) → CanAddEdit order old.files number name end edits layout edit next → (a : Appends old.files new.files name (take k added))
          → HasManifest order (insert old.files (name_of (Manifest number)) (a.0 ++ take k added)) number edits layout
          ⊎ HasManifest order (insert old.files (name_of (Manifest number)) (a.0 ++ take k added)) number (edits ++ edit ∷ []) next
      part_there edits layout next k can a =
          let there : get old.files (name_of (Manifest number)) ≡ Some a.0 = ap (get old.files) (sym can.named) ∙ a.1 in
          part_behind order old.files number end edits layout next edit payload added a.0 (can_named order old.files number name end edits layout next edit can) there spelled law k
          (all_or_nothing part end payload added written adds)

      part_files : (edits : List (List Field)) (layout next : Layout) (k : ℕ) → CanAddEdit order old.files number name end edits layout edit next → (a : Appends old.files new.files name (take k added))
          → new.files ≡ insert old.files (name_of (Manifest number)) (a.0 ++ take k added)
      part_files edits layout next k can a = a.2 ∙ ap (λ (m : List ℕ). insert old.files m (a.0 ++ take k added)) can.named

      part_free : (edits : List (List Field)) (layout next : Layout) (k : ℕ) → CanAddEdit order old.files number name end edits layout edit next → Appends old.files new.files name (take k added)
          → (n : ℕ) → IsFree order old.files n → IsRecordedBelow n edit next → IsFree order new.files n
      part_free edits layout next k can a n free recorded =
          let there : get old.files (name_of (Manifest number)) ≡ Some a.0 = ap (get old.files) (sym can.named) ∙ a.1 in
          let P : Files → Type 0 = λ fs. IsFree order fs n in
          subst P (sym (part_files edits layout next k can a))
          (free_behind order old.files number end edits layout next edit payload added a.0 (can_named order old.files number name end edits layout next edit can) there spelled one (take k added)
          (part_there edits layout next k can a) n free recorded)

      changed : (e : DbError) → (e ≡ OutOfMemory) ⊎ (e ≡ Io) → AppendsSynced old new name added (Err e) → IsTrue new.faithful → AppendsBeginning old.files new.files name added
      changed e (inl memory) r f = inl (r.memory f (ap (λ (x : DbError). Err x) memory))
      changed e (inr io) r f = r.io f (ap (λ (x : DbError). Err x) io)

      pub edit_refused : (e : DbError) → (e ≡ OutOfMemory) ⊎ (e ≡ Io) → AppendsSynced old new name added (Err e) → AppendsEdit order old new number name end edit (Err e)
      edit_refused e which r = record {
        ok = λ f. tt;
        device = λ f i edits layout next can.
            let P : Files → Type 0 = λ fs. HasManifest order fs number edits layout in
            let Q : Files → Type 0 = λ fs. HasManifest order fs number edits layout ⊎ HasManifest order fs number (edits ++ edit ∷ []) next in
            elim (changed e which r f) [
              | inl same ↦ inl (subst P (sym same) can.ends.manifest)
              | inr some ↦ subst Q (sym (part_files edits layout next some.0 can some.1)) (part_there edits layout next some.0 can some.1)
            ];
        memory = λ f i. (let same : e ≡ OutOfMemory = cc in r.memory f (ap (λ (x : DbError). Err x) same));
        others = λ f. elim (changed e which r f) [
          | inl same ↦ λ q apart. ap (λ (fs : Files). get fs q) same
          | inr some ↦ others_kept old.files new.files name (take some.0 added) some.1
        ];
        free = λ f edits layout next can n free recorded.
            let P : Files → Type 0 = λ fs. IsFree order fs n in
            elim (changed e which r f) [
              | inl same ↦ subst P (sym same) free
              | inr some ↦ part_free edits layout next some.0 can some.1 n free recorded
            ];
      }

-- ---- a process crash in the middle

module _ (order : Order) (old : Facts) (number : ℕ) (name : List ℕ) (end : ℕ) (edit : List Field) where
  abbrev pub StoppedEdit : Files → Type 0
  StoppedEdit files = AppendsEdit order old (stopped_at old files) number name end edit (Err Io)

  -- nothing was done yet
  pub edit_unstopped : (new : Facts) → new ≡ old → LeavesOnly old new StoppedEdit
  edit_unstopped new is =
      leaves_same old new StoppedEdit (ap (λ (f : Facts). f.calls) is) (ap (λ (f : Facts). f.files) is) (edit_unchanged order old (stopped_at old old.files) number name end edit Io (λ f. refl))

  pub edit_stopped : (payload added : List ℕ) → IsEdit payload edit → AddsRecord end payload added → OneManifestLaw → FailedEditLaw → FailedWriteLaw → IsWritten (32768 - end % 32768) payload added
      → (new : Facts) → LeavesOnly old new (λ files. AppendsBeginning old.files files name added) → LeavesOnly old new StoppedEdit
  edit_stopped payload added spelled adds one law part written new h =
      leaves_so old new (λ files. AppendsBeginning old.files files name added) StoppedEdit
      (λ files left.
      edit_refused order old (stopped_at old files) number name end edit payload added spelled adds one law part written Io (inr refl)
      (record { ok = λ f. tt; io = λ f e. left; memory = λ f e. absurd (cc); unsynced = λ f. refl; others = λ f q apart. refl })) h
