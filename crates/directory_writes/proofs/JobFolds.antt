-- What the edit of a job leaves of a layout.
use Rattle.std.proofs.Common.{◌≡◌, ◌-◌, ℕ, Option, Some, None, option_and_then, List, [], ◌∷◌, ◌++◌, map, unwrap_or, refl, sym, ap, subst, ◌∙◌}
use Rattle.std.specs.List.{AllByRecursion}
use Rattle.std.specs.Option.{option_or}
use Rattle.edits.specs.declared.field.Field.{Field}
use Rattle.edits.specs.declared.field.Field.TheVariants.{NextFileNumber, LastSequence, CompactPointer}
use Rattle.edits.specs.declared.field.PlacedTable.{PlacedTable}
use Rattle.edits.specs.declared.field.TableFile.{TableFile}
use Rattle.edits.specs.declared.layout.Layout.{Layout}
use Rattle.edits.specs.Layout.{IsLayout, IsComparator, AreOfOrder, fields_of, last_said, log_number_in, next_file_number_in, last_sequence_in, previous_log_number_in, compact_pointer_in, after_edit, after_edits, levels}
use Rattle.edits.proofs.Folds.{last_said-append}
use Rattle.versions.specs.Levels.{pointers_after}
use Rattle.compact.specs.JobEdits.{gone, placed_at, pointer_fields}
use Rattle.directory_writes.specs.internal.Compactions.{IsAfterJob, JobFoldsLaw}
use Rattle.directory_writes.proofs.FlushEdits.{after_last, order_more, all_fields, said_last}

-- ---- the fields of the edit

-- before the files are two numbers and perhaps a pointer
abbrev pub front_of : ℕ → ℕ → ℕ → Option (List ℕ) → List Field
front_of level next last pointer = NextFileNumber next ∷ LastSequence last ∷ pointer_fields level pointer

abbrev pub files_of : ℕ → List PlacedTable → List TableFile → List Field
files_of level sorted tables = map gone sorted ++ map (placed_at level) tables

-- what says nothing of this
none_said : {V X : Type 0} (said : Field → Option V) (f : X → Field) → ((x : X) → said (f x) ≡ None) → (xs : List X) → last_said said (map f xs) ≡ None
none_said said f none [] = refl
none_said said f none (x ∷ xs) = ap (λ o. option_or o (said (f x))) (none_said said f none xs) ∙ none x

option-none : {V : Type 0} (o : Option V) → option_or None o ≡ o
option-none o = refl

files_said : {V : Type 0} (said : Field → Option V) (level : ℕ) (sorted : List PlacedTable) (tables : List TableFile) → ((p : PlacedTable) → said (gone p) ≡ None) → ((t : TableFile) → said (placed_at level t) ≡ None)
    → last_said said (files_of level sorted tables) ≡ None
files_said said level sorted tables none_gone none_new =
    last_said-append said (map gone sorted) (map (placed_at level) tables)
    ∙ ap (λ o. option_or o (last_said said (map gone sorted))) (none_said said (placed_at level) none_new tables)
    ∙ none_said said gone none_gone sorted

edit_said : {V : Type 0} (said : Field → Option V) (level next last : ℕ) (pointer : Option (List ℕ)) (sorted : List PlacedTable) (tables : List TableFile) → ((p : PlacedTable) → said (gone p) ≡ None) → ((t : TableFile) → said (placed_at level t) ≡ None)
    → last_said said (front_of level next last pointer ++ files_of level sorted tables) ≡ last_said said (front_of level next last pointer)
edit_said said level next last pointer sorted tables none_gone none_new =
    last_said-append said (front_of level next last pointer) (files_of level sorted tables)
    ∙ ap (λ o. option_or o (last_said said (front_of level next last pointer))) (files_said said level sorted tables none_gone none_new)

pub by_pointer : (P : List Field → Type 0) (level : ℕ) (pointer : Option (List ℕ)) → P [] → ((key : List ℕ) → P (CompactPointer (level - 1) key ∷ [])) → P (pointer_fields level pointer)
by_pointer P level None none some = none
by_pointer P level (Some key) none some = some key

all_map : {X : Type 0} (P : Field → Type 0) (f : X → Field) → ((x : X) → P (f x)) → (xs : List X) → AllByRecursion P (map f xs)
all_map P f h [] = tt
all_map P f h (x ∷ xs) = (h x, all_map P f h xs)

pub front_all : (P : Field → Type 0) (level next last : ℕ) (pointer : Option (List ℕ)) → P (NextFileNumber next) → P (LastSequence last) → ((key : List ℕ) → P (CompactPointer (level - 1) key)) → AllByRecursion P (front_of level next last pointer)
front_all P level next last pointer a b c = by_pointer (λ more. AllByRecursion P (NextFileNumber next ∷ LastSequence last ∷ more)) level pointer (a, (b, tt)) (λ key. (a, (b, (c key, tt))))

-- ---- one edit more

module _ (name : List ℕ) (edits : List (List Field)) (level next last : ℕ) (pointer : Option (List ℕ)) (sorted : List PlacedTable) (tables : List TableFile) (old new : Layout) (layout : IsLayout name edits old) where
  abbrev job_edit : List Field
  job_edit = front_of level next last pointer ++ files_of level sorted tables

  -- what the job_edit says nothing of is as before
  log_is : last_said log_number_in (fields_of (edits ++ job_edit ∷ [])) ≡ Some old.log_number
  log_is =
      said_last log_number_in edits job_edit
      ∙ ap (λ (o : Option ℕ). option_or o (last_said log_number_in (fields_of edits)))
      (edit_said log_number_in level next last pointer sorted tables (λ p. refl) (λ t. refl) ∙ by_pointer (λ more. last_said log_number_in (NextFileNumber next ∷ LastSequence last ∷ more) ≡ None) level pointer refl (λ key. refl))
      ∙ layout.log_number

  previous_is : old.previous_log_number ≡ unwrap_or (last_said previous_log_number_in (fields_of (edits ++ job_edit ∷ []))) 0
  previous_is =
      layout.previous_log_number
      ∙ ap (λ (o : Option ℕ). unwrap_or o 0) (sym (said_last previous_log_number_in edits job_edit
      ∙ ap (λ (o : Option ℕ). option_or o (last_said previous_log_number_in (fields_of edits)))
      (edit_said previous_log_number_in level next last pointer sorted tables (λ p. refl) (λ t. refl) ∙ by_pointer (λ more. last_said previous_log_number_in (NextFileNumber next ∷ LastSequence last ∷ more) ≡ None) level pointer refl (λ key. refl))))

  next_is : last_said next_file_number_in (fields_of (edits ++ job_edit ∷ [])) ≡ Some next
  next_is =
      said_last next_file_number_in edits job_edit
      ∙ ap (λ (o : Option ℕ). option_or o (last_said next_file_number_in (fields_of edits)))
      (edit_said next_file_number_in level next last pointer sorted tables (λ p. refl) (λ t. refl) ∙ by_pointer (λ more. last_said next_file_number_in (NextFileNumber next ∷ LastSequence last ∷ more) ≡ Some next) level pointer refl (λ key. refl))

  last_is : last_said last_sequence_in (fields_of (edits ++ job_edit ∷ [])) ≡ Some last
  last_is =
      said_last last_sequence_in edits job_edit
      ∙ ap (λ (o : Option ℕ). option_or o (last_said last_sequence_in (fields_of edits)))
      (edit_said last_sequence_in level next last pointer sorted tables (λ p. refl) (λ t. refl) ∙ by_pointer (λ more. last_said last_sequence_in (NextFileNumber next ∷ LastSequence last ∷ more) ≡ Some last) level pointer refl (λ key. refl))

  pointer_at : (l : ℕ) → last_said (compact_pointer_in l) (fields_of (edits ++ job_edit ∷ [])) ≡ option_or (last_said (compact_pointer_in l) job_edit) (last_said (compact_pointer_in l) (fields_of edits))
  pointer_at l = said_last (compact_pointer_in l) edits job_edit

  pointers_are : map (λ l. last_said (compact_pointer_in l) (fields_of (edits ++ job_edit ∷ []))) levels ≡ pointers_after job_edit 0 old.compact_pointers.items
  pointers_are =
      (λ i. pointer_at 0 i ∷ pointer_at 1 i ∷ pointer_at 2 i ∷ pointer_at 3 i ∷ pointer_at 4 i ∷ pointer_at 5 i ∷ pointer_at 6 i ∷ [])
      ∙ ap (pointers_after job_edit 0) (sym layout.compact_pointers)

  tables_are : after_edits (edits ++ job_edit ∷ []) [] ≡ after_edit job_edit old.tables.items
  tables_are = after_last edits job_edit [] ∙ ap (option_and_then (after_edit job_edit)) layout.tables

  ordered : AreOfOrder name (fields_of (edits ++ job_edit ∷ []))
  ordered =
      order_more name edits job_edit layout.order
      (all_fields (IsComparator name) (front_of level next last pointer) (files_of level sorted tables) (front_all (IsComparator name) level next last pointer tt tt (λ key. tt))
      (all_fields (IsComparator name) (map gone sorted) (map (placed_at level) tables) (all_map (IsComparator name) gone (λ p. tt) sorted) (all_map (IsComparator name) (placed_at level) (λ t. tt) tables)))

  to_layout : IsAfterJob next last job_edit old new → IsLayout name (edits ++ job_edit ∷ []) new
  to_layout h = record {
    order = ordered;
    log_number = log_is ∙ ap (λ (n : ℕ). Some n) (sym h.log_number);
    next_file_number = next_is ∙ ap (λ (n : ℕ). Some n) (sym h.next_file_number);
    last_sequence = last_is ∙ ap (λ (n : ℕ). Some n) (sym h.last_sequence);
    previous_log_number = h.previous_log_number ∙ previous_is;
    compact_pointers = h.compact_pointers ∙ sym pointers_are;
    tables = tables_are ∙ h.tables;
  }

  same_some : (m n : ℕ) → Some m ≡ Some n → m ≡ n
  same_some m n e = cc

  from_layout : IsLayout name (edits ++ job_edit ∷ []) new → IsAfterJob next last job_edit old new
  from_layout h = record {
    log_number = same_some new.log_number old.log_number (sym h.log_number ∙ log_is);
    previous_log_number = h.previous_log_number ∙ sym previous_is;
    next_file_number = same_some new.next_file_number next (sym h.next_file_number ∙ next_is);
    last_sequence = same_some new.last_sequence last (sym h.last_sequence ∙ last_is);
    compact_pointers = h.compact_pointers ∙ pointers_are;
    tables = sym tables_are ∙ h.tables;
  }

pub job_folds : JobFoldsLaw
job_folds name edits level next last planned pointer tables edit old new layout is = (
  λ h. let P : List Field → Type 0 = λ e. IsAfterJob next last e old new in
      let Q : List Field → Type 0 = λ e. IsLayout name (edits ++ e ∷ []) new in
      subst Q (sym is.fields_are) (to_layout name edits level next last pointer is.sorted tables old new layout (subst P is.fields_are h)),
  λ h. let P : List Field → Type 0 = λ e. IsAfterJob next last e old new in
      let Q : List Field → Type 0 = λ e. IsLayout name (edits ++ e ∷ []) new in
      subst P (sym is.fields_are) (from_layout name edits level next last pointer is.sorted tables old new layout (subst Q is.fields_are h)),
)
