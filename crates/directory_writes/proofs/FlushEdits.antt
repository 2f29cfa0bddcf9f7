-- What the edit of a flush is, and what it leaves.
use Rattle.std.proofs.Common.{◌≡◌, ◌==◌, ℕ, Bool, true, false, cond, Option, Some, None, option_and_then, List, [], ◌∷◌, ◌++◌, unwrap_or, inl, refl, sym, ap, subst, ◌∙◌, arith, append_assoc, append-nil}
use Rattle.std.proofs.lemmas.Bool.{cond_both, eqb-true}
use Rattle.std.specs.List.{AllByRecursion}
use Rattle.std.specs.Option.{option_or}
use Rattle.edits.specs.declared.field.Field.{Field}
use Rattle.edits.specs.declared.field.Field.TheVariants.{Comparator, LogNumber, NextFileNumber, LastSequence, NewFile, PreviousLogNumber}
use Rattle.edits.specs.declared.field.PlacedTable.{PlacedTable}
use Rattle.edits.specs.declared.field.TableFile.{TableFile}
use Rattle.edits.specs.declared.layout.Layout.{Layout}
use Rattle.edits.specs.Edit.{IsInOrder}
use Rattle.edits.specs.Layout.{IsLayout, IsComparator, AreOfOrder, names_none, fields_of, last_said, log_number_in, next_file_number_in, last_sequence_in, previous_log_number_in, compact_pointer_in, is_used, inserted, with_table, after_deleted, after_new, after_edit, after_edits}
use Rattle.edits.proofs.Folds.{last_said-append}
use Rattle.directory_writes.specs.internal.FlushEdits.{IsAfterFlush, flush_fields, previous_gone}

-- ---- one edit more

then_some : (o : Option (List PlacedTable)) → option_and_then (after_edits []) o ≡ o
then_some None = refl
then_some (Some ts) = refl

then_last : (es : List (List Field)) (e : List Field) → ((ts : List PlacedTable) → after_edits (es ++ e ∷ []) ts ≡ option_and_then (after_edit e) (after_edits es ts))
    → (o : Option (List PlacedTable)) → option_and_then (after_edits (es ++ e ∷ [])) o ≡ option_and_then (after_edit e) (option_and_then (after_edits es) o)
then_last es e h None = refl
then_last es e h (Some ts) = h ts

pub after_last : (es : List (List Field)) (e : List Field) (ts : List PlacedTable) → after_edits (es ++ e ∷ []) ts ≡ option_and_then (after_edit e) (after_edits es ts)
after_last [] e ts = then_some (after_edit e ts)
after_last (d ∷ es) e ts = then_last es e (after_last es e) (after_edit d ts)

pub fields_last : (es : List (List Field)) (e : List Field) → fields_of (es ++ e ∷ []) ≡ fields_of es ++ e
fields_last [] e = append-nil e
fields_last (d ∷ es) e = ap (λ (fs : List Field). d ++ fs) (fields_last es e) ∙ sym (append_assoc d (fields_of es) e)

pub all_fields : (P : Field → Type 0) (fs gs : List Field) → AllByRecursion P fs → AllByRecursion P gs → AllByRecursion P (fs ++ gs)
all_fields P [] gs h k = k
all_fields P (f ∷ fs) gs h k = (h.0, all_fields P fs gs h.1 k)

none_within : (fs gs : List Field) → names_none (fs ++ gs) ≡ true → names_none fs ≡ true
none_within [] gs h = refl
none_within (Comparator name ∷ fs) gs h = absurd (cc)
none_within (f ∷ fs) gs h = none_within fs gs h

-- an edit that names no other order leaves the order as it was
pub order_more : (name : List ℕ) (es : List (List Field)) (e : List Field) → AreOfOrder name (fields_of es) → AllByRecursion (IsComparator name) e → AreOfOrder name (fields_of (es ++ e ∷ []))
order_more name es e order mine =
    let P : List Field → Type 0 = λ fs. AreOfOrder name fs in
    subst P (sym (fields_last es e)) (all_fields (IsComparator name) (fields_of es) e order.0 mine, λ none. order.1 (none_within (fields_of es) e none))

pub said_last : {V : Type 0} (said : Field → Option V) (es : List (List Field)) (e : List Field) → last_said said (fields_of (es ++ e ∷ [])) ≡ option_or (last_said said e) (last_said said (fields_of es))
said_last said es e = ap (last_said said) (fields_last es e) ∙ last_said-append said (fields_of es) e

-- ---- the fields

-- with these after the new table
abbrev with_more : ℕ → ℕ → ℕ → TableFile → List Field → List Field
with_more log next_file last table more = LogNumber log ∷ NextFileNumber next_file ∷ LastSequence last ∷ NewFile (record { level = 0; table = table }) ∷ more

by_gone : (P : List Field → Type 0) (previous : ℕ) → P [] → P (PreviousLogNumber 0 ∷ []) → P (previous_gone previous)
by_gone P previous none one = cond_both (previous == 0) [] (PreviousLogNumber 0 ∷ []) P (λ _. none) (λ _. one)

pub is_in_order : (log previous next_file last : ℕ) (table : TableFile) → IsInOrder (flush_fields log previous next_file last table)
is_in_order log previous next_file last table =
    by_gone (λ (more : List Field). IsInOrder (with_more log next_file last table more)) previous
    (inl (omega arith), (inl (omega arith), (inl (omega arith), tt)))
    (inl (omega arith), (inl (omega arith), (inl (omega arith), (inl (omega arith), tt))))

pub all_said : (P : Field → Type 0) (log previous next_file last : ℕ) (table : TableFile) → P (LogNumber log) → P (NextFileNumber next_file) → P (LastSequence last) → P (NewFile (record { level = 0; table = table })) → P (PreviousLogNumber 0)
    → AllByRecursion P (flush_fields log previous next_file last table)
all_said P log previous next_file last table a b c d e =
    by_gone (λ (more : List Field). AllByRecursion P (with_more log next_file last table more)) previous (a, (b, (c, (d, tt)))) (a, (b, (c, (d, (e, tt)))))

-- ---- the layout

log_said : (log previous next_file last : ℕ) (table : TableFile) → last_said log_number_in (flush_fields log previous next_file last table) ≡ Some log
log_said log previous next_file last table = by_gone (λ (more : List Field). last_said log_number_in (with_more log next_file last table more) ≡ Some log) previous refl refl

next_said : (log previous next_file last : ℕ) (table : TableFile) → last_said next_file_number_in (flush_fields log previous next_file last table) ≡ Some next_file
next_said log previous next_file last table = by_gone (λ (more : List Field). last_said next_file_number_in (with_more log next_file last table more) ≡ Some next_file) previous refl refl

sequence_said : (log previous next_file last : ℕ) (table : TableFile) → last_said last_sequence_in (flush_fields log previous next_file last table) ≡ Some last
sequence_said log previous next_file last table = by_gone (λ (more : List Field). last_said last_sequence_in (with_more log next_file last table more) ≡ Some last) previous refl refl

pub pointer_said : (level log previous next_file last : ℕ) (table : TableFile) → last_said (compact_pointer_in level) (flush_fields log previous next_file last table) ≡ None
pointer_said level log previous next_file last table = by_gone (λ (more : List Field). last_said (compact_pointer_in level) (with_more log next_file last table more) ≡ None) previous refl refl

-- the previous log's number is 0 then, whether the edit says so or it was
previous_said : (log previous next_file last : ℕ) (table : TableFile) (old : Option ℕ) → previous ≡ unwrap_or old 0
    → 0 ≡ unwrap_or (option_or (last_said previous_log_number_in (flush_fields log previous next_file last table)) old) 0
previous_said log previous next_file last table old is =
    cond_both (previous == 0) [] (PreviousLogNumber 0 ∷ []) (λ (more : List Field). 0 ≡ unwrap_or (option_or (last_said previous_log_number_in (with_more log next_file last table more)) old) 0)
    (λ none. sym (eqb-true previous 0 none) ∙ is) (λ _. refl)

deleted_none : (log previous next_file last : ℕ) (table : TableFile) (tables : List PlacedTable) → after_deleted (flush_fields log previous next_file last table) tables ≡ Some tables
deleted_none log previous next_file last table tables = by_gone (λ (more : List Field). after_deleted (with_more log next_file last table more) tables ≡ Some tables) previous refl refl

none_new : (o : Option (List PlacedTable)) → option_and_then (after_new []) o ≡ o
none_new None = refl
none_new (Some ts) = refl

number_new : (o : Option (List PlacedTable)) → option_and_then (after_new (PreviousLogNumber 0 ∷ [])) o ≡ o
number_new None = refl
number_new (Some ts) = refl

then_none : (previous : ℕ) (o : Option (List PlacedTable)) → option_and_then (after_new (previous_gone previous)) o ≡ o
then_none previous o = by_gone (λ (more : List Field). option_and_then (after_new more) o ≡ o) previous (none_new o) (number_new o)

pub new_one : (log previous next_file last : ℕ) (table : TableFile) (tables : List PlacedTable) → is_used table.number tables ≡ false
    → after_edit (flush_fields log previous next_file last table) tables ≡ Some (inserted (record { level = 0; table = table }) tables)
new_one log previous next_file last table tables unused =
    let placed : PlacedTable = record { level = 0; table = table } in
    ap (option_and_then (after_new (flush_fields log previous next_file last table))) (deleted_none log previous next_file last table tables)
    ∙ then_none previous (with_table placed tables)
    ∙ ap (λ (b : Bool). cond b None (Some (inserted placed tables))) unused

pub none_edit : (log previous next_file last : ℕ) (table : TableFile) (tables : List PlacedTable) → is_used table.number tables ≡ true
    → after_edit (flush_fields log previous next_file last table) tables ≡ None
none_edit log previous next_file last table tables used =
    let placed : PlacedTable = record { level = 0; table = table } in
    ap (option_and_then (after_new (flush_fields log previous next_file last table))) (deleted_none log previous next_file last table tables)
    ∙ then_none previous (with_table placed tables)
    ∙ ap (λ (b : Bool). cond b None (Some (inserted placed tables))) used

pub after_flush : (name : List ℕ) (edits : List (List Field)) (old new : Layout) (log previous next_file last : ℕ) (table : TableFile) → IsLayout name edits old → old.previous_log_number ≡ previous
    → is_used table.number old.tables.items ≡ false → IsAfterFlush log next_file last table old new → IsLayout name (edits ++ flush_fields log previous next_file last table ∷ []) new
after_flush name edits old new log previous next_file last table layout was unused h =
    let edit = flush_fields log previous next_file last table in
    let fields = fields_of edits in
    let pointer : (level : ℕ) → last_said (compact_pointer_in level) (fields_of (edits ++ edit ∷ [])) ≡ last_said (compact_pointer_in level) fields = λ level.
    said_last (compact_pointer_in level) edits edit ∙ ap (λ (o : Option (List ℕ)). option_or o (last_said (compact_pointer_in level) fields)) (pointer_said level log previous next_file last table) in
    record {
      order = order_more name edits edit layout.order (all_said (IsComparator name) log previous next_file last table tt tt tt tt tt);
      log_number = said_last log_number_in edits edit ∙ ap (λ (o : Option ℕ). option_or o (last_said log_number_in fields)) (log_said log previous next_file last table) ∙ ap (λ (n : ℕ). Some n) (sym h.log_number);
      next_file_number = said_last next_file_number_in edits edit ∙ ap (λ (o : Option ℕ). option_or o (last_said next_file_number_in fields)) (next_said log previous next_file last table) ∙ ap (λ (n : ℕ). Some n) (sym h.next_file_number);
      last_sequence = said_last last_sequence_in edits edit ∙ ap (λ (o : Option ℕ). option_or o (last_said last_sequence_in fields)) (sequence_said log previous next_file last table) ∙ ap (λ (n : ℕ). Some n) (sym h.last_sequence);
      previous_log_number = h.previous_log_number ∙ previous_said log previous next_file last table (last_said previous_log_number_in fields) (sym was ∙ layout.previous_log_number)
          ∙ ap (λ (o : Option ℕ). unwrap_or o 0) (sym (said_last previous_log_number_in edits edit));
      compact_pointers = h.compact_pointers ∙ layout.compact_pointers
          ∙ (λ i. sym (pointer 0) i ∷ sym (pointer 1) i ∷ sym (pointer 2) i ∷ sym (pointer 3) i ∷ sym (pointer 4) i ∷ sym (pointer 5) i ∷ sym (pointer 6) i ∷ []);
      tables = after_last edits edit [] ∙ ap (option_and_then (after_edit edit)) layout.tables ∙ new_one log previous next_file last table old.tables.items unused ∙ ap (λ (ts : List PlacedTable). Some ts) (sym h.tables);
    }
