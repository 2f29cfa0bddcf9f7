use Rattle.std.proofs.Common.{rules, ◌≡◌, List, ◌++◌, ◌∷◌, [], sym, subst}
use Rattle.edits.specs.Edit.{IsInOrder}
use Rattle.edits.specs.Layout.{IsLayout}
use Rattle.edits.specs.declared.field.Field.{Field}
use Rattle.directory_writes.specs.internal.FlushEdits.{flush_fields}
use Rattle.directory_writes.proofs.FlushEdits.{is_in_order, after_flush}
use Rattle.directory_writes.proofs.flush_edits.flush_edit.Goals as goal

pub returns-clause-order : goal.returns-clause-order
returns-clause-order c =
    let is : c.push_previous.new.edit ≡ flush_fields c.args.log_number c.args.previous_log_number c.args.next_file_number c.args.last_sequence c.args.table = search rules in
    subst IsInOrder (sym is) (is_in_order c.args.log_number c.args.previous_log_number c.args.next_file_number c.args.last_sequence c.args.table)

pub returns-clause-folds : goal.returns-clause-folds
returns-clause-folds c = λ name edits old new layout was unused after.
    let is : c.push_previous.new.edit ≡ flush_fields c.args.log_number c.args.previous_log_number c.args.next_file_number c.args.last_sequence c.args.table = search rules in
    let P : List Field → Type 0 = λ e. IsLayout name (edits ++ e ∷ []) new in
    subst P (sym is) (after_flush name edits old new c.args.log_number c.args.previous_log_number c.args.next_file_number c.args.last_sequence c.args.table layout was unused after)
