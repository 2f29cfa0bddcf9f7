use Rattle.std.proofs.Common.{◌≡◌, List, true, false, ◌+◌, drop, sym, ◌∙◌}
use Rattle.edits.specs.declared.field.Field.{Field}
use Rattle.edits.specs.Layout.{names_none, fields_of}
use Rattle.edits.proofs.Folds.{at_item, none_front, some_front}
use Rattle.edits.proofs.folding.edits_name_none.Goals as goal

pub returns-then-not-name_none : goal.returns-then-not-name_none
returns-then-not-name_none c =
    let es = c.args.edits.now in
    let i = c.loop-edit.edit-index in
    let edit = c.edit-item.result in
    let here : names_none edit ≡ false = rw c.fields.ensures at (sym c.if-not-name_none.ensures) in
    let F : List (List Field) → Type 0 = λ left. names_none (fields_of left) ≡ false in
    sym (at_item F es i edit c.loop-edit-test.true c.edit-item.is (some_front edit (fields_of (drop (i + 1) es)) here)) ∙ c.loop-edit.invariant

pub loop-edit-preserved : goal.loop-edit-preserved
loop-edit-preserved c =
    let es = c.args.edits.now in
    let i = c.loop-edit.edit-index in
    let edit = c.edit-item.result in
    let rest = fields_of (drop (i + 1) es) in
    let here : names_none edit ≡ true = rw c.fields.ensures at (sym c.if-not-name_none.ensures) in
    let F : List (List Field) → Type 0 = λ left. names_none (fields_of left) ≡ names_none rest in
    sym (at_item F es i edit c.loop-edit-test.true c.edit-item.is (none_front edit rest here)) ∙ c.loop-edit.invariant
