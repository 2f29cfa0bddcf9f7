use Rattle.std.proofs.Common.{List, sym, ap, ◌∙◌}
use Rattle.std.specs.Option.{option_or, option_copied}
use Rattle.edits.specs.Layout.{last_said, compact_pointer_in}
use Rattle.edits.specs.declared.field.Field.{Field}
use Rattle.edits.proofs.Folds.{said_edit, copied_or}
use Rattle.edits.proofs.folding.pointer_in_edits.Goals as goal

pub loop-edit-preserved : goal.loop-edit-preserved
loop-edit-preserved c =
    let said = compact_pointer_in c.args.level in
    let old = option_copied c.loop-edit.pointer in
    let new = ap option_copied c.or-pointer.ensures ∙ copied_or c.pointer_in_fields.result c.loop-edit.pointer
    ∙ ap (λ o. option_or o old) (sym c.pointer_in_fields.ensures) ∙ ap (λ (fs : List Field). option_or (last_said said fs) old) c.fields.ensures in
    said_edit said c.args.edits.now c.loop-edit.edit-index c.edit-item.result old (option_copied c.or-pointer.result) c.loop-edit-test.true c.edit-item.is new ∙ c.loop-edit.invariant
