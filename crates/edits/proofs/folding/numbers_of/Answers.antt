use Rattle.std.proofs.Common.{List, ap, ◌∙◌}
use Rattle.std.specs.Option.{option_or}
use Rattle.edits.specs.declared.field.Field.{Field}
use Rattle.edits.specs.Layout.{last_said, log_number_in, next_file_number_in, last_sequence_in, previous_log_number_in}
use Rattle.edits.proofs.Folds.{said_edit}
use Rattle.edits.proofs.folding.numbers_of.Goals as goal

pub loop-edit-preserved : goal.loop-edit-preserved
loop-edit-preserved c =
    let es = c.args.edits.now in
    let i = c.loop-edit.edit-index in
    let e = c.edit-item.result in
    let old = c.loop-edit.numbers in
    let new = c.after_fields-numbers in
    record {
      log = said_edit log_number_in es i e old.log new.result.log c.loop-edit-test.true c.edit-item.is (new.ensures.log ∙ ap (λ (fs : List Field). option_or (last_said log_number_in fs) old.log) c.fields.ensures) ∙ c.loop-edit.invariant.log;
      next_file = said_edit next_file_number_in es i e old.next_file new.result.next_file c.loop-edit-test.true c.edit-item.is (new.ensures.next_file ∙ ap (λ (fs : List Field). option_or (last_said next_file_number_in fs) old.next_file) c.fields.ensures) ∙ c.loop-edit.invariant.next_file;
      last_sequence = said_edit last_sequence_in es i e old.last_sequence new.result.last_sequence c.loop-edit-test.true c.edit-item.is (new.ensures.last_sequence ∙ ap (λ (fs : List Field). option_or (last_said last_sequence_in fs) old.last_sequence) c.fields.ensures) ∙ c.loop-edit.invariant.last_sequence;
      previous_log = said_edit previous_log_number_in es i e old.previous_log new.result.previous_log c.loop-edit-test.true c.edit-item.is (new.ensures.previous_log ∙ ap (λ (fs : List Field). option_or (last_said previous_log_number_in fs) old.previous_log) c.fields.ensures) ∙ c.loop-edit.invariant.previous_log;
    }
