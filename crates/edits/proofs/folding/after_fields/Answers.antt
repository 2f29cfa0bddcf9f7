use Rattle.std.proofs.Common.{◌∙◌}
use Rattle.edits.specs.Layout.{log_number_in, next_file_number_in, last_sequence_in, previous_log_number_in}
use Rattle.edits.proofs.Folds.{said_field}
use Rattle.edits.proofs.folding.after_fields.Goals as goal

pub loop-field-preserved : goal.loop-field-preserved
loop-field-preserved c =
    let fs = c.args.fields.now in
    let i = c.loop-field.field-index in
    let f = c.field-item.result in
    let old = c.loop-field.said in
    let new = c.after_field-said in
    record {
      log = said_field log_number_in fs i f old.log new.result.log c.loop-field-test.true c.field-item.is new.ensures.log ∙ c.loop-field.invariant.log;
      next_file = said_field next_file_number_in fs i f old.next_file new.result.next_file c.loop-field-test.true c.field-item.is new.ensures.next_file ∙ c.loop-field.invariant.next_file;
      last_sequence = said_field last_sequence_in fs i f old.last_sequence new.result.last_sequence c.loop-field-test.true c.field-item.is new.ensures.last_sequence ∙ c.loop-field.invariant.last_sequence;
      previous_log = said_field previous_log_number_in fs i f old.previous_log new.result.previous_log c.loop-field-test.true c.field-item.is new.ensures.previous_log ∙ c.loop-field.invariant.previous_log;
    }
