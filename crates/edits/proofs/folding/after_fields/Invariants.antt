use Rattle.std.proofs.Common.{◌≡◌, drop}
use Rattle.std.specs.Option.{option_or}
use Rattle.edits.specs.Layout.{last_said, log_number_in, next_file_number_in, last_sequence_in, previous_log_number_in}
use Rattle.edits.proofs.folding.after_fields.Given as goal

-- the fields that are left say the rest
abbrev pub invariant-loop-field : goal.invariant-loop-field
invariant-loop-field l = record {
  log : option_or (last_said log_number_in (drop l.field-index l.fields)) l.said.log ≡ option_or (last_said log_number_in l.fields) l.fn.numbers.log;
  next_file : option_or (last_said next_file_number_in (drop l.field-index l.fields)) l.said.next_file ≡ option_or (last_said next_file_number_in l.fields) l.fn.numbers.next_file;
  last_sequence : option_or (last_said last_sequence_in (drop l.field-index l.fields)) l.said.last_sequence ≡ option_or (last_said last_sequence_in l.fields) l.fn.numbers.last_sequence;
  previous_log : option_or (last_said previous_log_number_in (drop l.field-index l.fields)) l.said.previous_log ≡ option_or (last_said previous_log_number_in l.fields) l.fn.numbers.previous_log;
}
