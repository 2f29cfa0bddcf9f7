use Rattle.std.proofs.Common.{◌≡◌, drop}
use Rattle.std.specs.Option.{option_or}
use Rattle.edits.specs.Layout.{fields_of, last_said, log_number_in, next_file_number_in, last_sequence_in, previous_log_number_in}
use Rattle.edits.proofs.folding.numbers_of.Given as goal

-- the edits that are left say the rest
abbrev pub invariant-loop-edit : goal.invariant-loop-edit
invariant-loop-edit l = record {
  log : option_or (last_said log_number_in (fields_of (drop l.edit-index l.edits))) l.numbers.log ≡ last_said log_number_in (fields_of l.edits);
  next_file : option_or (last_said next_file_number_in (fields_of (drop l.edit-index l.edits))) l.numbers.next_file ≡ last_said next_file_number_in (fields_of l.edits);
  last_sequence : option_or (last_said last_sequence_in (fields_of (drop l.edit-index l.edits))) l.numbers.last_sequence ≡ last_said last_sequence_in (fields_of l.edits);
  previous_log : option_or (last_said previous_log_number_in (fields_of (drop l.edit-index l.edits))) l.numbers.previous_log ≡ last_said previous_log_number_in (fields_of l.edits);
}
