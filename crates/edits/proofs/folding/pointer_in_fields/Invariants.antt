use Rattle.std.proofs.Common.{◌≡◌, drop}
use Rattle.std.specs.Option.{option_or, option_copied}
use Rattle.edits.specs.Layout.{last_said, compact_pointer_in}
use Rattle.edits.proofs.folding.pointer_in_fields.Given as goal

-- the fields that are left say the rest
abbrev pub invariant-loop-field : goal.invariant-loop-field
invariant-loop-field l = option_or (last_said (compact_pointer_in l.level) (drop l.field-index l.fields)) (option_copied l.pointer) ≡ last_said (compact_pointer_in l.level) l.fields
