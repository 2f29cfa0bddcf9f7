use Rattle.std.proofs.Common.{◌≡◌, drop}
use Rattle.std.specs.Option.{option_or, option_copied}
use Rattle.edits.specs.Layout.{fields_of, last_said, compact_pointer_in}
use Rattle.edits.proofs.folding.pointer_in_edits.Given as goal

-- the edits that are left say the rest
abbrev pub invariant-loop-edit : goal.invariant-loop-edit
invariant-loop-edit l = option_or (last_said (compact_pointer_in l.level) (fields_of (drop l.edit-index l.edits))) (option_copied l.pointer) ≡ last_said (compact_pointer_in l.level) (fields_of l.edits)
