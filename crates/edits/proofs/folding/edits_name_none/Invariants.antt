use Rattle.std.proofs.Common.{◌≡◌, drop}
use Rattle.edits.specs.Layout.{names_none, fields_of}
use Rattle.edits.proofs.folding.edits_name_none.Given as goal

-- what the edits that are left say is so of all
abbrev pub invariant-loop-edit : goal.invariant-loop-edit
invariant-loop-edit l = names_none (fields_of (drop l.edit-index l.edits)) ≡ names_none (fields_of l.edits)
