use Rattle.std.proofs.Common.{◌≡◌, drop}
use Rattle.edits.specs.Layout.{names_none}
use Rattle.edits.proofs.folding.name_none.Given as goal

-- what the fields that are left say is so of all
abbrev pub invariant-loop-field : goal.invariant-loop-field
invariant-loop-field l = names_none (drop l.field-index l.fields) ≡ names_none l.fields
