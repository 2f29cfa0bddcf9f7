use Rattle.std.proofs.Common.{drop}
use Rattle.std.specs.List.{AllByRecursion}
use Rattle.edits.specs.Edit.{HasPastLimit, IsWithinLimit}
use Rattle.edits.proofs.reading.has_past_limit.Given as goal

-- what the fields that are left say is so of all
abbrev pub invariant-loop-field : goal.invariant-loop-field
invariant-loop-field l = record {
  some : HasPastLimit (drop l.field-index l.fields) → HasPastLimit l.fields;
  all : AllByRecursion IsWithinLimit (drop l.field-index l.fields) → AllByRecursion IsWithinLimit l.fields;
}
