use Rattle.std.proofs.Common.{drop}
use Rattle.std.specs.List.{AllByRecursion}
use Rattle.edits.specs.Layout.{NamesOther, IsComparator}
use Rattle.edits.proofs.folding.names_other.Given as goal

-- what the fields that are left say is so of all
abbrev pub invariant-loop-field : goal.invariant-loop-field
invariant-loop-field l = record {
  some : NamesOther l.comparator (drop l.field-index l.fields) → NamesOther l.comparator l.fields;
  all : AllByRecursion (IsComparator l.comparator) (drop l.field-index l.fields) → AllByRecursion (IsComparator l.comparator) l.fields;
}
