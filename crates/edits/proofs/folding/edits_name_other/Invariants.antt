use Rattle.std.proofs.Common.{drop}
use Rattle.std.specs.List.{AllByRecursion}
use Rattle.edits.specs.Layout.{NamesOther, IsComparator, fields_of}
use Rattle.edits.proofs.folding.edits_name_other.Given as goal

-- what the edits that are left say is so of all
abbrev pub invariant-loop-edit : goal.invariant-loop-edit
invariant-loop-edit l = record {
  some : NamesOther l.comparator (fields_of (drop l.edit-index l.edits)) → NamesOther l.comparator (fields_of l.edits);
  all : AllByRecursion (IsComparator l.comparator) (fields_of (drop l.edit-index l.edits)) → AllByRecursion (IsComparator l.comparator) (fields_of l.edits);
}
