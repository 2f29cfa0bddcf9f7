use Rattle.std.proofs.Common.{List, ◌+◌, drop}
use Rattle.std.specs.List.{AllByRecursion}
use Rattle.edits.specs.declared.field.Field.{Field}
use Rattle.edits.specs.Layout.{NamesOther, IsComparator, fields_of}
use Rattle.edits.proofs.Folds.{at_item, names_front, names_back, all_append}
use Rattle.edits.proofs.folding.edits_name_other.Goals as goal

pub returns-then-names_other : goal.returns-then-names_other
returns-then-names_other c =
    let name = c.args.comparator.now in
    let i = c.loop-edit.edit-index in
    let edit = c.edit-item.result in
    let here = rw c.fields.ensures at c.if-names_other.ensures in
    let F : List (List Field) → Type 0 = λ es. NamesOther name (fields_of es) in
    c.loop-edit.invariant.some (at_item F c.args.edits.now i edit c.loop-edit-test.true c.edit-item.is (names_front name edit (fields_of (drop (i + 1) c.args.edits.now)) here))

pub loop-edit-preserved : goal.loop-edit-preserved
loop-edit-preserved c =
    let name = c.args.comparator.now in
    let i = c.loop-edit.edit-index in
    let edit = c.edit-item.result in
    let rest = fields_of (drop (i + 1) c.args.edits.now) in
    let here = rw c.fields.ensures at c.if-names_other.ensures in
    let F : List (List Field) → Type 0 = λ es. NamesOther name (fields_of es) in
    let G : List (List Field) → Type 0 = λ es. AllByRecursion (IsComparator name) (fields_of es) in
    record {
      some = λ h. c.loop-edit.invariant.some (at_item F c.args.edits.now i edit c.loop-edit-test.true c.edit-item.is (names_back name edit rest h));
      all = λ h. c.loop-edit.invariant.all (at_item G c.args.edits.now i edit c.loop-edit-test.true c.edit-item.is (all_append (IsComparator name) edit rest here h));
    }
