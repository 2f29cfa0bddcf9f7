use Rattle.std.proofs.Common.{rules, ◌≡◌, List, subst}
use Rattle.edits.specs.Layout.{after_edit}
use Rattle.edits.specs.declared.field.Field.{Field}
use Rattle.versions.specs.Applying.{LeadsLayout}
use Rattle.versions.specs.Levels.{Placement}
use Rattle.directory_writes.proofs.flush.version_after.Goals as goal

pub returns-clause-tables : goal.returns-clause-tables
returns-clause-tables g c =
    let edit : c.fields.result.now ≡ c.args.edit.now = search rules in
    let kept : c.in-Ok.after ≡ c.in_ok-shared.shared.value = search rules in
    let P : List Field → Type 0 = λ e. LeadsLayout (after_edit e) c.args.version.now.tables c.in-Ok.after.tables in
    let Q : Placement → Type 0 = λ v. LeadsLayout (after_edit c.args.edit.now) c.args.version.now.tables v.tables in
    subst Q kept (subst P edit c.in-Ok.ensures.tables)
