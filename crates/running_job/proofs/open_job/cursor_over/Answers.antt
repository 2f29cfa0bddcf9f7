use Rattle.std.proofs.Common.{◌≡◌, List, rules, sym, ap, subst, ◌∙◌}
use Rattle.edits.specs.declared.field.PlacedTable.{PlacedTable}
use Rattle.running_job.proofs.open_job.cursor_over.Goals as goal
use Rattle.level_cursor.specs.InRows.{ListsNumber}
use Rattle.versions.specs.Levels.{Placement}

pub returns-clause-over : goal.returns-clause-over
returns-clause-over g c = λ number over.
    let kept : c.in_ok-part.part ≡ c.in_ok-inputs.inputs.value = search rules in
    let same = sym (ap (λ (v : Placement). v.tables) kept) ∙ c.in_ok-part.ensures.tables in
    subst (λ (tables : List PlacedTable). ListsNumber tables number) same (c.in_ok-merge.ensures.over number over)
