use Rattle.std.proofs.Common.{Some, sym, ap, ◌∙◌}
use Rattle.std.proofs.lemmas.Bool.{eqb-true}
use Rattle.block.proofs.Keeping.{end_of_last}
use Rattle.block.proofs.block_cursor.ends_at.Goals as goal

pub returns-in-Some : goal.returns-in-Some
returns-in-Some c equal =
    let last = c.in-Some.last.now in
    end_of_last c.args.passed.now last (sym c.in-Some.ensures.value) ∙ ap Some (eqb-true last.at.next c.args.end equal)
