use Rattle.std.proofs.Common.{ℕ, List, IfErr, subst, sym}
use Rattle.coding.specs.Errors.{RefusesOnly}
use Rattle.coding.specs.Spelling.{BeginsNone}
use Rattle.edits.specs.Edit.{IsField}
use Rattle.edits.proofs.Fields.{first_rest}
use Rattle.edits.proofs.reading.field_at.Goals as goal

pub returns-in-len1-up-clause-refused : goal.returns-in-len1-up-clause-refused
returns-in-len1-up-clause-refused c =
    let P : List ℕ → Type 0 = λ b. IfErr c.content_at.result (λ e. RefusesOnly e (BeginsNone IsField b)) in
    subst P (sym (first_rest c.args.bytes.now c.in-len1-up.len_at_least)) c.content_at.ensures.refused
