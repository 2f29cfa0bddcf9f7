use Rattle.std.proofs.Common.{◌++◌, ℕ, List, ap, sym, ◌∙◌, append_assoc}
use Rattle.std.proofs.lemmas.Result.{err_from_is_err_and}
use Rattle.coding.proofs.Refusals.{refuses_whole}
use Rattle.coding.specs.Spelling.{BeginsNone}
use Rattle.edits.specs.Edit.{IsField}
use Rattle.edits.proofs.Fields.{NoEdit, stuck, some_left, IsEdit-push}
use Rattle.edits.proofs.reading.edit_of.Goals as goal

pub returns-in_err-field-clause-refused : goal.returns-in_err-field-clause-refused
returns-in_err-field-clause-refused c =
    let p = err_from_is_err_and c.from_residual.result c.from_residual.ensures.1 in
    let so_far = c.loop-rest.invariant in
    rw (p.1, p.2) (refuses_whole (BeginsNone IsField c.loop-rest.rest.now) (NoEdit c.args.bytes.now) c.in_err-field.field-0.0
    (stuck c.args.bytes.now so_far.0 c.loop-rest.rest.now c.loop-rest.edit so_far.1 so_far.2 (some_left c.loop-rest.rest.now (sym c.loop-rest-test.ensures))) c.in_err-field.ensures.refused)

pub loop-rest-preserved : goal.loop-rest-preserved
loop-rest-preserved c =
    let so_far = c.loop-rest.invariant in
    let next = c.in_ok-field.ensures.found in (
      so_far.0 ++ next.0,
      rw c.in_ok-push.ensures.ok (IsEdit-push so_far.0 next.0 c.loop-rest.edit c.in_ok-field.field so_far.1 next.1),
      so_far.2 ∙ ap (λ (v : List ℕ). so_far.0 ++ v) next.2 ∙ sym (append_assoc so_far.0 next.0 c.in_ok-field.behind.now),
    )
