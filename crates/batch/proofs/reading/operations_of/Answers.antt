use Rattle.std.proofs.Common.{◌++◌, ◌+◌, List, ℕ, ap, sym, ◌∙◌, append_assoc, arith}
use Rattle.std.proofs.lemmas.Result.{err_from_is_err_and}
use Rattle.coding.proofs.Refusals.{refuses_whole}
use Rattle.batch.proofs.AtFront.{NoOperation, NoOperations, no_more, AreOperations-push}
use Rattle.std.proofs.lemmas.List.{length_push}
use Rattle.batch.proofs.reading.operations_of.Goals as goal

pub returns-in_err-operation-clause-refused : goal.returns-in_err-operation-clause-refused
returns-in_err-operation-clause-refused c =
    let p = err_from_is_err_and c.from_residual.result c.from_residual.ensures.1 in
    let so_far = c.loop.invariant in
    rw (p.1, p.2) (refuses_whole (NoOperation c.loop.rest.now) (NoOperations c.args.count c.args.bytes.now) c.in_err-operation.field-0.0
    (no_more c.args.bytes.now so_far.0 c.loop.rest.now c.loop.operations.items c.args.count so_far.1 (omega (arith, so_far.2)) so_far.3) c.in_err-operation.ensures.refused)

pub loop-preserved : goal.loop-preserved
loop-preserved c =
    let so_far = c.loop.invariant in
    let next = c.in_ok-operation.ensures.found in
    let os = c.loop.operations.items in
    let o = c.in_ok-operation.operation in (
      so_far.0 ++ next.0,
      rw c.in_ok-push.ensures.items (AreOperations-push so_far.0 next.0 os o so_far.1 next.1),
      rw c.in_ok-push.ensures.items (length_push os o ∙ ap (λ (n : ℕ). n + 1) so_far.2),
      so_far.3 ∙ ap (λ (v : List ℕ). so_far.0 ++ v) next.2 ∙ sym (append_assoc so_far.0 next.0 c.in_ok-operation.behind.now),
    )
