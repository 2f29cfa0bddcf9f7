use Rattle.std.proofs.Common.{◌++◌, List, ℕ, ap, ◌∙◌, take, append_assoc}
use Rattle.std.proofs.lemmas.List.{take_more}
use Rattle.batch.proofs.AtFront.{AreOperations-push}
use Rattle.batch.proofs.writing.put_operations.Goals as goal

pub loop-operation-preserved : goal.loop-operation-preserved
loop-operation-preserved c =
    let so_far = c.loop-operation.invariant in
    let next = c.in_ok-put_operation.ensures in
    let os = c.args.operations.now in
    let i = c.loop-operation.operation-index in
    let o = c.operation-item.result in (
      so_far.0 ++ next.0,
      rw (take_more os i o c.loop-operation-test.true, ← c.operation-item.is) (AreOperations-push so_far.0 next.0 (take i os) o so_far.1 next.1),
      next.2 ∙ ap (λ (v : List ℕ). v ++ next.0) so_far.2 ∙ append_assoc c.args.out.now.items so_far.0 next.0,
    )
