use Rattle.std.proofs.Common.{◌≡◌, ◌+◌, ap, sym, ◌∙◌, arith}
use Rattle.batch.specs.declared.operation.Operation.{Operation}
use Rattle.batch.specs.declared.operation.Operation.TheVariants.{Put, Delete}
use Rattle.batch.specs.Batch.{operation_length, refusal_at}
use Rattle.batch.proofs.Refused.{accepted, one_more}
use Rattle.batch.proofs.limits.length_of.Goals as goal
use Rattle.batch.proofs.limits.length_of.Goals.{in-Put+in_ok-size-in-Put, in-Delete+in_ok-size-in-Delete}

pub loop-operation-preserved : goal.loop-operation-preserved
loop-operation-preserved c =
    let os = c.args.operations.now in
    let i = c.loop-operation.operation-index in
    let size = c.loop-operation.size in
    let count = c.loop-operation.count in
    let o = c.operation-item.result in
    let new = c.match-operation.size in
    let so_far = c.loop-operation.invariant in
    elim c.match-operation.branch [
      | in-Put+in_ok-size-in-Put w ↦
          let put : Operation = Put w.as_slice.result.now w.as_slice-in-Put.result.now in
          let same : o ≡ put = cc in
          let a = accepted (refusal_at size count put) w.in_ok-size-in-Put.size (size + operation_length put) w.length_with_put.result w.in_ok-size-in-Put.was w.length_with_put.ensures in
          let p = one_more os i size count new o c.loop-operation-test.true c.operation-item.is so_far.size_is so_far.count_is (ap (refusal_at size count) same ∙ a.0) (w.size-is ∙ a.1 ∙ ap (λ (v : Operation). size + operation_length v) (sym same)) in
          record { size_is = p.0; count_is = omega (arith, so_far.count_is); left = so_far.left ∙ p.1 }
      | in-Delete+in_ok-size-in-Delete w ↦
          let delete : Operation = Delete w.as_slice-in-Delete.result.now in
          let same : o ≡ delete = cc in
          let a = accepted (refusal_at size count delete) w.in_ok-size-in-Delete.size (size + operation_length delete) w.length_with_delete.result w.in_ok-size-in-Delete.was w.length_with_delete.ensures in
          let p = one_more os i size count new o c.loop-operation-test.true c.operation-item.is so_far.size_is so_far.count_is (ap (refusal_at size count) same ∙ a.0) (w.size-is ∙ a.1 ∙ ap (λ (v : Operation). size + operation_length v) (sym same)) in
          record { size_is = p.0; count_is = omega (arith, so_far.count_is); left = so_far.left ∙ p.1 }
    ]
