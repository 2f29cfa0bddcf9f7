use Rattle.std.proofs.Common.{◌∷◌, [], ◌+◌, ◌%◌, ℕ, ◌∙◌, arith, refl, append_assoc}
use Rattle.coding.proofs.Varints.{low_in_front, front_stays}
use Rattle.coding.proofs.varint.push_varint.Goals as goal

pub loop-rest-preserved : goal.loop-rest-preserved
loop-rest-preserved c =
    let out = c.loop-rest.out.items in
    let byte : ℕ = c.loop-rest.rest % 128 + 128 in
    record {
      completes = λ tail p.
          let whole = c.loop-rest.invariant.completes (byte ∷ tail) (low_in_front c.loop-rest.rest tail (omega arith) p) in
          (whole.0, whole.1, rw c.in_ok-push.ensures.items (append_assoc out (byte ∷ []) tail ∙ whole.2));
      front = rw c.in_ok-push.ensures.items (front_stays c.args.out.now.items out (byte ∷ []) c.loop-rest.invariant.front);
    }

pub returns-clause-ok : goal.returns-clause-ok
returns-clause-ok c =
    let whole = c.loop-rest.invariant.completes (c.loop-rest.rest ∷ []) (omega arith, refl) in
    (whole.0, whole.1, rw c.in_ok-push-2.ensures.items whole.2)
