use Rattle.std.proofs.Common.{◌≡◌, [], take, drop}
use Rattle.batch.specs.Batch.{encoded_length, first_refusal}
use Rattle.batch.proofs.limits.length_of.Given as goal

-- no operation was refused so far, and these bytes and this count are theirs
abbrev pub invariant-loop-operation : goal.invariant-loop-operation
invariant-loop-operation l = record {
  size_is : l.size ≡ encoded_length (take l.operation-index l.operations);
  count_is : l.count ≡ l.operation-index;
  left : first_refusal [] l.operations ≡ first_refusal (take l.operation-index l.operations) (drop l.operation-index l.operations);
}
