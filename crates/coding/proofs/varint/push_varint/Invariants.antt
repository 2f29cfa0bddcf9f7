use Rattle.std.proofs.Common.{◌≡◌, ◌++◌, ℕ, List, length, take}
use Rattle.coding.specs.Varint.{IsVarint, AppendsVarint}
use Rattle.coding.proofs.varint.push_varint.Given as goal

-- whatever stands for the rest completes the number
abbrev pub invariant-loop-rest : goal.invariant-loop-rest
invariant-loop-rest l = record {
  completes : (tail : List ℕ) → IsVarint tail l.rest → AppendsVarint l.fn.out.items (l.out.items ++ tail) l.value;
  front : take (length l.fn.out.items) l.out.items ≡ l.fn.out.items;
}

abbrev pub decreases-loop-rest : goal.decreases-loop-rest
decreases-loop-rest l = l.rest
