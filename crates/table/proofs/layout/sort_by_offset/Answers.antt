use Rattle.std.proofs.Common.{rules}
use Rattle.std.proofs.lemmas.List.Sorted.{IsNonDecreasingBy-from_sort, answers_always}
use Rattle.table.specs.declared.handle.Handle.{Handle}
use Rattle.table.proofs.layout.sort_by_offset.Goals as goal

pub returns-clause-sorted : goal.returns-clause-sorted
returns-clause-sorted c =
    IsNonDecreasingBy-from_sort (λ (handle : Handle). handle.offset) _
    (c.sort_unstable_by_key.ensures.sorted (λ (handle : Handle). handle.offset) (answers_always _ _ _ (λ f a r g h. search rules)))
