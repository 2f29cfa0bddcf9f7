use Rattle.std.proofs.Common.{◌≡◌, map, take}
use Rattle.edits.specs.Layout.{fields_of, last_said, compact_pointer_in, levels}
use Rattle.edits.proofs.folding.compact_pointers_of.Given as goal

-- the pointers of the levels so far
abbrev pub invariant-loop-level : goal.invariant-loop-level
invariant-loop-level l = l.pointers.items ≡ map (λ level. last_said (compact_pointer_in level) (fields_of l.edits)) (take l.level levels)
