use Rattle.std.proofs.Common.{◌≡◌, ◌++◌, drop}
use Rattle.edits.specs.Snapshot.{pointer_fields}
use Rattle.edits.proofs.snapshot.push_pointers.Given as goal

-- with what is left it becomes what it should
abbrev pub invariant-loop-level : goal.invariant-loop-level
invariant-loop-level l = l.edit ++ pointer_fields l.level (drop l.level l.pointers) ≡ l.fn.edit ++ pointer_fields 0 l.pointers
