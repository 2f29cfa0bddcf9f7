use Rattle.std.proofs.Common.{◌≡◌, map}
use Rattle.std.specs.Map.Iter.{deref}
use Rattle.engine.proofs.state.DbState.sequences.Given as goal

-- what was pushed is what the map has yielded
abbrev pub invariant-loop-sequence : goal.invariant-loop-sequence
invariant-loop-sequence g l = l.sequences.items ≡ map deref l.yielded
