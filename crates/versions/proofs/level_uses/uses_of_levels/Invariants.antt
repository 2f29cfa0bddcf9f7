use Rattle.versions.specs.Uses.{AreUses}
use Rattle.versions.proofs.level_uses.uses_of_levels.Given as goal

abbrev pub invariant-loop-level : goal.invariant-loop-level
invariant-loop-level l = AreUses l.level0_files l.base_bytes l.tables 0 l.level l.uses.items
