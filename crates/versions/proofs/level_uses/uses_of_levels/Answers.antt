use Rattle.std.proofs.Common.{◌+◌, List, sym, subst}
use Rattle.versions.specs.Uses.{AreUses}
use Rattle.versions.specs.declared.level_uses.LevelUse.{LevelUse}
use Rattle.versions.proofs.LevelUses.{uses_more}
use Rattle.versions.proofs.level_uses.uses_of_levels.Goals as goal

pub loop-level-preserved : goal.loop-level-preserved
loop-level-preserved c =
    let U : List LevelUse → Type 0 = λ uses. AreUses c.args.level0_files c.args.base_bytes c.args.tables.now 0 (c.loop-level.level + 1) uses in
    subst U (sym c.in_ok-push.ensures.items)
    (uses_more c.args.level0_files c.args.base_bytes c.args.tables.now 0 c.loop-level.level c.loop-level.uses.items c.use_of_level.result c.loop-level.invariant c.use_of_level.ensures)
