use Rattle.std.proofs.Common.{rules}
use Rattle.versions.proofs.InPlace.{levels_rise}
use Rattle.versions.proofs.level_uses.levels_rise.Goals as goal

pub returns : goal.returns
returns c = levels_rise c.args.tables.now (search rules)
