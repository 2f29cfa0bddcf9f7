use Rattle.mended_db.proofs.Cutting.{cut_mended}
use Rattle.mended_db.proofs.laws.mended_cut.Goals as goal

pub returns : goal.returns
returns c = cut_mended c.spared_law.ensures c.cut_law.ensures c.between_calls.ensures
