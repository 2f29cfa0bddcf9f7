use Rattle.version_laws.proofs.Version.{kept}
use Rattle.version_laws.proofs.laws.version_is_kept.Goals as goal

pub returns : goal.returns
returns c = kept
