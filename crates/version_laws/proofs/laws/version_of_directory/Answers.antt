use Rattle.version_laws.proofs.Version.{version}
use Rattle.version_laws.proofs.laws.version_of_directory.Goals as goal

pub returns : goal.returns
returns c = version
