use Rattle.version_laws.proofs.Memory.{memory}
use Rattle.version_laws.proofs.laws.memory_in_front.Goals as goal

pub returns : goal.returns
returns c = memory
