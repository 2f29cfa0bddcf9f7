use Rattle.directory_writes.proofs.SameCalls.{writes_each}
use Rattle.directory_writes.proofs.differing.writes_each_law.Goals as goal

pub returns : goal.returns
returns c = writes_each
