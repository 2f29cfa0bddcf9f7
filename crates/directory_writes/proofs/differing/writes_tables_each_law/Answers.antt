use Rattle.directory_writes.proofs.SameCalls.{writes_tables_each}
use Rattle.directory_writes.proofs.differing.writes_tables_each_law.Goals as goal

pub returns : goal.returns
returns c = writes_tables_each
