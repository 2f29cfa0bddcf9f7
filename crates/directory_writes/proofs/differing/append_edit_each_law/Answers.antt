use Rattle.directory_writes.proofs.SameCalls.{edit_each}
use Rattle.directory_writes.proofs.differing.append_edit_each_law.Goals as goal

pub returns : goal.returns
returns c = edit_each
