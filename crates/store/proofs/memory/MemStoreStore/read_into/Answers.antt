use Rattle.std.proofs.Common.{sym}
use Rattle.store.proofs.MemFiles.{get-found, get-missed}
use Rattle.store.proofs.memory.MemStoreStore.read_into.Goals as goal

pub returns-in-None-clause-missing : goal.returns-in-None-clause-missing
returns-in-None-clause-missing c = λ _ _. get-missed c.args.self.now.files c.args.name.now (sym c.in-None.ensures.value)

pub returns-in_ok-part-in-Some-clause-bytes : goal.returns-in_ok-part-in-Some-clause-bytes
returns-in_ok-part-in-Some-clause-bytes c = λ _. (c.in-Some.file.now.bytes, get-found c.args.self.now.files c.args.name.now c.in-Some.file.now (sym c.in-Some.ensures.value), rw (← c.bytes.ensures) c.in_ok-part-in-Some.ensures)
