use Rattle.store.proofs.Beginnings.{synced_begins}
use Rattle.store.proofs.memory.MemStoreStore.synced_law.Goals as goal

pub returns : goal.returns
returns c = synced_begins c.args.self.now.files
