use Rattle.std.proofs.Common.{◌≡◌, None, Some, subst}
use Rattle.cursor.specs.Merging.{listed}
use Rattle.memtables.specs.Memories.{table_in}
use Rattle.memtables.specs.Places.{ListsMemories, MemoriesPlace}
use Rattle.table_access.specs.Memory.{seen_entries}
use Rattle.db_cursor.proofs.beginning.add_table.Goals as goal

pub returns-clause-lists : goal.returns-clause-lists
returns-clause-lists g c = λ table there.
    let cmp = g.K.KeyOrder.cmp in
    let memory = c.args.memory.now in
    subst (λ (p : MemoriesPlace). table_in memory p.generation ≡ Some table → ListsMemories cmp p memory (listed (seen_entries cmp table.inserts p.place.sequence) None)) c.new-cursor.ensures (c.begins.ensures table) there
