use Rattle.std.proofs.Common.{◌≡◌, Option, Some, IsSomeAnd, sym, ap, subst, ◌∙◌}
use Rattle.std.specs.Option.{option_copied}
use Rattle.memtable.specs.Contents.{Contents}
use Rattle.memtables.specs.Memories.{table_in}
use Rattle.memtables.specs.Places.{ListsMemories, MemoriesPlace}
use Rattle.table_access.specs.Memory.{ListsMemory}
use Rattle.memtables.proofs.memories_cursor.MemoriesCursorCursorMemoryTables.key.Goals as goal

pub returns-in-Some : goal.returns-in-Some
returns-in-Some g c = λ at index entry h place is.
    let there : table_in c.args.source.now c.self.inside.generation ≡ Some c.in-Some.table.now = sym c.table.ensures ∙ ap option_copied c.in-Some.is in
    let k = subst (λ (p : MemoriesPlace). ListsMemories g.K.KeyOrder.cmp p c.args.source.now at) (sym c.self.view_is) h in
    c.key.ensures at index entry (subst (λ (o : Option Contents). IsSomeAnd o (λ (t : Contents). ListsMemory g.K.KeyOrder.cmp c.self.inside.cursor t at)) there k) place is
