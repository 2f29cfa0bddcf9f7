use Rattle.std.proofs.Common.{◌≡◌, Some, is_some, sym, ap}
use Rattle.memtables.specs.Memories.{older_at}
use Rattle.memtables.proofs.Generations.{invariant_moved, moved_older}
use Rattle.memtables.proofs.memory_tables.MemoryTables.move_cursor.Goals.{in-Some, in-None}
use Rattle.memtables.proofs.memory_tables.MemoryTables.move_cursor.Goals as goal

pub invariant_of-self-2 : goal.invariant_of-self-2
invariant_of-self-2 g c = elim c.match-get_mut.branch [
  | in-Some w ↦
      let was = w.in-Some.table.now in
      let now = w.go-in-Some.new.source in
      let there : older_at c.self.inside.older.entries c.args.generation ≡ Some was = sym w.in-Some.ensures.value in
      rw w.self-inside-is (invariant_moved _ _ (moved_older c.args.generation was now _ _ there (sym w.go-in-Some.ensures.stays.left) ((c.get_mut.follows.holds now).3 (ap is_some there)).0) c.self.invariant)
  | in-None w ↦ rw w.self-inside-is (rw c.get_mut.follows.holds-at-none c.self.invariant)
]
