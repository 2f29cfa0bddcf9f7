use Rattle.std.proofs.Common.{◌≡◌, ap, arith}
use Rattle.memtable.specs.Contents.{Contents}
use Rattle.memtables.specs.Memories.{Memories}
use Rattle.memtables.proofs.Generations.{invariant_added}
use Rattle.memtables.proofs.memory_tables.MemoryTables.add_operation.Goals as goal

pub invariant_of-self : goal.invariant_of-self
invariant_of-self g c =
    let last : c.self.inside.last ≡ c.args.self.now.last = ap (λ (m : Memories). m.last) c.self.view_is in
    invariant_added _ c.insert.new.self _ _ (ap (λ (t : Contents). t.inserts) c.insert.ensures) (omega (arith, last, c.requires.fits)) c.self.invariant

pub invariant_of-self-in-Delete : goal.invariant_of-self-in-Delete
invariant_of-self-in-Delete g c =
    let last : c.self.inside.last ≡ c.args.self.now.last = ap (λ (m : Memories). m.last) c.self.view_is in
    invariant_added _ c.insert-in-Delete.new.self _ _ (ap (λ (t : Contents). t.inserts) c.insert-in-Delete.ensures) (omega (arith, last, c.requires.fits)) c.self.invariant
