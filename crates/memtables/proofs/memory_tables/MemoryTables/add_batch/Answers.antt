use Rattle.std.proofs.Common.{◌≡◌, ◌+◌, ◌++◌, ◌∷◌, [], ℕ, List, sym, ap, ◌∙◌, subst, arith, take}
use Rattle.ikey.specs.declared.entry.Entry.{Entry}
use Rattle.memtables.specs.Changes.{HasMoreEntries}
use Rattle.recover.specs.Entries.{made_entry, entries_of}
use Rattle.memtables.proofs.Batches.{room_left, entries_of_front}
use Rattle.memtables.proofs.Generations.{written_more}
use Rattle.memtables.proofs.memory_tables.MemoryTables.add_batch.Goals as goal

pub loop-operation-preserved : goal.loop-operation-preserved
loop-operation-preserved g c =
    let i = c.loop-operation.operation-index in
    let item = c.operation-item.result in
    let operations = c.args.operations.now in
    let old = c.args.self.now in
    let at : c.loop-operation.self.last ≡ old.last + i = c.loop-operation.invariant.1 in
    let left = room_left operations i item item c.loop-operation.self.current.entry_room c.loop-operation.self.current.byte_room c.loop-operation-test.true c.operation-item.is c.loop-operation.invariant.2.entries c.loop-operation.invariant.2.bytes in
    let number : c.loop-operation.self.last + 1 ≡ old.last + 1 + i = omega (arith, at) in
    let more : entries_of (old.last + 1) (take i operations) ++ made_entry (c.loop-operation.self.last + 1) item ∷ [] ≡ entries_of (old.last + 1) (take (i + 1) operations) =
    ap (λ (n : ℕ). entries_of (old.last + 1) (take i operations) ++ made_entry n item ∷ []) number ∙ sym (entries_of_front (old.last + 1) i operations item c.loop-operation-test.true c.operation-item.is) in (
      subst (λ (es : List Entry). HasMoreEntries old c.add_operation.new.self es) more (written_more old c.loop-operation.self c.add_operation.new.self _ _ c.loop-operation.invariant.0 c.add_operation.ensures.written),
      omega (arith, at, c.add_operation.ensures.last),
      record { entries = omega (arith, left.2, c.add_operation.ensures.entry_room); bytes = omega (arith, left.3, c.add_operation.ensures.byte_room) },
    )
