use Rattle.std.proofs.Common.{ap, ◌∙◌}
use Rattle.memtable.specs.Places.{last_of, up_to}
use Rattle.table_access.specs.Memory.{MemoryPlace}
use Rattle.table_access.proofs.Arriving.{moved_behind}
use Rattle.table_access.proofs.memory_cursor.MemoryCursor.stand_back.Goals as goal

pub returns-clause-moves : goal.returns-clause-moves
returns-clause-moves g c = λ front back at is from h.
    let stood = c.stand_on.ensures in
    moved_behind g.K.KeyOrder.cmp c.args.table.now c.args.self.now c.stand_on.new.self at front back c.stand_on.result c.seen_back-seen.result is
    (c.seen_back-seen.ensures.last front back is from ∙ ap (λ (p : MemoryPlace). last_of (up_to p.sequence front)) c.self.view_is) stood.node stood.key stood.stayed stood.sequence h
