use Rattle.std.proofs.Common.{ap, ◌∙◌}
use Rattle.memtable.specs.Places.{first_of, up_to}
use Rattle.table_access.specs.Memory.{MemoryPlace}
use Rattle.table_access.proofs.Arriving.{moved_ahead}
use Rattle.table_access.proofs.memory_cursor.MemoryCursor.stand_from.Goals as goal

pub returns-clause-moves : goal.returns-clause-moves
returns-clause-moves g c = λ front back at is from h.
    let stood = c.stand_on.ensures in
    moved_ahead g.K.KeyOrder.cmp c.args.table.now c.args.self.now c.stand_on.new.self at front back c.stand_on.result c.seen_from-seen.result is
    (c.seen_from-seen.ensures.first front back is from ∙ ap (λ (p : MemoryPlace). first_of (up_to p.sequence back)) c.self.view_is) stood.node stood.key stood.stayed stood.sequence h
