use Rattle.std.proofs.Common.{[], length, sym, ap, ◌∙◌}
use Rattle.std.proofs.lemmas.List.{append-nil, length-map}
use Rattle.memtable.specs.Order.{ordered}
use Rattle.memtable.specs.Places.{up_to}
use Rattle.cursor.specs.Places.{Listed, index_before, to_last}
use Rattle.table_access.specs.Memory.{memory_facts, entry_listed}
use Rattle.table_access.proofs.Arriving.{led}
use Rattle.table_access.proofs.Standing.{nothing_called}
use Rattle.table_access.proofs.memory_cursor.MemoryCursorCursorMemTable.last.Goals as goal

pub returns-clause-moves : goal.returns-clause-moves
returns-clause-moves g c = λ f at h.
    let cmp = g.K.KeyOrder.cmp in
    let all = ordered cmp c.args.source.now.inserts in
    let seen = up_to c.args.self.now.sequence all in
    led cmp c.args.source.now c.stand_back.new.self c.stand_back.result (λ (at : Listed). index_before (length seen)) to_last at
    (ap index_before (sym (ap length h.entries ∙ length-map seen entry_listed)))
    (c.stand_back.ensures.moves all [] at (sym (append-nil all)) c.last-node.ensures.last h)

pub returns-clause-still : goal.returns-clause-still
returns-clause-still g c = nothing_called memory_facts c.stand_back.result
