use Rattle.std.proofs.Common.{◌≡◌, ◌++◌, ◌∷◌, ℕ, length, sym, ap, ◌∙◌}
use Rattle.memtable.specs.Order.{Placed}
use Rattle.memtable.specs.Places.{Stands, up_to}
use Rattle.cursor.specs.Places.{Listed, index_before, to_prev}
use Rattle.table_access.proofs.Arriving.{led, has_node, same_some, no_stranger, stands_on, prev_is}
use Rattle.table_access.specs.Memory.{memory_facts}
use Rattle.table_access.proofs.Standing.{nothing_called}
use Rattle.table_access.proofs.memory_cursor.MemoryCursorCursorMemTable.prev.Goals as goal

pub returns-in_default-clause-moves : goal.returns-in_default-clause-moves
returns-in_default-clause-moves g c = λ f at h.
    absurd (no_stranger g.K.KeyOrder.cmp c.args.self.now c.args.source.now at c.place_in.result c.requires c.in_default.is c.place_in.ensures.found h)

pub returns-clause-moves : goal.returns-clause-moves
returns-clause-moves g c = λ f at h.
    let cmp = g.K.KeyOrder.cmp in
    let cursor = c.args.self.now in
    let table = c.args.source.now in
    let node = has_node cursor.node c.requires in
    let s = stands_on cmp cursor table at node.0 node.1 h in
    let same : c.in-Some.place ≡ node.0 = same_some c.in-Some.place node.0 (sym c.in-Some.is ∙ c.place_in.ensures.found node.0 node.1 s.place) in
    let stands : Stands cmp table.inserts s.front c.in-Some.place s.entry s.back = s.stands ∙ ap (λ (n : ℕ). s.front ++ record { node = n; entry = s.entry } ∷ s.back) (sym same) in
    let one : Placed = record { node = node.0; entry = s.entry } in
    led cmp table c.stand_back.new.self c.stand_back.result (λ (at : Listed). index_before (length (up_to cursor.sequence s.front))) to_prev at (prev_is cmp cursor table at node.0 s)
    (c.stand_back.ensures.moves s.front (one ∷ s.back) at s.stands (c.prev-node.ensures.neighbour s.front s.back s.entry stands) h)

pub returns-clause-still : goal.returns-clause-still
returns-clause-still g c = nothing_called memory_facts c.stand_back.result
