use Rattle.std.proofs.Common.{length, subst}
use Rattle.ikey.specs.Below.{same_key}
use Rattle.ikey.specs.Keys.{Key}
use Rattle.ikey.specs.KeyViews.{key_of}
use Rattle.memtable.specs.Order.{ordered}
use Rattle.memtable.specs.Places.{up_to}
use Rattle.cursor.specs.Places.{Listed, within, to_key}
use Rattle.table_access.specs.Memory.{memory_facts, IsFrom}
use Rattle.table_access.proofs.Arriving.{led}
use Rattle.table_access.proofs.Seeking.{sought_is}
use Rattle.table_access.proofs.Standing.{nothing_called}
use Rattle.table_access.proofs.memory_cursor.MemoryCursorCursorMemTable.seek.Goals as goal

pub returns-clause-moves : goal.returns-clause-moves
returns-clause-moves g c = λ key bytes f at h.
    let cmp = g.K.KeyOrder.cmp in
    let cursor = c.args.self.now in
    let table = c.args.source.now in
    let same = same_key c.args.target.now (key_of c.in-Some.key) key c.in-Some.ensures.found bytes in
    let from = subst (λ (k : Key). IsFrom cmp k (ordered cmp table.inserts) c.first_from-node.result) same c.first_from-node.ensures.from in
    led cmp table c.stand_from.new.self c.stand_from.result (λ (at : Listed). within at.entries (length (up_to cursor.sequence from.front))) (to_key cmp key) at
    (sought_is cmp cursor.sequence key (ordered cmp table.inserts) c.first_from-node.result at h.entries from)
    (c.stand_from.ensures.moves from.front from.back at from.placed_is from.node_is h)

pub returns-clause-still : goal.returns-clause-still
returns-clause-still g c = nothing_called memory_facts c.stand_from.result
