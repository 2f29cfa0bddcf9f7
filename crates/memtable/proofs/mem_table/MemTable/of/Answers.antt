use Rattle.std.proofs.Common.{◌<◌, ◌^◌, length, arith}
use Rattle.memtable.proofs.SortedTables.{row-long, row-numbers, table-of}
use Rattle.memtable.proofs.mem_table.MemTable.of.Goals as goal

pub links_over-requires-clause-numbers : goal.links_over-requires-clause-numbers
links_over-requires-clause-numbers g c = row-numbers g.K.KeyOrder.cmp c.args.entries.now c.in_ok-sorted.field-0.items c.in_ok-sorted.ensures

pub links_over-requires-clause-few : goal.links_over-requires-clause-few
links_over-requires-clause-few g c = omega (arith, c.if-entries.false, row-long g.K.KeyOrder.cmp c.args.entries.now c.in_ok-sorted.field-0.items c.in_ok-sorted.ensures)

pub invariant_of-result : goal.invariant_of-result
invariant_of-result g c =
    let few : length c.args.entries.now < 2 ^ 32 = omega (arith, c.if-entries.false) in
    let made = c.in_ok-arena.ensures in
    let links = c.in_ok-links.ensures in
    table-of g.K.KeyOrder.cmp c.args.entries.now c.in_ok-sorted.field-0.items c.in_ok-sorted.ensures g.met.K.KeyOrder.total g.met.K.KeyOrder.exact c.in_ok-arena.arena c.in_ok-links.links.levels c.in_ok-links.links.ends
    c.in_ok-links.links.back made.0 made.1 c.requires few links.forward links.ends links.backward links.many.0 links.many.1
