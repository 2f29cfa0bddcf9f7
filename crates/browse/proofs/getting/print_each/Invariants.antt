use Rattle.std.proofs.Common.{ℕ, List, Option, drop}
use Rattle.ikey.specs.Orders.{order_of}
use Rattle.store.specs.Files.{Facts}
use Rattle.table.specs.Reading.{Reads}
use Rattle.reader.specs.Readers.{facts_of}
use Rattle.browse.specs.Browsing.{GetsEach}
use Rattle.browse.specs.internal.Opened.{IsOpen}
use Rattle.browse.proofs.getting.print_each.Given as goal

-- the reader is open, and what the rest prints completes what all print
abbrev pub invariant-loop-key : goal.invariant-loop-key
invariant-loop-key g l = record {
  stands : IsOpen (order_of g.K.KeyOrder.name g.K.KeyOrder.cmp) g.S.Store.facts l.reader;
  reads : Reads (facts_of g.S.Store.facts l.fn.reader) (facts_of g.S.Store.facts l.reader);
  leads : (new : Facts) (after : Option (List ℕ)) (status : ℕ)
      → GetsEach (order_of g.K.KeyOrder.name g.K.KeyOrder.cmp) l.form (drop l.key-index l.keys) l.worst (facts_of g.S.Store.facts l.reader) new (g.W.Write.contents l.writer) after status
      → GetsEach (order_of g.K.KeyOrder.name g.K.KeyOrder.cmp) l.form l.keys 0 (facts_of g.S.Store.facts l.fn.reader) new (g.W.Write.contents l.fn.writer) after status;
}
