use Rattle.std.proofs.Common.{arith}
use Rattle.browse.proofs.Printed.{Printed, most_so, prints_most, prints_refused, prints_whole, progress_more, progress_none, read_on}
use Rattle.browse.proofs.printing.print_pairs.Goals as goal

pub loop-init : goal.loop-init
loop-init g c = progress_none g.K.KeyOrder.cmp g.S.Store.facts c.args.choice.now c.args.reader.now c.args.walk.now (g.W.Write.contents c.args.writer.now) c.args.text.now.items

pub loop-preserved : goal.loop-preserved
loop-preserved g c =
    progress_more g.K.KeyOrder.cmp g.S.Store.facts c.args.choice.now c.args.reader.now c.args.walk.now (g.W.Write.contents c.args.writer.now) c.args.text.now.items
    c.loop.reader c.next_pair.new.reader c.loop.walk c.next_pair.new.walk (g.W.Write.contents c.loop.writer) c.loop.text.items c.loop.begun c.loop.counter c.loop.invariant
    c.in-Ok-Some.pair (g.W.Write.contents c.print_pair.new.writer) c.print_pair.new.text.items (rw c.in-Ok-Some.field-0-is at c.in-Ok-Some.ensures) c.in_ok-print_pair.ensures

pub returns-in-Ok-None-clause-prints : goal.returns-in-Ok-None-clause-prints
returns-in-Ok-None-clause-prints g c =
    prints_whole g.K.KeyOrder.cmp g.S.Store.facts c.args.choice.now c.args.reader.now c.args.walk.now (g.W.Write.contents c.args.writer.now) c.args.text.now.items
    c.loop.reader c.next_pair.new.reader c.loop.walk c.next_pair.new.walk (g.W.Write.contents c.loop.writer) c.loop.text.items c.loop.begun c.loop.counter c.loop.invariant
    c.limit_of-limit.result c.limit_of-limit.ensures (omega (arith, c.loop-test.true)) (rw c.in-Ok-None.field-0-is at c.in-Ok-None.ensures)

pub returns-in-Ok-None-clause-reads : goal.returns-in-Ok-None-clause-reads
returns-in-Ok-None-clause-reads g c =
    read_on g.K.KeyOrder.cmp g.S.Store.facts c.args.choice.now c.args.reader.now c.args.walk.now (g.W.Write.contents c.args.writer.now) c.args.text.now.items
    c.loop.reader c.next_pair.new.reader c.loop.walk c.next_pair.new.walk (g.W.Write.contents c.loop.writer) c.loop.text.items c.loop.begun c.loop.counter c.loop.invariant
    c.next_pair.result c.next_pair.ensures

pub returns-in-Err-clause-prints : goal.returns-in-Err-clause-prints
returns-in-Err-clause-prints g c =
    prints_refused g.K.KeyOrder.cmp g.S.Store.facts c.args.choice.now c.args.reader.now c.args.walk.now (g.W.Write.contents c.args.writer.now) c.args.text.now.items
    c.loop.reader c.next_pair.new.reader c.loop.walk c.next_pair.new.walk (g.W.Write.contents c.loop.writer) c.loop.text.items c.loop.begun c.loop.counter c.loop.invariant
    c.limit_of-limit.result c.limit_of-limit.ensures (omega (arith, c.loop-test.true)) c.in-Err.error c.in-Err.ensures

pub returns-in-Err-clause-reads : goal.returns-in-Err-clause-reads
returns-in-Err-clause-reads g c =
    read_on g.K.KeyOrder.cmp g.S.Store.facts c.args.choice.now c.args.reader.now c.args.walk.now (g.W.Write.contents c.args.writer.now) c.args.text.now.items
    c.loop.reader c.next_pair.new.reader c.loop.walk c.next_pair.new.walk (g.W.Write.contents c.loop.writer) c.loop.text.items c.loop.begun c.loop.counter c.loop.invariant
    c.next_pair.result c.next_pair.ensures

pub returns-in_err-print_pair-clause-reads : goal.returns-in_err-print_pair-clause-reads
returns-in_err-print_pair-clause-reads g c =
    read_on g.K.KeyOrder.cmp g.S.Store.facts c.args.choice.now c.args.reader.now c.args.walk.now (g.W.Write.contents c.args.writer.now) c.args.text.now.items
    c.loop.reader c.next_pair.new.reader c.loop.walk c.next_pair.new.walk (g.W.Write.contents c.loop.writer) c.loop.text.items c.loop.begun c.loop.counter c.loop.invariant
    c.next_pair.result c.next_pair.ensures

pub returns-clause-prints : goal.returns-clause-prints
returns-clause-prints g c =
    most_so c.end_at_limit.result c.args.choice.now.most (Printed g.K.KeyOrder.cmp g.S.Store.facts c.args.choice.now c.args.reader.now c.args.walk.now (g.W.Write.contents c.args.writer.now) c.args.text.now.items c.loop.reader (g.W.Write.contents c.loop.writer) c.loop.text.items)
    (λ some. prints_most g.K.KeyOrder.cmp g.S.Store.facts c.args.choice.now c.args.reader.now c.args.walk.now (g.W.Write.contents c.args.writer.now) c.args.text.now.items c.loop.reader c.loop.walk (g.W.Write.contents c.loop.writer) c.loop.text.items c.loop.begun c.loop.counter c.limit_of-limit.result c.loop.invariant
    some c.limit_of-limit.ensures (omega (arith, c.loop-test.false, c.loop.auto.counter-end)))
    c.end_at_limit.ensures

pub returns-clause-reads : goal.returns-clause-reads
returns-clause-reads g c = c.loop.invariant.reads
