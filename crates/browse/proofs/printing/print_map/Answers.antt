use Rattle.std.proofs.Common.{refl, arith}
use Rattle.ikey.specs.Orders.{order_of}
use Rattle.browse.proofs.Printed.{if_ok, prints_map, prints_none}
use Rattle.browse.proofs.printing.print_map.Goals as goal

pub returns-in_default-clause-prints : goal.returns-in_default-clause-prints
returns-in_default-clause-prints g c = prints_none (order_of g.K.KeyOrder.name g.K.KeyOrder.cmp) g.S.Store.facts c.args.choice.now c.args.reader.now (g.W.Write.contents c.args.writer.now) c.args.text.now.items

pub returns-in_default-clause-reads : goal.returns-in_default-clause-reads
returns-in_default-clause-reads g c = record { faithful = λ f. f; files = λ f. refl; failures = omega arith; writes = refl; denials = refl; locked = refl; synced = λ f. refl; calls = λ f. refl }

pub returns-clause-prints : goal.returns-clause-prints
returns-clause-prints g c =
    let contents = g.W.Write.contents in
    if_ok c.print_pairs.result _ _
    (λ answer p. prints_map (order_of g.K.KeyOrder.name g.K.KeyOrder.cmp) g.met.K.KeyOrder.total g.S.Store.facts c.args.choice.now c.args.reader.now c.print_pairs.new.reader (contents c.args.writer.now) (contents c.print_pairs.new.writer)
    c.args.text.now.items c.print_pairs.new.text.items c.in-Ok.walk answer c.print_pairs.ensures.reads c.in-Ok.ensures.begins p)
    c.print_pairs.ensures.prints
