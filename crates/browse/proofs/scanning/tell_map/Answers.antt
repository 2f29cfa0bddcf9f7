use Rattle.ikey.specs.Orders.{order_of}
use Rattle.browse.proofs.Scanned.{tells_so}
use Rattle.browse.proofs.scanning.tell_map.Goals as goal

pub returns-clause-told : goal.returns-clause-told
returns-clause-told g c =
    let contents = g.W.Write.contents in
    tells_so c.print_end.result (order_of g.K.KeyOrder.name g.K.KeyOrder.cmp) g.S.Store.facts c.args.choice.now c.args.reader.now c.print_map.new.reader (contents c.args.writer.now) (contents c.print_map.new.writer) (contents c.print_end.new.writer)
    c.new-text.result.items c.print_map.new.text.items c.in_ok-answer.answer c.new-text.ensures.items c.in_ok-answer.ensures.prints c.print_end.ensures.written c.print_end.ensures.ended
