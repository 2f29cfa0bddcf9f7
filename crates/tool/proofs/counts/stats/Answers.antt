use Rattle.ikey.specs.Orders.{order_of}
use Rattle.tool.proofs.LookingOver.{answers_none, answers_overview, answers_refusal}
use Rattle.tool.proofs.counts.stats.Goals as goal

pub returns-in-Ok-None : goal.returns-in-Ok-None
returns-in-Ok-None g c =
    answers_none (order_of g.K.KeyOrder.name g.K.KeyOrder.cmp) c.args.json (g.S.Store.facts c.args.store.now) (g.S.Store.facts c.overview_of.new.store) (g.W.Write.contents c.args.writer.now)
    (record { reads = rw c.in-Ok-None.field-0-is at c.in-Ok-None.ensures.store; found = rw c.in-Ok-None.field-0-is at c.in-Ok-None.ensures.found; refused = tt; counted = c.in-Ok-None.ensures.counted })

pub returns-in_ok-print_overview-in-Ok-Some : goal.returns-in_ok-print_overview-in-Ok-Some
returns-in_ok-print_overview-in-Ok-Some g c =
    answers_overview (order_of g.K.KeyOrder.name g.K.KeyOrder.cmp) c.args.json (g.S.Store.facts c.args.store.now) (g.S.Store.facts c.overview_of.new.store) (g.W.Write.contents c.args.writer.now)
    (g.W.Write.contents c.print_overview.new.writer) c.in-Ok-Some.overview
    (record { reads = rw c.in-Ok-Some.field-0-is at c.in-Ok-Some.ensures.store; found = rw c.in-Ok-Some.field-0-is at c.in-Ok-Some.ensures.found; refused = tt; counted = c.in-Ok-Some.ensures.counted }) c.in_ok-print_overview-in-Ok-Some.ensures

pub returns-in-Err : goal.returns-in-Err
returns-in-Err g c =
    answers_refusal (order_of g.K.KeyOrder.name g.K.KeyOrder.cmp) c.args.json (g.S.Store.facts c.args.store.now) (g.S.Store.facts c.overview_of.new.store) (g.W.Write.contents c.args.writer.now) c.in-Err.error
    (record { reads = c.in-Err.ensures.store; found = tt; refused = c.in-Err.ensures.refused; counted = c.in-Err.ensures.counted })
