use Rattle.ikey.specs.Orders.{order_of}
use Rattle.script.proofs.Batched.{works_refused, works_given}
use Rattle.script.proofs.importing.work_behind_batch.Goals as goal

pub returns-then-is_refusal : goal.returns-then-is_refusal
returns-then-is_refusal g c =
    works_refused (order_of g.K.KeyOrder.name g.K.KeyOrder.cmp) g.S.Store.facts c.args.session.now c.give-worked.new.session c.args.entries c.give-worked.result c.give-worked.ensures c.if-is_refusal.ensures

pub returns : goal.returns
returns g c =
    works_given (order_of g.K.KeyOrder.name g.K.KeyOrder.cmp) g.S.Store.facts c.args.session.now c.give-worked.new.session c.give-last.new.session c.args.entries c.give-worked.result c.give-last.result c.done_or_refused.result
    c.give-worked.ensures c.if-is_refusal.ensures c.give-last.ensures c.done_or_refused.ensures.refused c.done_or_refused.ensures.done
