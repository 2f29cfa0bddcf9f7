use Rattle.ikey.specs.Orders.{order_of}
use Rattle.script.proofs.Going.{goes_none}
use Rattle.script.proofs.Works.{works_on, work_refused, work_ends, work_without_end}
use Rattle.script.proofs.compaction.work_off.Goals as goal

pub loop-init : goal.loop-init
loop-init g c = goes_none (order_of g.K.KeyOrder.name g.K.KeyOrder.cmp) g.S.Store.facts c.args.session.now

pub loop-preserved : goal.loop-preserved
loop-preserved g c =
    works_on (order_of g.K.KeyOrder.name g.K.KeyOrder.cmp) g.S.Store.facts c.args.session.now c.loop.session c.give-answer.new.session c.loop.counter c.give-answer.result c.loop.invariant c.give-answer.ensures c.if-is_refusal.ensures c.if-is_idle.ensures

pub returns-then-is_refusal : goal.returns-then-is_refusal
returns-then-is_refusal g c =
    work_refused (order_of g.K.KeyOrder.name g.K.KeyOrder.cmp) g.S.Store.facts c.args.session.now c.loop.session c.give-answer.new.session c.loop.counter c.give-answer.result c.loop.invariant c.give-answer.ensures c.if-is_refusal.ensures

pub returns-then-is_idle : goal.returns-then-is_idle
returns-then-is_idle g c =
    work_ends (order_of g.K.KeyOrder.name g.K.KeyOrder.cmp) g.S.Store.facts c.args.session.now c.loop.session c.give-answer.new.session c.loop.counter c.give-answer.result c.loop.invariant c.give-answer.ensures c.if-is_idle.ensures

pub returns : goal.returns
returns g c = work_without_end (order_of g.K.KeyOrder.name g.K.KeyOrder.cmp) g.S.Store.facts c.args.session.now c.loop.session c.loop.counter c.loop.invariant
