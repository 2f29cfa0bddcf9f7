use Rattle.std.proofs.Common.{[], ◌∷◌}
use Rattle.ikey.specs.Orders.{order_of}
use Rattle.machine.specs.declared.command.Op.TheVariants.{Work}
use Rattle.script.proofs.Brought.{unwanted, refused_brings, wanted, brings_none, brings_work}
use Rattle.script.proofs.run.work_behind.Goals as goal

pub returns-then-not-works : goal.returns-then-not-works
returns-then-not-works g c = λ may.
    brings_none (order_of g.K.KeyOrder.name g.K.KeyOrder.cmp) g.S.Store.facts c.args.session.now c.args.works c.args.command.now c.args.answer.now
    (unwanted c.args.works c.args.command.now c.args.answer.now c.if-not-works.true)

pub returns-then-is_refusal : goal.returns-then-is_refusal
returns-then-is_refusal g c = λ may.
    brings_none (order_of g.K.KeyOrder.name g.K.KeyOrder.cmp) g.S.Store.facts c.args.session.now c.args.works c.args.command.now c.args.answer.now
    (refused_brings c.args.works c.args.command.now c.args.answer.now c.if-is_refusal.ensures)

pub returns-in-None : goal.returns-in-None
returns-in-None g c = λ may.
    brings_none (order_of g.K.KeyOrder.name g.K.KeyOrder.cmp) g.S.Store.facts c.args.session.now c.args.works c.args.command.now c.args.answer.now
    (wanted c.args.works c.args.command.now c.args.answer.now [] c.if-not-works.false may c.if-is_refusal.ensures c.in-None.ensures)

pub returns-in-Some : goal.returns-in-Some
returns-in-Some g c = λ may.
    brings_work (order_of g.K.KeyOrder.name g.K.KeyOrder.cmp) g.S.Store.facts c.args.session.now c.give.new.session c.args.works c.args.command.now c.args.answer.now c.in-Some.entries c.give.result
    (wanted c.args.works c.args.command.now c.args.answer.now (Work c.in-Some.entries ∷ []) c.if-not-works.false may c.if-is_refusal.ensures c.in-Some.ensures) c.give.ensures
