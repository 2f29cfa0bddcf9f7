use Rattle.std.proofs.Common.{subst}
use Rattle.ikey.specs.Orders.{order_of}
use Rattle.machine.specs.declared.command.Op.{Op}
use Rattle.engine.specs.Applied.{Applied}
use Rattle.script.proofs.Works.{open_refused, compaction_refused, compaction_works}
use Rattle.script.proofs.compaction.compact_opened.Goals as goal

pub returns-then-is_refusal : goal.returns-then-is_refusal
returns-then-is_refusal g c =
    open_refused (order_of g.K.KeyOrder.name g.K.KeyOrder.cmp) g.S.Store.facts c.args.level c.args.session.now c.give-opened.new.session c.give-opened.result c.give-opened.ensures c.if-is_refusal.ensures

pub returns-then-is_refusal-2 : goal.returns-then-is_refusal-2
returns-then-is_refusal-2 g c =
    let order = order_of g.K.KeyOrder.name g.K.KeyOrder.cmp in
    let second = subst (λ (op : Op). Applied order g.S.Store.facts op c.give-opened.new.session c.give-compacted.new.session c.give-compacted.result) c.compaction_of.ensures c.give-compacted.ensures in
    compaction_refused order g.S.Store.facts c.args.level c.args.session.now c.give-opened.new.session c.give-compacted.new.session c.give-opened.result c.give-compacted.result
    c.give-opened.ensures c.if-is_refusal.ensures second c.if-is_refusal-2.ensures

pub returns : goal.returns
returns g c =
    let order = order_of g.K.KeyOrder.name g.K.KeyOrder.cmp in
    let second = subst (λ (op : Op). Applied order g.S.Store.facts op c.give-opened.new.session c.give-compacted.new.session c.give-compacted.result) c.compaction_of.ensures c.give-compacted.ensures in
    compaction_works order g.S.Store.facts c.args.level c.args.session.now c.give-opened.new.session c.give-compacted.new.session c.work_off.new.session c.give-opened.result c.give-compacted.result c.work_off.result
    c.give-opened.ensures c.if-is_refusal.ensures second c.if-is_refusal-2.ensures c.work_off.ensures
