use Rattle.std.proofs.Common.{◌*◌, ℕ, ap, ◌∙◌, arith}
use Rattle.ikey.specs.Orders.{order_of}
use Rattle.script.proofs.Batched.{batch_refused, batch_taken}
use Rattle.script.proofs.importing.write_gathered.Goals as goal

pub returns-then-is_refusal-clause-ok : goal.returns-then-is_refusal-clause-ok
returns-then-is_refusal-clause-ok g c =
    let entries = c.entries_of-entries.ensures ∙ ap (λ (n : ℕ). 6 * n) c.count-count.ensures in
    batch_refused (order_of g.K.KeyOrder.name g.K.KeyOrder.cmp) g.S.Store.facts c.args.how.now.batch c.args.sync c.args.session.now c.give-written.new.session c.args.gathered.now.operations.items c.args.taken.now
    c.take-write.result c.entries_of-entries.result c.give-written.result c.take-write.ensures.write c.requires.few entries c.give-written.ensures c.if-is_refusal.ensures

pub returns-clause-ok : goal.returns-clause-ok
returns-clause-ok g c =
    let entries = c.entries_of-entries.ensures ∙ ap (λ (n : ℕ). 6 * n) c.count-count.ensures in
    batch_taken (order_of g.K.KeyOrder.name g.K.KeyOrder.cmp) g.S.Store.facts c.args.how.now.batch c.args.sync c.args.session.now c.give-written.new.session c.work_behind_batch.new.session c.args.gathered.now.operations.items
    c.args.taken.now c.in-Some.after c.take-write.result c.entries_of-entries.result c.give-written.result c.work_behind_batch.result
    c.take-write.ensures.write c.requires.few entries c.give-written.ensures c.if-is_refusal.ensures c.work_behind_batch.ensures
    (omega (arith, c.in-Some.ensures, c.count-count.ensures))
