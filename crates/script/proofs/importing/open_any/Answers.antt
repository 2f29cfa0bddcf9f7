use Rattle.std.proofs.Common.{◌∷◌, [], subst}
use Rattle.ikey.specs.Orders.{order_of}
use Rattle.machine.specs.declared.command.Mode.TheVariants.{Any}
use Rattle.machine.specs.declared.command.Op.TheVariants.{Open}
use Rattle.machine.specs.declared.command.Answer.{Answer}
use Rattle.script.specs.Commands.{GoesOn}
use Rattle.script.proofs.Going.{goes_one}
use Rattle.script.proofs.Works.{open_done}
use Rattle.script.proofs.importing.open_any.Goals as goal

pub returns-then-is_refusal : goal.returns-then-is_refusal
returns-then-is_refusal g c =
    (c.if-is_refusal.ensures, goes_one (order_of g.K.KeyOrder.name g.K.KeyOrder.cmp) g.S.Store.facts c.args.session.now c.give-opened.new.session (Open Any) c.give-opened.result c.give-opened.ensures)

pub returns : goal.returns
returns g c =
    let order = order_of g.K.KeyOrder.name g.K.KeyOrder.cmp in
    let facts = g.S.Store.facts in
    subst (λ (answer : Answer). GoesOn order facts c.args.session.now c.give-opened.new.session (Open Any ∷ []) (answer ∷ []))
    (open_done c.give-opened.result c.give-opened.ensures.outcome.allowed c.if-is_refusal.ensures)
    (goes_one order facts c.args.session.now c.give-opened.new.session (Open Any) c.give-opened.result c.give-opened.ensures)
