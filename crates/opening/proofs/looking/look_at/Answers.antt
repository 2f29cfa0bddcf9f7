use Rattle.std.proofs.Common.{sym, ◌∙◌}
use Rattle.ikey.specs.Orders.{order_of}
use Rattle.recover.proofs.NoCurrent.{never_consistent, log_there}
use Rattle.opening.proofs.looking.look_at.Goals as goal

pub returns-then-not-is_empty-clause-refused : goal.returns-then-not-is_empty-clause-refused
returns-then-not-is_empty-clause-refused g c = λ f l.
    let files = (g.S.Store.facts c.args.store.now).files in
    let listing = c.args.listing.now in
    (log_there files listing l (sym c.is_empty.ensures ∙ c.if-not-is_empty.true), never_consistent (order_of g.K.KeyOrder.name g.K.KeyOrder.cmp) files listing l c.if-listing.false)
