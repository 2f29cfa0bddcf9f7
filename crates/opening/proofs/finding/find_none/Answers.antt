use Rattle.std.proofs.Common.{inl, refl}
use Rattle.ikey.specs.Orders.{order_of}
use Rattle.opening.proofs.FoundSteps.{no_current_in, number_is, number_spent}
use Rattle.opening.proofs.finding.find_none.Goals as goal

pub returns-then-number-clause-refused : goal.returns-then-number-clause-refused
returns-then-number-clause-refused g c = λ order files m l empty free.
    number_spent order files c.first_number-number.result m (c.first_number-number.ensures.number order files l (no_current_in files c.args.listing.now l empty)) c.if-number.true free

pub returns-clause-found : goal.returns-clause-found
returns-clause-found g c = λ files l empty.
    let order = order_of g.K.KeyOrder.name g.K.KeyOrder.cmp in
    record {
      what = inl (empty, c.in_ok-empty_layout.ensures.tables, c.new.ensures.items, refl);
      number = number_is order files c.first_number-number.result (c.first_number-number.ensures.number order files l (no_current_in files c.args.listing.now l empty)) c.if-number.false;
    }
