use Rattle.std.proofs.Common.{None, Some}
use Rattle.ikey.specs.Orders.{order_of}
use Rattle.opening.proofs.FoundSteps.{database_found, empty_refuses, found_before, number_spent}
use Rattle.opening.proofs.finding.find.Goals as goal

pub returns-in_default-clause-refused : goal.returns-in_default-clause-refused
returns-in_default-clause-refused g c =
    let order = order_of g.K.KeyOrder.name g.K.KeyOrder.cmp in
    let listed = c.in_ok-listing.ensures in
    let look = c.in_ok-recovered.ensures in
    let old = g.S.Store.facts c.args.store.now in
    let new = g.S.Store.facts c.look_at.new.store in
    empty_refuses order c.args.mode old new c.in_ok-listing.listing c.find_none.result (λ f. listed.found (look.store.faithful f))
    (λ f. found_before order old (g.S.Store.facts c.list_directory.new.store) c.in_ok-listing.listing c.in_ok-recovered.field-0 None listed.store.same listed.found (look.store.faithful f) (look.found f) c.in_default.is)
    c.find_none.ensures.refused

pub returns-then-recovered-clause-refused : goal.returns-then-recovered-clause-refused
returns-then-recovered-clause-refused g c = λ f m free.
    let order = order_of g.K.KeyOrder.name g.K.KeyOrder.cmp in
    let listed = c.in_ok-listing.ensures in
    let look = c.in_ok-recovered.ensures in
    let old = g.S.Store.facts c.args.store.now in
    let read = found_before order old (g.S.Store.facts c.list_directory.new.store) c.in_ok-listing.listing c.in_ok-recovered.field-0 (Some c.in-Some.recovered) listed.store.same listed.found (look.store.faithful f) (look.found f) c.in-Some.is in
    number_spent order old.files c.in-Some.recovered.next_number m read.next_number c.if-recovered.true free

pub returns-clause-found : goal.returns-clause-found
returns-clause-found g c = λ f.
    let order = order_of g.K.KeyOrder.name g.K.KeyOrder.cmp in
    let listed = c.in_ok-listing.ensures in
    let look = c.in_ok-recovered.ensures in
    let old = g.S.Store.facts c.args.store.now in
    let read = found_before order old (g.S.Store.facts c.list_directory.new.store) c.in_ok-listing.listing c.in_ok-recovered.field-0 (Some c.in-Some.recovered) listed.store.same listed.found (look.store.faithful f) (look.found f) c.in-Some.is in
    database_found order old.files c.in-Some.recovered read c.if-recovered.false
