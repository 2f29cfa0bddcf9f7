use Rattle.std.proofs.Common.{inl, inr, refl, sym, subst}
use Rattle.ikey.specs.Orders.{order_of}
use Rattle.table.specs.Reading.{Reads}
use Rattle.table.proofs.Steps.{reads_then}
use Rattle.reader.specs.ReadOnly.{looked_at}
use Rattle.reader.specs.Readers.{facts_of}
use Rattle.browse.specs.Browsing.{GetsAll}
use Rattle.browse.proofs.Consistent.{open_refused}
use Rattle.browse.proofs.Printed.{if_ok}
use Rattle.browse.proofs.Values.{is_open}
use Rattle.browse.proofs.getting.get_each.Goals as goal

pub print_each-status-requires : goal.print_each-status-requires
print_each-status-requires g c =
    let opened = c.in-Ok.ensures in
    record { stands = is_open (order_of g.K.KeyOrder.name g.K.KeyOrder.cmp) g.S.Store.facts (looked_at g.S.Store.facts c.args.store) c.in-Ok.reader opened.reads opened.shows opened.found }

pub returns-in-Ok-clause-told : goal.returns-in-Ok-clause-told
returns-in-Ok-clause-told g c =
    let order = order_of g.K.KeyOrder.name g.K.KeyOrder.cmp in
    let facts = g.S.Store.facts in
    let contents = g.W.Write.contents in
    let old = looked_at facts c.args.store in
    let opened = c.in-Ok.ensures in
    if_ok c.print_each-status.result _ _
    (λ status t. subst (λ s. GetsAll order old (looked_at facts s) c.args.keys.now c.args.form (contents c.args.writer.now) (contents c.print_each-status.new.writer) status) (sym c.into_store.ensures)
    (inr (facts_of facts c.in-Ok.reader, opened.reads, opened.found, t)))
    c.print_each-status.ensures.told

pub returns-in-Ok-clause-reads : goal.returns-in-Ok-clause-reads
returns-in-Ok-clause-reads g c =
    let facts = g.S.Store.facts in
    let old = looked_at facts c.args.store in
    subst (λ s. Reads old (looked_at facts s)) (sym c.into_store.ensures) (reads_then old (facts_of facts c.in-Ok.reader) (facts_of facts c.print_each-status.new.reader) c.in-Ok.ensures.reads c.print_each-status.ensures.reads)

pub returns-in-Err-clause-told : goal.returns-in-Err-clause-told
returns-in-Err-clause-told g c =
    let order = order_of g.K.KeyOrder.name g.K.KeyOrder.cmp in
    let facts = g.S.Store.facts in
    inl (c.in-Err.error, open_refused order c.in-Err.error (looked_at facts c.args.store) (looked_at facts c.in-Err.store) c.in-Err.ensures.refused c.in-Err.ensures.counted, refl, refl)
