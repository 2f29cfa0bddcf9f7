use Rattle.std.proofs.Common.{sym, subst}
use Rattle.ikey.specs.Orders.{order_of}
use Rattle.table.specs.Reading.{Reads}
use Rattle.table.proofs.Steps.{reads_then}
use Rattle.reader.specs.ReadOnly.{looked_at}
use Rattle.reader.specs.Readers.{facts_of}
use Rattle.browse.specs.Browsing.{IsRead}
use Rattle.browse.proofs.Scanned.{is_read, not_read}
use Rattle.browse.proofs.getting.read_value.Goals as goal

pub returns-in-Ok-clause-answer : goal.returns-in-Ok-clause-answer
returns-in-Ok-clause-answer g c =
    let order = order_of g.K.KeyOrder.name g.K.KeyOrder.cmp in
    let facts = g.S.Store.facts in
    let old = looked_at facts c.args.store in
    let opened = c.in-Ok.ensures in
    subst (λ s. IsRead order old (looked_at facts s) c.args.key.now c.get-answer.result) (sym c.into_store.ensures)
    (is_read order g.met.K.KeyOrder.total facts old c.in-Ok.reader opened.reads opened.stood opened.shows opened.found c.get-answer.new.self c.get-answer.ensures.reads c.args.key.now c.get-answer.result c.get-answer.ensures.found c.get-answer.ensures.refused)

pub returns-in-Ok-clause-reads : goal.returns-in-Ok-clause-reads
returns-in-Ok-clause-reads g c =
    let facts = g.S.Store.facts in
    let old = looked_at facts c.args.store in
    subst (λ s. Reads old (looked_at facts s)) (sym c.into_store.ensures) (reads_then old (facts_of facts c.in-Ok.reader) (facts_of facts c.get-answer.new.self) c.in-Ok.ensures.reads c.get-answer.ensures.reads)

pub returns-in-Err-clause-answer : goal.returns-in-Err-clause-answer
returns-in-Err-clause-answer g c =
    let order = order_of g.K.KeyOrder.name g.K.KeyOrder.cmp in
    let facts = g.S.Store.facts in
    not_read order c.in-Err.error (looked_at facts c.args.store) (looked_at facts c.in-Err.store) c.args.key.now c.in-Err.ensures.refused c.in-Err.ensures.counted
