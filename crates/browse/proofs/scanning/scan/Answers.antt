use Rattle.std.proofs.Common.{refl, sym, subst}
use Rattle.ikey.specs.Orders.{order_of}
use Rattle.table.specs.Reading.{Reads}
use Rattle.table.proofs.Steps.{reads_then}
use Rattle.reader.specs.ReadOnly.{looked_at}
use Rattle.reader.specs.Readers.{facts_of}
use Rattle.browse.specs.Browsing.{Scans}
use Rattle.browse.proofs.Printed.{if_ok}
use Rattle.browse.proofs.Scanned.{scans, scans_none}
use Rattle.browse.proofs.scanning.scan.Goals as goal

pub returns-in-Ok-clause-told : goal.returns-in-Ok-clause-told
returns-in-Ok-clause-told g c =
    let order = order_of g.K.KeyOrder.name g.K.KeyOrder.cmp in
    let facts = g.S.Store.facts in
    let contents = g.W.Write.contents in
    let old = looked_at facts c.args.store in
    let opened = c.in-Ok.ensures in
    if_ok c.tell_map-status.result _ _
    (λ status t. subst (λ s. Scans order old (looked_at facts s) c.args.choice.now (contents c.args.writer.now) (contents c.tell_map-status.new.writer) status) (sym c.into_store.ensures)
    (scans order g.met.K.KeyOrder.total facts old c.in-Ok.reader opened.reads opened.stood opened.shows opened.found c.tell_map-status.new.reader c.tell_map-status.ensures.reads c.args.choice.now (contents c.args.writer.now) (contents c.tell_map-status.new.writer) status t))
    c.tell_map-status.ensures.told

pub returns-in-Ok-clause-reads : goal.returns-in-Ok-clause-reads
returns-in-Ok-clause-reads g c =
    let facts = g.S.Store.facts in
    let old = looked_at facts c.args.store in
    subst (λ s. Reads old (looked_at facts s)) (sym c.into_store.ensures) (reads_then old (facts_of facts c.in-Ok.reader) (facts_of facts c.tell_map-status.new.reader) c.in-Ok.ensures.reads c.tell_map-status.ensures.reads)

pub returns-in-Err-clause-told : goal.returns-in-Err-clause-told
returns-in-Err-clause-told g c =
    let order = order_of g.K.KeyOrder.name g.K.KeyOrder.cmp in
    let facts = g.S.Store.facts in
    let written = g.W.Write.contents c.args.writer.now in
    scans_none order c.in-Err.error (looked_at facts c.args.store) (looked_at facts c.in-Err.store) c.args.choice.now written written 1
    c.in-Err.ensures.refused c.in-Err.ensures.counted refl refl
