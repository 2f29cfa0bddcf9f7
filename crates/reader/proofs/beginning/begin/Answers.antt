use Rattle.std.proofs.Common.{◌≡◌, ◌∙◌, List, Option, ap, subst}
use Rattle.ikey.specs.Orders.{order_of}
use Rattle.ikey.specs.declared.entry.Entry.{Entry}
use Rattle.recover.specs.Reading.{Recovers}
use Rattle.recover.specs.declared.reading.Recovered.{Recovered}
use Rattle.table_access.specs.Tables.{seen}
use Rattle.db_cursor.specs.Whole.{Whole}
use Rattle.opening.specs.Looking.{IsFound}
use Rattle.opening.specs.Looking.{IsSealedOf}
use Rattle.reader.proofs.Beginnings.{held_found, shown_found, sound_empty}
use Rattle.reader.proofs.beginning.begin.Goals as goal

pub returns-clause-found : goal.returns-clause-found
returns-clause-found g c = λ f.
    let order = order_of g.K.KeyOrder.name g.K.KeyOrder.cmp in
    let facts = g.S.Store.facts in
    let found = c.in-Some.found in
    let there = subst (λ (o : Option Recovered). IsFound order (facts c.begin.new.self.store).files o) c.in-Some.is (c.in_ok-found.ensures.found f) in
    (found, subst (λ s. Recovers order (facts s).files found) c.in_ok-begin.ensures.store there)

pub returns-clause-holds : goal.returns-clause-holds
returns-clause-holds g c = λ f.
    let order = order_of g.K.KeyOrder.name g.K.KeyOrder.cmp in
    let facts = g.S.Store.facts in
    let old = (facts c.args.source.now.tables.store).files in
    let new = facts c.look.new.store in
    let kept = c.begin.new.self in
    let memory = c.in_ok-source.field-0 in
    let whole : Whole = record { seen = seen new kept.tables kept.blocks; memory = memory } in
    let found = c.in-Some.found in
    let there = subst (λ (o : Option Recovered). IsFound order (facts kept.store).files o) c.in-Some.is (c.in_ok-found.ensures.found f) in
    let read = subst (λ s. Recovers order (facts s).files found) c.in_ok-begin.ensures.store there in
    let same : new.files ≡ old = c.in_ok-found.ensures.store.same f ∙ ap (λ s. (facts s).files) c.in_ok-begin.ensures.store in
    let sealed = subst (λ (es : List Entry). IsSealedOf memory es found.used) c.deref.ensures.value c.in_ok-source.ensures in
    held_found order old whole found c.in_ok-version.version.value.tables read same c.in_ok-version.ensures.found.tables c.in_ok-version.ensures.order
    (sound_empty order.cmp new kept.tables.tables kept.blocks.blocks c.empty_is_sound.ensures c.in_ok-begin.ensures.tables c.in_ok-begin.ensures.blocks)
    sealed

pub returns-clause-shows : goal.returns-clause-shows
returns-clause-shows g c = λ f d contents good view.
    let new = g.S.Store.facts c.look.new.store in
    let kept = c.begin.new.self in
    let whole : Whole = record { seen = seen new kept.tables kept.blocks; memory = c.in_ok-source.field-0 } in
    shown_found (order_of g.K.KeyOrder.name g.K.KeyOrder.cmp) (g.S.Store.facts c.args.source.now.tables.store).files whole c.in_ok-version.version.value.tables c.recovered_law.ensures (returns-clause-holds g c f) d contents good view

pub returns-clause-cached : goal.returns-clause-cached
returns-clause-cached g c = c.in_ok-begin.ensures.capacity.1
