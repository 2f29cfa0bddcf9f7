use Rattle.std.proofs.Common.{◌≡◌, List, ℕ, Some, refl, ap, subst, ◌∙◌}
use Rattle.std.proofs.lemmas.Result.{err_from_is_err_and}
use Rattle.std.specs.FinMap.{get}
use Rattle.memtable.specs.Order.{ordered}
use Rattle.store.specs.Files.{Facts, Files}
use Rattle.table.proofs.Storing.{refuses_later, writes_none}
use Rattle.table.specs.Writing.{NeedsLongEnds}
use Rattle.directory_writes.specs.internal.Level0.{IsTooLarge, pairs_of}
use Rattle.directory_writes.proofs.Filled.{writes_by, some_pairs}
use Rattle.compact.proofs.Sizes.{long_ends}
use Rattle.directory_writes.proofs.Sizes.{whole_room}
use Rattle.directory_writes.proofs.level0.write_entries.Goals as goal

pub returns-in_err-builder-clause-writes : goal.returns-in_err-builder-clause-writes
returns-in_err-builder-clause-writes g c = writes_none (g.S.Store.facts c.args.store.now) c.args.name.now

pub returns-in_err-size-clause-writes : goal.returns-in_err-size-clause-writes
returns-in_err-size-clause-writes g c =
    writes_by (g.S.Store.facts c.args.store.now) (g.S.Store.facts c.add_entries.new.store) (g.S.Store.facts c.finish.new.store) c.args.name.now c.in_ok-builder.builder.name c.add_entries.new.builder.name
    c.in_ok-builder.ensures.name (c.in_ok-add_entries.ensures.name ∙ c.in_ok-builder.ensures.name) c.in_ok-add_entries.ensures.writes c.in_err-size.ensures.writes

pub returns-in_err-size-clause-refused : goal.returns-in_err-size-clause-refused
returns-in_err-size-clause-refused g c =
    let cmp = g.K.KeyOrder.cmp in
    let a : Facts = g.S.Store.facts c.args.store.now in
    let b : Facts = g.S.Store.facts c.add_entries.new.store in
    let d : Facts = g.S.Store.facts c.finish.new.store in
    let inserts = c.args.memory.now.inserts in
    let p = err_from_is_err_and c.from_residual-in_err-size.result c.from_residual-in_err-size.ensures.1 in
    rw (p.1, p.2) (refuses_later c.in_err-size.field-0.0 a b d (NeedsLongEnds c.add_entries.new.builder) (IsTooLarge d inserts)
    (λ long t. whole_room cmp inserts (long_ends cmp c.add_entries.new.builder b (pairs_of (ordered cmp inserts)) (c.in_ok-add_entries.ensures.added (c.in_err-size.ensures.writes.faithful t) (c.in_ok-builder.ensures.none a))
    (some_pairs cmp inserts c.requires.some) long)) c.in_ok-add_entries.ensures.stood c.in_err-size.ensures.refused)

pub returns-in_err-sync-clause-writes : goal.returns-in_err-sync-clause-writes
returns-in_err-sync-clause-writes g c =
    let a : Facts = g.S.Store.facts c.args.store.now in
    let d : Facts = g.S.Store.facts c.finish.new.store in
    let name = c.args.name.now in
    writes_by a d (g.S.Store.facts c.sync.new.store) name name name refl refl
    (writes_by a (g.S.Store.facts c.add_entries.new.store) d name c.in_ok-builder.builder.name c.add_entries.new.builder.name
    c.in_ok-builder.ensures.name (c.in_ok-add_entries.ensures.name ∙ c.in_ok-builder.ensures.name) c.in_ok-add_entries.ensures.writes c.in_ok-size.ensures.writes) c.in_err-sync.ensures.writes

pub returns-clause-writes : goal.returns-clause-writes
returns-clause-writes g c =
    let a : Facts = g.S.Store.facts c.args.store.now in
    let d : Facts = g.S.Store.facts c.finish.new.store in
    let name = c.args.name.now in
    writes_by a d (g.S.Store.facts c.sync.new.store) name name name refl refl
    (writes_by a (g.S.Store.facts c.add_entries.new.store) d name c.in_ok-builder.builder.name c.add_entries.new.builder.name
    c.in_ok-builder.ensures.name (c.in_ok-add_entries.ensures.name ∙ c.in_ok-builder.ensures.name) c.in_ok-add_entries.ensures.writes c.in_ok-size.ensures.writes) c.in_ok-sync.ensures.writes

pub returns-clause-written : goal.returns-clause-written
returns-clause-written g c = λ t.
    let cmp = g.K.KeyOrder.cmp in
    let a : Facts = g.S.Store.facts c.args.store.now in
    let d : Facts = g.S.Store.facts c.finish.new.store in
    let name = c.args.name.now in
    let before = c.in_ok-sync.ensures.writes.faithful t in
    let built = c.in_ok-add_entries.ensures.added (c.in_ok-size.ensures.writes.faithful before) (c.in_ok-builder.ensures.none a) in
    let w = c.in_ok-size.ensures.written (pairs_of (ordered cmp c.args.memory.now.inserts)) before built in
    let named = c.in_ok-add_entries.ensures.name ∙ c.in_ok-builder.ensures.name in
    (w.0, ap (λ (f : Files). get f name) (c.in_ok-sync.ensures.files t) ∙ subst (λ (n : List ℕ). get d.files n ≡ Some w.0) named w.1, w.2, w.3)

pub returns-clause-ends : goal.returns-clause-ends
returns-clause-ends g c f = c.in_ok-sync.ensures.ends f
