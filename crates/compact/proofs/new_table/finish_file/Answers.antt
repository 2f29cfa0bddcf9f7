use Rattle.std.proofs.Common.{◌≡◌, sym, subst, ◌∙◌}
use Rattle.std.proofs.lemmas.Result.{err_from_is_err_and}
use Rattle.store.specs.Files.{Facts}
use Rattle.table.specs.Writing.{Writes, NeedsLongEnds}
use Rattle.compact.specs.Outputs.{table_name}
use Rattle.compact.proofs.Tables.{then-syncs, has-after, refuses-writing, refuses-syncing}
use Rattle.table.proofs.Storing.{writes_none}
use Rattle.compact.proofs.new_table.finish_file.Goals as goal

pub returns-clause-written : goal.returns-clause-written
returns-clause-written g c = λ pairs t h.
    let b : Facts = g.S.Store.facts c.finish.new.store in
    let d : Facts = g.S.Store.facts c.sync.new.store in
    let w = c.in_ok-size.ensures.written pairs (c.in_ok-sync.ensures.writes.faithful t) h in (
      w.0,
      has-after b d c.args.builder.name (table_name c.args.number) w.0 c.requires.name (c.in_ok-sync.ensures.files t) w.1,
      w.2,
      w.3,
    )

pub returns-clause-writes : goal.returns-clause-writes
returns-clause-writes g c =
    let a : Facts = g.S.Store.facts c.args.store.now in
    let d : Facts = g.S.Store.facts c.sync.new.store in
    let said : c.deref.result.now ≡ c.args.builder.name = c.deref.ensures ∙ c.in_ok-name.ensures ∙ sym c.requires.name in
    subst (Writes a d) c.requires.name (then-syncs a (g.S.Store.facts c.finish.new.store) d c.args.builder.name c.deref.result.now said c.in_ok-size.ensures.writes c.in_ok-sync.ensures.writes)

pub returns-in_err-sync-clause-writes : goal.returns-in_err-sync-clause-writes
returns-in_err-sync-clause-writes g c =
    let a : Facts = g.S.Store.facts c.args.store.now in
    let d : Facts = g.S.Store.facts c.sync.new.store in
    let said : c.deref.result.now ≡ c.args.builder.name = c.deref.ensures ∙ c.in_ok-name.ensures ∙ sym c.requires.name in
    subst (Writes a d) c.requires.name (then-syncs a (g.S.Store.facts c.finish.new.store) d c.args.builder.name c.deref.result.now said c.in_ok-size.ensures.writes c.in_err-sync.ensures.writes)

pub returns-in_err-sync-clause-refused : goal.returns-in_err-sync-clause-refused
returns-in_err-sync-clause-refused g c =
    let a : Facts = g.S.Store.facts c.args.store.now in
    let b : Facts = g.S.Store.facts c.finish.new.store in
    let d : Facts = g.S.Store.facts c.sync.new.store in
    let p = err_from_is_err_and c.from_residual-in_err-sync.result c.from_residual-in_err-sync.ensures.1 in
    rw (p.1, p.2) (refuses-syncing c.in_err-sync.field-0.0 a b d ⊥ (NeedsLongEnds c.args.builder) ⊥ c.in_ok-size.ensures.writes.failures c.in_err-sync.ensures.refused)

pub returns-in_err-size-clause-refused : goal.returns-in_err-size-clause-refused
returns-in_err-size-clause-refused g c =
    let a : Facts = g.S.Store.facts c.args.store.now in
    let b : Facts = g.S.Store.facts c.finish.new.store in
    let p = err_from_is_err_and c.from_residual-in_err-size.result c.from_residual-in_err-size.ensures.1 in
    rw (p.1, p.2) (refuses-writing c.in_err-size.field-0.0 a b ⊥ (NeedsLongEnds c.args.builder) ⊥ c.in_err-size.ensures.refused)

pub returns-in_err-name-clause-writes : goal.returns-in_err-name-clause-writes
returns-in_err-name-clause-writes g c = writes_none (g.S.Store.facts c.args.store.now) (table_name c.args.number)
