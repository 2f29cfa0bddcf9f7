use Rattle.table.proofs.Storing.{create_writes, create_makes, create_refused}
use Rattle.table.proofs.writing.create.Goals as goal

pub returns-in-Ok-clause-writes : goal.returns-in-Ok-clause-writes
returns-in-Ok-clause-writes g c =
    let old = g.S.Store.facts c.args.store.now in
    let new = g.S.Store.facts c.create.new.self in
    let h = c.in-Ok.ensures in
    create_writes old new c.args.name.now h.counts (h.undenied, h.lock, h.writes) h.files h.synced h.calls

pub returns-in-Ok-clause-created : goal.returns-in-Ok-clause-created
returns-in-Ok-clause-created g c =
    create_makes (g.S.Store.facts c.args.store.now) (g.S.Store.facts c.create.new.self) c.args.name.now c.in-Ok.ensures.files

pub returns-in-Err-clause-writes : goal.returns-in-Err-clause-writes
returns-in-Err-clause-writes g c =
    let old = g.S.Store.facts c.args.store.now in
    let new = g.S.Store.facts c.create.new.self in
    let h = c.in-Err.ensures in
    create_refused old new c.args.name.now c.in-Err.e h.counts (h.undenied, h.lock, h.writes) h.files h.synced h.calls (λ e. h.missing (cc))
