use Rattle.table.proofs.Storing.{sync_ends, sync_writes, sync_keeps, sync_refused}
use Rattle.table.proofs.writing.sync.Goals as goal

pub returns-in-Ok-clause-writes : goal.returns-in-Ok-clause-writes
returns-in-Ok-clause-writes g c =
    let h = c.in-Ok.ensures in
    sync_writes (g.S.Store.facts c.args.store.now) (g.S.Store.facts c.sync.new.self) c.args.name.now h.counts (h.undenied, h.lock, h.writes) h.same h.synced h.calls

pub returns-in-Ok-clause-synced : goal.returns-in-Ok-clause-synced
returns-in-Ok-clause-synced g c =
    sync_keeps (g.S.Store.facts c.args.store.now) (g.S.Store.facts c.sync.new.self) c.args.name.now c.in-Ok.ensures.same c.in-Ok.ensures.synced

pub returns-in-Err-Device-clause-writes : goal.returns-in-Err-Device-clause-writes
returns-in-Err-Device-clause-writes g c =
    let h = c.in-Err-Device.ensures in
    sync_refused (g.S.Store.facts c.args.store.now) (g.S.Store.facts c.sync.new.self) c.args.name.now c.in-Err-Device.field-0 h.counts (h.undenied, h.lock, h.writes) h.same h.unsynced h.calls

pub returns-in-Ok-clause-ends : goal.returns-in-Ok-clause-ends
returns-in-Ok-clause-ends g c t = sync_ends (g.S.Store.facts c.args.store.now) (g.S.Store.facts c.sync.new.self) c.args.name.now (c.in-Ok.ensures.calls.ok t)
