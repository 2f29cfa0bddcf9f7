use Rattle.table.proofs.Storing.{append_writes, append_appends, append_refused}
use Rattle.table.proofs.writing.append.Goals as goal

pub returns-in-Ok-clause-writes : goal.returns-in-Ok-clause-writes
returns-in-Ok-clause-writes g c =
    let old = g.S.Store.facts c.args.store.now in
    let new = g.S.Store.facts c.append.new.self in
    let h = c.in-Ok.ensures in
    append_writes old new c.args.name.now c.args.bytes.now h.counts (h.undenied, h.lock, h.writes) h.files h.synced h.calls

pub returns-in-Ok-clause-appended : goal.returns-in-Ok-clause-appended
returns-in-Ok-clause-appended g c =
    append_appends (g.S.Store.facts c.args.store.now) (g.S.Store.facts c.append.new.self) c.args.name.now c.args.bytes.now c.in-Ok.ensures.files

pub returns-in-Err-clause-writes : goal.returns-in-Err-clause-writes
returns-in-Err-clause-writes g c =
    let old = g.S.Store.facts c.args.store.now in
    let new = g.S.Store.facts c.append.new.self in
    let h = c.in-Err.ensures in
    append_refused old new c.args.name.now c.args.bytes.now c.in-Err.e h.counts (h.undenied, h.lock, h.writes) h.files h.synced h.calls (λ e. h.missing (cc))
