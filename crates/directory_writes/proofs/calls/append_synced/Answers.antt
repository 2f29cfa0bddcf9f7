use Rattle.std.proofs.Common.{Err, ℕ, List, arith}
use Rattle.directory_writes.proofs.StoreCalls.{not_appended, not_synced, appended, behind_added}
use Rattle.store.proofs.Carrying.{carries_puts}
use Rattle.store.proofs.LosingOn.{puts_begun, puts_by}
use Rattle.store.proofs.Stopping.{append_left, sync_left}
use Rattle.directory_writes.proofs.calls.append_synced.Goals as goal

pub returns-in-Err-clause-appends : goal.returns-in-Err-clause-appends
returns-in-Err-clause-appends g c =
    not_appended (g.S.Store.facts c.args.store.now) (g.S.Store.facts c.append.new.self) c.args.name.now c.args.bytes.now c.in-Err.error c.refusal_of.result
    c.in-Err.ensures.files c.in-Err.ensures.synced c.refusal_of.ensures (λ e. c.in-Err.ensures.missing (λ i. Err (e i)))

pub returns-in-Err-sync-clause-appends : goal.returns-in-Err-sync-clause-appends
returns-in-Err-sync-clause-appends g c =
    not_synced (g.S.Store.facts c.args.store.now) (g.S.Store.facts c.append.new.self) (g.S.Store.facts c.sync.new.self) c.args.name.now c.args.bytes.now c.in-Err-sync.error c.refusal_of-in-Err-sync.result
    c.in-Err-sync.ensures.counts.faithful c.in_default.ensures.files.ok c.append.ensures.synced c.sync.ensures.same c.in-Err-sync.ensures.unsynced
    c.refusal_of-in-Err-sync.ensures (λ e. c.in-Err-sync.ensures.missing (λ i. Err (e i))) (λ e. c.in-Err-sync.ensures.memory (λ i. Err (e i)))

pub returns-clause-appends : goal.returns-clause-appends
returns-clause-appends g c =
    appended (g.S.Store.facts c.args.store.now) (g.S.Store.facts c.append.new.self) (g.S.Store.facts c.sync.new.self) c.args.name.now c.args.bytes.now
    c.in_default-sync.ensures.counts.faithful c.in_default.ensures.files.ok c.append.ensures.synced c.sync.ensures.same c.in_default-sync.ensures.synced

pub returns-in-Err-sync-clause-fails : goal.returns-in-Err-sync-clause-fails
returns-in-Err-sync-clause-fails g c = omega (arith, c.append.ensures.writes, c.sync.ensures.writes)

pub returns-clause-fails : goal.returns-clause-fails
returns-clause-fails g c = omega (arith, c.append.ensures.writes, c.sync.ensures.writes)

pub returns-in-Err-clause-stops : goal.returns-in-Err-clause-stops
returns-in-Err-clause-stops g c f = append_left (g.S.Store.facts c.args.store.now) (g.S.Store.facts c.append.new.self) c.args.name.now c.args.bytes.now (c.append.ensures.calls.noted f)

pub returns-in-Err-sync-clause-stops : goal.returns-in-Err-sync-clause-stops
returns-in-Err-sync-clause-stops g c f =
    let old = g.S.Store.facts c.args.store.now in
    let mid = g.S.Store.facts c.append.new.self in
    let new = g.S.Store.facts c.sync.new.self in
    sync_left old mid new c.args.name.now _ c.sync.result (c.sync.ensures.calls.ok f) (c.sync.ensures.calls.err f) (c.sync.ensures.same f)
    (append_left old mid c.args.name.now c.args.bytes.now (c.append.ensures.calls.noted (c.sync.ensures.counts.faithful f)))

pub returns-clause-stops : goal.returns-clause-stops
returns-clause-stops g c f =
    let old = g.S.Store.facts c.args.store.now in
    let mid = g.S.Store.facts c.append.new.self in
    let new = g.S.Store.facts c.sync.new.self in
    sync_left old mid new c.args.name.now _ c.sync.result (c.sync.ensures.calls.ok f) (c.sync.ensures.calls.err f) (c.sync.ensures.same f)
    (append_left old mid c.args.name.now c.args.bytes.now (c.append.ensures.calls.noted (c.sync.ensures.counts.faithful f)))

pub returns-in-Err-clause-puts : goal.returns-in-Err-clause-puts
returns-in-Err-clause-puts g c f = puts_begun (g.S.Store.facts c.args.store.now) (g.S.Store.facts c.append.new.self) c.args.name.now c.args.bytes.now (c.append.ensures.synced f) (c.append.ensures.calls.noted f)

pub returns-in-Err-sync-clause-puts : goal.returns-in-Err-sync-clause-puts
returns-in-Err-sync-clause-puts g c f =
    let early = c.sync.ensures.counts.faithful f in
    puts_by (g.S.Store.facts c.args.store.now) (g.S.Store.facts c.append.new.self) (g.S.Store.facts c.sync.new.self) c.args.name.now c.args.bytes.now c.sync.result (c.append.ensures.synced early) (c.append.ensures.calls.noted early)
    (c.sync.ensures.calls.ok f) (c.sync.ensures.calls.err f) (c.sync.ensures.same f) (c.sync.ensures.synced f) (c.sync.ensures.unsynced f)

pub returns-clause-puts : goal.returns-clause-puts
returns-clause-puts g c f =
    let early = c.sync.ensures.counts.faithful f in
    puts_by (g.S.Store.facts c.args.store.now) (g.S.Store.facts c.append.new.self) (g.S.Store.facts c.sync.new.self) c.args.name.now c.args.bytes.now c.sync.result (c.append.ensures.synced early) (c.append.ensures.calls.noted early)
    (c.sync.ensures.calls.ok f) (c.sync.ensures.calls.err f) (c.sync.ensures.same f) (c.sync.ensures.synced f) (c.sync.ensures.unsynced f)

pub returns-in-Err-clause-carries : goal.returns-in-Err-clause-carries
returns-in-Err-clause-carries g c f =
    carries_puts (g.S.Store.facts c.args.store.now) (g.S.Store.facts c.append.new.self) c.args.name.now c.args.bytes.now (λ (q : List ℕ). ⊥) (returns-in-Err-clause-puts g c f)

pub returns-in-Err-sync-clause-carries : goal.returns-in-Err-sync-clause-carries
returns-in-Err-sync-clause-carries g c f =
    carries_puts (g.S.Store.facts c.args.store.now) (g.S.Store.facts c.sync.new.self) c.args.name.now c.args.bytes.now (λ (q : List ℕ). ⊥) (returns-in-Err-sync-clause-puts g c f)

pub returns-clause-carries : goal.returns-clause-carries
returns-clause-carries g c f =
    carries_puts (g.S.Store.facts c.args.store.now) (g.S.Store.facts c.sync.new.self) c.args.name.now c.args.bytes.now (λ (q : List ℕ). ⊥) (returns-clause-puts g c f)

pub returns-clause-ends : goal.returns-clause-ends
returns-clause-ends g c f = behind_added (g.S.Store.facts c.append.new.self) (g.S.Store.facts c.sync.new.self) c.args.name.now (c.in_default-sync.ensures.calls.ok f)
