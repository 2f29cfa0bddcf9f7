use Rattle.std.proofs.Common.{◌≡◌, Result, Ok, Err, sym, ◌∙◌, subst, rules}
use Rattle.coding.specs.declared.error.DbError.{DbError}
use Rattle.directory_writes.proofs.StoreCalls.{behind_added}
use Rattle.opening.specs.internal.Calls.{Writes}
use Rattle.opening.specs.internal.Durable.{WritesSynced}
use Rattle.opening.proofs.RenewSteps.{starts_appended, starts_refused, starts_synced}
use Rattle.opening.proofs.Syncing.{unwritten, unwritten_behind, written}
use Rattle.opening.proofs.StoreCalls.{appended_stops, created, not_created, not_appended, not_synced, file_written, sync_others, synced_stops}
use Rattle.opening.proofs.files.write_file.Goals as goal

pub returns-in_err-create_file-clause-files : goal.returns-in_err-create_file-clause-files
returns-in_err-create_file-clause-files g c =
    let old = g.S.Store.facts c.args.store.now in
    let new = g.S.Store.facts c.create_file.new.store in
    let is : c.from_residual.result ≡ Err c.in_err-create_file.field-0.0 = search rules in
    subst (λ (r : Result _ DbError). Writes old new c.args.name.now c.args.bytes.now r) (sym is) (not_created old new c.args.name.now c.args.bytes.now c.in_err-create_file.field-0.0 (created old new c.args.name.now (Err c.in_err-create_file.field-0.0) c.in_err-create_file.ensures.call c.in_err-create_file.ensures.counted c.in_err-create_file.ensures.refused c.in_err-create_file.ensures.creates))

pub returns-in-Err-clause-files : goal.returns-in-Err-clause-files
returns-in-Err-clause-files g c =
    not_appended (g.S.Store.facts c.args.store.now) (g.S.Store.facts c.create_file.new.store) (g.S.Store.facts c.append.new.self) c.args.name.now c.args.bytes.now c.in-Err.error c.refusal_of.result
    (created (g.S.Store.facts c.args.store.now) (g.S.Store.facts c.create_file.new.store) c.args.name.now (Ok c.in_ok-create_file.field-0) c.in_ok-create_file.ensures.call c.in_ok-create_file.ensures.counted c.in_ok-create_file.ensures.refused c.in_ok-create_file.ensures.creates) c.in-Err.ensures.counts (c.in-Err.ensures.undenied, c.in-Err.ensures.lock) c.in-Err.ensures.files (λ e. c.in-Err.ensures.missing (λ i. Err (e i))) c.refusal_of.ensures

pub returns-in-Err-sync-clause-files : goal.returns-in-Err-sync-clause-files
returns-in-Err-sync-clause-files g c =
    not_synced (g.S.Store.facts c.args.store.now) (g.S.Store.facts c.create_file.new.store) (g.S.Store.facts c.append.new.self) (g.S.Store.facts c.sync.new.self) c.args.name.now c.args.bytes.now c.in-Err-sync.error c.refusal_of-in-Err-sync.result
    (created (g.S.Store.facts c.args.store.now) (g.S.Store.facts c.create_file.new.store) c.args.name.now (Ok c.in_ok-create_file.field-0) c.in_ok-create_file.ensures.call c.in_ok-create_file.ensures.counted c.in_ok-create_file.ensures.refused c.in_ok-create_file.ensures.creates) c.in_default.ensures.counts (c.in_default.ensures.undenied, c.in_default.ensures.lock) c.in_default.ensures.files.ok c.in-Err-sync.ensures.counts (c.sync.ensures.undenied, c.sync.ensures.lock) c.sync.ensures.same (λ e. c.in-Err-sync.ensures.missing (λ i. Err (e i))) c.refusal_of-in-Err-sync.ensures

pub returns-clause-files : goal.returns-clause-files
returns-clause-files g c =
    file_written (g.S.Store.facts c.args.store.now) (g.S.Store.facts c.create_file.new.store) (g.S.Store.facts c.append.new.self) (g.S.Store.facts c.sync.new.self) c.args.name.now c.args.bytes.now
    (created (g.S.Store.facts c.args.store.now) (g.S.Store.facts c.create_file.new.store) c.args.name.now (Ok c.in_ok-create_file.field-0) c.in_ok-create_file.ensures.call c.in_ok-create_file.ensures.counted c.in_ok-create_file.ensures.refused c.in_ok-create_file.ensures.creates) c.in_default.ensures.counts (c.in_default.ensures.undenied, c.in_default.ensures.lock) c.in_default.ensures.files.ok c.in_default-sync.ensures.counts (c.sync.ensures.undenied, c.sync.ensures.lock) c.sync.ensures.same

pub returns-in_err-create_file-clause-synced : goal.returns-in_err-create_file-clause-synced
returns-in_err-create_file-clause-synced g c =
    let old = g.S.Store.facts c.args.store.now in
    let new = g.S.Store.facts c.create_file.new.store in
    let is : c.from_residual.result ≡ Err c.in_err-create_file.field-0.0 = search rules in
    subst (λ (r : Result _ DbError). WritesSynced old new c.args.name.now c.args.bytes.now r) (sym is) (unwritten old new c.args.name.now c.args.bytes.now c.in_err-create_file.field-0.0 c.in_err-create_file.ensures.creates.synced)

pub returns-in-Err-clause-synced : goal.returns-in-Err-clause-synced
returns-in-Err-clause-synced g c =
    unwritten_behind (g.S.Store.facts c.args.store.now) (g.S.Store.facts c.create_file.new.store) (g.S.Store.facts c.append.new.self) c.args.name.now c.args.bytes.now c.refusal_of.result
    c.in-Err.ensures.counts.faithful c.in_ok-create_file.ensures.creates.synced c.append.ensures.synced

pub returns-in-Err-sync-clause-synced : goal.returns-in-Err-sync-clause-synced
returns-in-Err-sync-clause-synced g c =
    let back = c.in-Err-sync.ensures.counts.faithful in
    unwritten_behind (g.S.Store.facts c.args.store.now) (g.S.Store.facts c.create_file.new.store) (g.S.Store.facts c.sync.new.self) c.args.name.now c.args.bytes.now c.refusal_of-in-Err-sync.result
    (λ f. c.in_default.ensures.counts.faithful (back f)) c.in_ok-create_file.ensures.creates.synced (λ f. c.in-Err-sync.ensures.unsynced f ∙ c.append.ensures.synced (back f))

pub returns-clause-synced : goal.returns-clause-synced
returns-clause-synced g c =
    written (g.S.Store.facts c.args.store.now) (g.S.Store.facts c.create_file.new.store) (g.S.Store.facts c.append.new.self) (g.S.Store.facts c.sync.new.self) c.args.name.now c.args.bytes.now
    c.in_default-sync.ensures.counts.faithful c.in_default.ensures.counts.faithful c.in_ok-create_file.ensures.creates.synced c.append.ensures.synced c.in_default-sync.ensures.synced c.sync.ensures.same (returns-clause-files g c).ok

pub returns-in_err-create_file-clause-stops : goal.returns-in_err-create_file-clause-stops
returns-in_err-create_file-clause-stops g c f = c.in_err-create_file.ensures.only f

pub returns-in-Err-clause-stops : goal.returns-in-Err-clause-stops
returns-in-Err-clause-stops g c f =
    let old = g.S.Store.facts c.args.store.now in
    let mid = g.S.Store.facts c.create_file.new.store in
    appended_stops old mid (g.S.Store.facts c.append.new.self) c.args.name.now c.args.bytes.now (c.in_ok-create_file.ensures.only (c.append.ensures.counts.faithful f)) (c.append.ensures.calls.noted f) (c.append.ensures.synced f)

pub returns-in-Err-sync-clause-stops : goal.returns-in-Err-sync-clause-stops
returns-in-Err-sync-clause-stops g c f =
    let old = g.S.Store.facts c.args.store.now in
    let mid = g.S.Store.facts c.create_file.new.store in
    let most = g.S.Store.facts c.append.new.self in
    let new = g.S.Store.facts c.sync.new.self in
    let m = c.sync.ensures.counts.faithful f in
    synced_stops old most new c.args.name.now c.sync.result
    (appended_stops old mid most c.args.name.now c.args.bytes.now (c.in_ok-create_file.ensures.only (c.append.ensures.counts.faithful m)) (c.append.ensures.calls.noted m) (c.append.ensures.synced m))
    (c.sync.ensures.calls.ok f) (c.sync.ensures.calls.err f) (c.sync.ensures.same f) (sync_others most new c.args.name.now c.sync.result (c.sync.ensures.synced f) (c.sync.ensures.unsynced f))

pub returns-clause-stops : goal.returns-clause-stops
returns-clause-stops g c f =
    let old = g.S.Store.facts c.args.store.now in
    let mid = g.S.Store.facts c.create_file.new.store in
    let most = g.S.Store.facts c.append.new.self in
    let new = g.S.Store.facts c.sync.new.self in
    let m = c.sync.ensures.counts.faithful f in
    synced_stops old most new c.args.name.now c.sync.result
    (appended_stops old mid most c.args.name.now c.args.bytes.now (c.in_ok-create_file.ensures.only (c.append.ensures.counts.faithful m)) (c.append.ensures.calls.noted m) (c.append.ensures.synced m))
    (c.sync.ensures.calls.ok f) (c.sync.ensures.calls.err f) (c.sync.ensures.same f) (sync_others most new c.args.name.now c.sync.result (c.sync.ensures.synced f) (c.sync.ensures.unsynced f))

pub returns-clause-ends : goal.returns-clause-ends
returns-clause-ends g c = λ f. behind_added (g.S.Store.facts c.append.new.self) (g.S.Store.facts c.sync.new.self) c.args.name.now (c.in_default-sync.ensures.calls.ok f)

-- ---- a file that wasn't there

pub returns-in_err-create_file-clause-starts : goal.returns-in_err-create_file-clause-starts
returns-in_err-create_file-clause-starts g c f absent = starts_refused (g.S.Store.facts c.args.store.now) (g.S.Store.facts c.create_file.new.store) c.args.name.now (c.in_err-create_file.ensures.noted f)

pub returns-in-Err-clause-starts : goal.returns-in-Err-clause-starts
returns-in-Err-clause-starts g c f absent =
    let m = c.append.ensures.counts.faithful f in
    let made = c.in_ok-create_file.ensures in
    starts_appended (g.S.Store.facts c.args.store.now) (g.S.Store.facts c.create_file.new.store) (g.S.Store.facts c.append.new.self) c.args.name.now c.args.bytes.now
    absent (made.creates.ok m) (made.noted m) (c.append.ensures.calls.noted f) (c.append.ensures.synced f)

pub returns-in-Err-sync-clause-starts : goal.returns-in-Err-sync-clause-starts
returns-in-Err-sync-clause-starts g c f absent =
    let l = c.sync.ensures.counts.faithful f in
    let m = c.append.ensures.counts.faithful l in
    let made = c.in_ok-create_file.ensures in
    starts_synced (g.S.Store.facts c.args.store.now) (g.S.Store.facts c.create_file.new.store) (g.S.Store.facts c.append.new.self) (g.S.Store.facts c.sync.new.self) c.args.name.now c.args.bytes.now c.sync.result
    absent (made.creates.ok m) (made.noted m) (c.append.ensures.calls.noted l) (c.append.ensures.synced l)
    (c.sync.ensures.calls.ok f) (c.sync.ensures.calls.err f) (c.sync.ensures.same f) (c.sync.ensures.synced f) (c.sync.ensures.unsynced f)

pub returns-clause-starts : goal.returns-clause-starts
returns-clause-starts g c f absent =
    let l = c.sync.ensures.counts.faithful f in
    let m = c.append.ensures.counts.faithful l in
    let made = c.in_ok-create_file.ensures in
    starts_synced (g.S.Store.facts c.args.store.now) (g.S.Store.facts c.create_file.new.store) (g.S.Store.facts c.append.new.self) (g.S.Store.facts c.sync.new.self) c.args.name.now c.args.bytes.now c.sync.result
    absent (made.creates.ok m) (made.noted m) (c.append.ensures.calls.noted l) (c.append.ensures.synced l)
    (c.sync.ensures.calls.ok f) (c.sync.ensures.calls.err f) (c.sync.ensures.same f) (c.sync.ensures.synced f) (c.sync.ensures.unsynced f)
