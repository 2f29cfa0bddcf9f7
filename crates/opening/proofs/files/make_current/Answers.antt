use Rattle.std.proofs.Common.{◌≡◌, Result, Err, sym, subst, rules}
use Rattle.coding.specs.declared.error.DbError.{DbError}
use Rattle.store.proofs.Stopping.{sync_left}
use Rattle.edits.specs.Names.{name_of}
use Rattle.edits.specs.declared.names.FileName.TheVariants.{Current}
use Rattle.directory_writes.proofs.StoreCalls.{behind_added}
use Rattle.opening.specs.internal.Calls.{MakesCurrent}
use Rattle.opening.specs.internal.Durable.{MakesSynced}
use Rattle.opening.specs.internal.Renewing.{IsWritten}
use Rattle.opening.proofs.RenewSteps.{renamed_by, sets_moved, sets_synced, sets_unwritten}
use Rattle.opening.proofs.Syncing.{current_unwritten, current_unset, current_set, synced_again, not_synced_again}
use Rattle.opening.proofs.StoreCalls.{current_not_written, not_renamed, current_made, current_kept, current_not_kept, renamed_stops, unset_stops}
use Rattle.opening.proofs.Uncut.{kept_loses, moved, moved_or_not, renamed_loses, unset_loses}
use Rattle.opening.proofs.files.make_current.Goals as goal

pub returns-in_err-write_file-clause-files : goal.returns-in_err-write_file-clause-files
returns-in_err-write_file-clause-files g c =
    let old = g.S.Store.facts c.args.store.now in
    let new = g.S.Store.facts c.write_file.new.store in
    let is : c.from_residual.result ≡ Err c.in_err-write_file.field-0.0 = search rules in
    subst (λ (r : Result _ DbError). MakesCurrent old new c.args.temporary.now c.args.bytes.now r) (sym is) (current_not_written old new c.args.temporary.now c.args.bytes.now c.in_err-write_file.field-0.0 c.in_err-write_file.ensures.files)

pub returns-in-Err-clause-files : goal.returns-in-Err-clause-files
returns-in-Err-clause-files g c =
    not_renamed (g.S.Store.facts c.args.store.now) (g.S.Store.facts c.write_file.new.store) (g.S.Store.facts c.rename.new.self) c.args.temporary.now c.args.bytes.now c.in-Err.error c.refusal_of.result
    c.in_ok-write_file.ensures.files c.in-Err.ensures.counts (c.in-Err.ensures.undenied, c.in-Err.ensures.lock) c.in-Err.ensures.files (λ e. c.in-Err.ensures.missing (λ i. Err (e i))) c.refusal_of.ensures

pub returns-in-Err-sync-clause-files : goal.returns-in-Err-sync-clause-files
returns-in-Err-sync-clause-files g c =
    current_not_kept (g.S.Store.facts c.args.store.now) (g.S.Store.facts c.rename.new.self) (g.S.Store.facts c.sync.new.self) c.args.temporary.now c.args.bytes.now c.in-Err-sync.error c.refusal_of-in-Err-sync.result
    (current_made (g.S.Store.facts c.args.store.now) (g.S.Store.facts c.write_file.new.store) (g.S.Store.facts c.rename.new.self) c.args.temporary.now c.args.bytes.now
    c.in_ok-write_file.ensures.files c.in_default.ensures.counts (c.in_default.ensures.undenied, c.in_default.ensures.lock) c.in_default.ensures.files.ok)
    c.in-Err-sync.ensures.counts (c.sync.ensures.undenied, c.sync.ensures.lock) c.sync.ensures.same (λ e. c.in-Err-sync.ensures.missing (λ i. Err (e i))) c.refusal_of-in-Err-sync.ensures

pub returns-clause-files : goal.returns-clause-files
returns-clause-files g c =
    current_kept (g.S.Store.facts c.args.store.now) (g.S.Store.facts c.rename.new.self) (g.S.Store.facts c.sync.new.self) c.args.temporary.now c.args.bytes.now
    (current_made (g.S.Store.facts c.args.store.now) (g.S.Store.facts c.write_file.new.store) (g.S.Store.facts c.rename.new.self) c.args.temporary.now c.args.bytes.now
    c.in_ok-write_file.ensures.files c.in_default.ensures.counts (c.in_default.ensures.undenied, c.in_default.ensures.lock) c.in_default.ensures.files.ok)
    c.in_default-sync.ensures.counts (c.sync.ensures.undenied, c.sync.ensures.lock) c.sync.ensures.same

pub returns-in_err-write_file-clause-synced : goal.returns-in_err-write_file-clause-synced
returns-in_err-write_file-clause-synced g c =
    let old = g.S.Store.facts c.args.store.now in
    let new = g.S.Store.facts c.write_file.new.store in
    let is : c.from_residual.result ≡ Err c.in_err-write_file.field-0.0 = search rules in
    subst (λ (r : Result _ DbError). MakesSynced old new c.args.temporary.now c.args.bytes.now r) (sym is)
    (current_unwritten old new c.args.temporary.now c.args.bytes.now c.in_err-write_file.field-0.0 c.in_err-write_file.ensures.files c.in_err-write_file.ensures.synced)

pub returns-in-Err-clause-synced : goal.returns-in-Err-clause-synced
returns-in-Err-clause-synced g c =
    current_unset (g.S.Store.facts c.args.store.now) (g.S.Store.facts c.write_file.new.store) (g.S.Store.facts c.rename.new.self) c.args.temporary.now c.args.bytes.now c.in-Err.error c.refusal_of.result
    c.in-Err.ensures.counts.faithful c.in_ok-write_file.ensures.files c.in_ok-write_file.ensures.synced c.in-Err.ensures.files c.in-Err.ensures.synced (λ e. c.in-Err.ensures.missing (λ i. Err (e i)))

pub returns-in-Err-sync-clause-synced : goal.returns-in-Err-sync-clause-synced
returns-in-Err-sync-clause-synced g c =
    not_synced_again (g.S.Store.facts c.args.store.now) (g.S.Store.facts c.rename.new.self) (g.S.Store.facts c.sync.new.self) c.args.temporary.now c.args.bytes.now c.in-Err-sync.ensures.counts.faithful c.sync.ensures.same
    (current_set (g.S.Store.facts c.args.store.now) (g.S.Store.facts c.write_file.new.store) (g.S.Store.facts c.rename.new.self) c.args.temporary.now c.args.bytes.now
    c.in_default.ensures.counts.faithful c.in_ok-write_file.ensures.files c.in_ok-write_file.ensures.synced c.in_default.ensures.files.ok c.in_default.ensures.synced.ok)
    c.refusal_of-in-Err-sync.result c.in-Err-sync.ensures.unsynced

pub returns-clause-synced : goal.returns-clause-synced
returns-clause-synced g c =
    synced_again (g.S.Store.facts c.args.store.now) (g.S.Store.facts c.rename.new.self) (g.S.Store.facts c.sync.new.self) c.args.temporary.now c.args.bytes.now c.in_default-sync.ensures.counts.faithful c.sync.ensures.same
    (current_set (g.S.Store.facts c.args.store.now) (g.S.Store.facts c.write_file.new.store) (g.S.Store.facts c.rename.new.self) c.args.temporary.now c.args.bytes.now
    c.in_default.ensures.counts.faithful c.in_ok-write_file.ensures.files c.in_ok-write_file.ensures.synced c.in_default.ensures.files.ok c.in_default.ensures.synced.ok)
    c.in_default-sync.ensures.synced

pub returns-in_err-write_file-clause-stops : goal.returns-in_err-write_file-clause-stops
returns-in_err-write_file-clause-stops g c f = unset_stops (g.S.Store.facts c.args.store.now) (g.S.Store.facts c.write_file.new.store) c.args.temporary.now c.args.bytes.now (c.in_err-write_file.ensures.stops f)

pub returns-in-Err-clause-stops : goal.returns-in-Err-clause-stops
returns-in-Err-clause-stops g c f =
    let m = c.rename.ensures.counts.faithful f in
    renamed_stops (g.S.Store.facts c.args.store.now) (g.S.Store.facts c.write_file.new.store) (g.S.Store.facts c.rename.new.self) c.args.temporary.now c.args.bytes.now
    (c.in_ok-write_file.ensures.files.ok m) (c.in_ok-write_file.ensures.stops m) (c.rename.ensures.calls.noted f)

pub returns-in-Err-sync-clause-stops : goal.returns-in-Err-sync-clause-stops
returns-in-Err-sync-clause-stops g c f =
    let old = g.S.Store.facts c.args.store.now in
    let most = g.S.Store.facts c.rename.new.self in
    let l = c.sync.ensures.counts.faithful f in
    let m = c.rename.ensures.counts.faithful l in
    sync_left old most (g.S.Store.facts c.sync.new.self) _ _ c.sync.result (c.sync.ensures.calls.ok f) (c.sync.ensures.calls.err f) (c.sync.ensures.same f)
    (renamed_stops old (g.S.Store.facts c.write_file.new.store) most c.args.temporary.now c.args.bytes.now (c.in_ok-write_file.ensures.files.ok m) (c.in_ok-write_file.ensures.stops m) (c.rename.ensures.calls.noted l))

pub returns-clause-stops : goal.returns-clause-stops
returns-clause-stops g c f =
    let old = g.S.Store.facts c.args.store.now in
    let most = g.S.Store.facts c.rename.new.self in
    let l = c.sync.ensures.counts.faithful f in
    let m = c.rename.ensures.counts.faithful l in
    sync_left old most (g.S.Store.facts c.sync.new.self) _ _ c.sync.result (c.sync.ensures.calls.ok f) (c.sync.ensures.calls.err f) (c.sync.ensures.same f)
    (renamed_stops old (g.S.Store.facts c.write_file.new.store) most c.args.temporary.now c.args.bytes.now (c.in_ok-write_file.ensures.files.ok m) (c.in_ok-write_file.ensures.stops m) (c.rename.ensures.calls.noted l))

pub returns-clause-ends : goal.returns-clause-ends
returns-clause-ends g c = λ f. behind_added (g.S.Store.facts c.rename.new.self) (g.S.Store.facts c.sync.new.self) (name_of Current) (c.in_default-sync.ensures.calls.ok f)

-- ---- what a power loss leaves

pub returns-in_err-write_file-clause-loses : goal.returns-in_err-write_file-clause-loses
returns-in_err-write_file-clause-loses g c f apart stays = unset_loses (g.S.Store.facts c.args.store.now) c.args.temporary.now c.args.bytes.now (g.S.Store.facts c.write_file.new.store) (c.in_err-write_file.ensures.stops f) stays

pub returns-in-Err-clause-loses : goal.returns-in-Err-clause-loses
returns-in-Err-clause-loses g c f apart stays =
    let old = g.S.Store.facts c.args.store.now in
    let mid = g.S.Store.facts c.write_file.new.store in
    let new = g.S.Store.facts c.rename.new.self in
    let m = c.rename.ensures.counts.faithful f in
    let wrote = c.in_ok-write_file.ensures in
    let written : IsWritten old mid c.args.temporary.now c.args.bytes.now = record { only = wrote.stops m; there = wrote.files.ok m; kept = wrote.synced.ok m; ends = wrote.ends m } in
    renamed_loses old c.args.temporary.now c.args.bytes.now mid new written
    (moved_or_not mid new c.args.temporary.now c.args.bytes.now c.in-Err.error apart written.there c.in-Err.ensures.files c.in-Err.ensures.synced c.in-Err.ensures.calls (λ e. c.in-Err.ensures.missing (λ i. Err (e i))) f)
    stays

pub returns-in-Err-sync-clause-loses : goal.returns-in-Err-sync-clause-loses
returns-in-Err-sync-clause-loses g c f apart stays =
    let old = g.S.Store.facts c.args.store.now in
    let mid = g.S.Store.facts c.write_file.new.store in
    let third = g.S.Store.facts c.rename.new.self in
    let l = c.sync.ensures.counts.faithful f in
    let m = c.rename.ensures.counts.faithful l in
    let wrote = c.in_ok-write_file.ensures in
    let written : IsWritten old mid c.args.temporary.now c.args.bytes.now = record { only = wrote.stops m; there = wrote.files.ok m; kept = wrote.synced.ok m; ends = wrote.ends m } in
    kept_loses old c.args.temporary.now c.args.bytes.now mid third (g.S.Store.facts c.sync.new.self) c.sync.result written
    (moved mid third c.args.temporary.now (c.rename.ensures.calls.noted l) (c.in_default.ensures.synced.ok l)) (c.in_default.ensures.files.ok l) (c.in_default.ensures.synced.ok l) stays
    (c.sync.ensures.calls.ok f) (c.sync.ensures.calls.err f) (c.sync.ensures.same f) (c.sync.ensures.synced f) (c.sync.ensures.unsynced f)

pub returns-clause-loses : goal.returns-clause-loses
returns-clause-loses g c f apart stays =
    let old = g.S.Store.facts c.args.store.now in
    let mid = g.S.Store.facts c.write_file.new.store in
    let third = g.S.Store.facts c.rename.new.self in
    let l = c.sync.ensures.counts.faithful f in
    let m = c.rename.ensures.counts.faithful l in
    let wrote = c.in_ok-write_file.ensures in
    let written : IsWritten old mid c.args.temporary.now c.args.bytes.now = record { only = wrote.stops m; there = wrote.files.ok m; kept = wrote.synced.ok m; ends = wrote.ends m } in
    kept_loses old c.args.temporary.now c.args.bytes.now mid third (g.S.Store.facts c.sync.new.self) c.sync.result written
    (moved mid third c.args.temporary.now (c.rename.ensures.calls.noted l) (c.in_default.ensures.synced.ok l)) (c.in_default.ensures.files.ok l) (c.in_default.ensures.synced.ok l) stays
    (c.sync.ensures.calls.ok f) (c.sync.ensures.calls.err f) (c.sync.ensures.same f) (c.sync.ensures.synced f) (c.sync.ensures.unsynced f)

-- ---- call by call

pub returns-in_err-write_file-clause-sets : goal.returns-in_err-write_file-clause-sets
returns-in_err-write_file-clause-sets g c f apart =
    let new = g.S.Store.facts c.write_file.new.store in
    sets_unwritten (g.S.Store.facts c.args.store.now) new c.args.temporary.now c.args.bytes.now (λ last. last ≡ new) (c.in_err-write_file.ensures.stops f)

pub returns-in-Err-clause-sets : goal.returns-in-Err-clause-sets
returns-in-Err-clause-sets g c f apart =
    let old = g.S.Store.facts c.args.store.now in
    let mid = g.S.Store.facts c.write_file.new.store in
    let new = g.S.Store.facts c.rename.new.self in
    let m = c.rename.ensures.counts.faithful f in
    let wrote = c.in_ok-write_file.ensures in
    let written : IsWritten old mid c.args.temporary.now c.args.bytes.now = record { only = wrote.stops m; there = wrote.files.ok m; kept = wrote.synced.ok m; ends = wrote.ends m } in
    sets_moved old mid new c.args.temporary.now c.args.bytes.now (λ last. last ≡ new) written
    (moved_or_not mid new c.args.temporary.now c.args.bytes.now c.in-Err.error apart written.there c.in-Err.ensures.files c.in-Err.ensures.synced c.in-Err.ensures.calls (λ e. c.in-Err.ensures.missing (λ i. Err (e i))) f)

pub returns-in-Err-sync-clause-sets : goal.returns-in-Err-sync-clause-sets
returns-in-Err-sync-clause-sets g c f apart =
    let old = g.S.Store.facts c.args.store.now in
    let mid = g.S.Store.facts c.write_file.new.store in
    let third = g.S.Store.facts c.rename.new.self in
    let new = g.S.Store.facts c.sync.new.self in
    let l = c.sync.ensures.counts.faithful f in
    let m = c.rename.ensures.counts.faithful l in
    let wrote = c.in_ok-write_file.ensures in
    let written : IsWritten old mid c.args.temporary.now c.args.bytes.now = record { only = wrote.stops m; there = wrote.files.ok m; kept = wrote.synced.ok m; ends = wrote.ends m } in
    let done = renamed_by mid third c.args.temporary.now c.args.bytes.now apart written.there (moved mid third c.args.temporary.now (c.rename.ensures.calls.noted l) (c.in_default.ensures.synced.ok l)) (c.in_default.ensures.files.ok l) in
    sets_synced old mid third new c.args.temporary.now c.args.bytes.now c.sync.result written done
    (c.sync.ensures.calls.ok f) (c.sync.ensures.calls.err f) (c.sync.ensures.same f) (c.sync.ensures.synced f) (c.sync.ensures.unsynced f)

pub returns-clause-sets : goal.returns-clause-sets
returns-clause-sets g c f apart =
    let old = g.S.Store.facts c.args.store.now in
    let mid = g.S.Store.facts c.write_file.new.store in
    let third = g.S.Store.facts c.rename.new.self in
    let new = g.S.Store.facts c.sync.new.self in
    let l = c.sync.ensures.counts.faithful f in
    let m = c.rename.ensures.counts.faithful l in
    let wrote = c.in_ok-write_file.ensures in
    let written : IsWritten old mid c.args.temporary.now c.args.bytes.now = record { only = wrote.stops m; there = wrote.files.ok m; kept = wrote.synced.ok m; ends = wrote.ends m } in
    let done = renamed_by mid third c.args.temporary.now c.args.bytes.now apart written.there (moved mid third c.args.temporary.now (c.rename.ensures.calls.noted l) (c.in_default.ensures.synced.ok l)) (c.in_default.ensures.files.ok l) in
    sets_synced old mid third new c.args.temporary.now c.args.bytes.now c.sync.result written done
    (c.sync.ensures.calls.ok f) (c.sync.ensures.calls.err f) (c.sync.ensures.same f) (c.sync.ensures.synced f) (c.sync.ensures.unsynced f)

pub returns-clause-whole : goal.returns-clause-whole
returns-clause-whole g c f apart =
    let old = g.S.Store.facts c.args.store.now in
    let mid = g.S.Store.facts c.write_file.new.store in
    let third = g.S.Store.facts c.rename.new.self in
    let new = g.S.Store.facts c.sync.new.self in
    let l = c.sync.ensures.counts.faithful f in
    let m = c.rename.ensures.counts.faithful l in
    let wrote = c.in_ok-write_file.ensures in
    let written : IsWritten old mid c.args.temporary.now c.args.bytes.now = record { only = wrote.stops m; there = wrote.files.ok m; kept = wrote.synced.ok m; ends = wrote.ends m } in
    let done = renamed_by mid third c.args.temporary.now c.args.bytes.now apart written.there (moved mid third c.args.temporary.now (c.rename.ensures.calls.noted l) (c.in_default.ensures.synced.ok l)) (c.in_default.ensures.files.ok l) in
    (mid, third, written, done, (c.in_default-sync.ensures.calls.ok f, c.in_default-sync.ensures.synced f))
