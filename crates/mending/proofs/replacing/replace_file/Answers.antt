use Rattle.std.proofs.Common.{Err, inr, sym, subst, arith}
use Rattle.coding.specs.declared.error.DbError.{DbError}
use Rattle.mending.specs.Calls.{RefusesMend}
use Rattle.mending.proofs.LosingFiles.{kept_loses, made_durable, moved_loses, moved_or_not, unset_loses}
use Rattle.mending.proofs.Writing.{refused_later, unset_stops, moved_stops, synced_stops, replaced}
use Rattle.mending.proofs.replacing.replace_file.Goals as goal

pub returns-in_err-write_file-clause-stops : goal.returns-in_err-write_file-clause-stops
returns-in_err-write_file-clause-stops g c f =
    unset_stops (g.S.Store.facts c.args.store.now) (g.S.Store.facts c.write_file.new.store) c.args.temporary.now c.args.name.now c.args.bytes.now (c.in_err-write_file.ensures.only f).leaves

pub returns-in-Err-clause-refused : goal.returns-in-Err-clause-refused
returns-in-Err-clause-refused g c =
    let old = g.S.Store.facts c.args.store.now in
    let mid = g.S.Store.facts c.write_file.new.store in
    let new = g.S.Store.facts c.rename.new.self in
    subst (λ (e : DbError). RefusesMend e old new ⊥ ⊥) (sym c.refusal_of.ensures) (refused_later old mid new c.in-Err.error c.in_ok-write_file.ensures.writes.failures c.in-Err.ensures.counts (λ e. c.in-Err.ensures.missing (λ i. Err (e i))))

pub returns-in-Err-clause-stops : goal.returns-in-Err-clause-stops
returns-in-Err-clause-stops g c f =
    let m = c.rename.ensures.counts.faithful f in
    moved_stops (g.S.Store.facts c.args.store.now) (g.S.Store.facts c.write_file.new.store) (g.S.Store.facts c.rename.new.self) c.args.temporary.now c.args.name.now c.args.bytes.now
    (c.in_ok-write_file.ensures.written m).there (c.in_ok-write_file.ensures.only m).leaves (c.rename.ensures.calls.noted f)

pub returns-in-Err-sync-clause-refused : goal.returns-in-Err-sync-clause-refused
returns-in-Err-sync-clause-refused g c =
    let old = g.S.Store.facts c.args.store.now in
    let most = g.S.Store.facts c.rename.new.self in
    let new = g.S.Store.facts c.sync.new.self in
    subst (λ (e : DbError). RefusesMend e old new ⊥ ⊥) (sym c.refusal_of-in-Err-sync.ensures) (refused_later old most new c.in-Err-sync.error (omega (arith, c.in_ok-write_file.ensures.writes.failures, c.rename.ensures.counts.failures)) c.in-Err-sync.ensures.counts (λ e. c.in-Err-sync.ensures.missing (λ i. Err (e i))))

pub returns-in-Err-sync-clause-stops : goal.returns-in-Err-sync-clause-stops
returns-in-Err-sync-clause-stops g c f =
    let old = g.S.Store.facts c.args.store.now in
    let mid = g.S.Store.facts c.write_file.new.store in
    let most = g.S.Store.facts c.rename.new.self in
    let l = c.sync.ensures.counts.faithful f in
    let m = c.rename.ensures.counts.faithful l in
    synced_stops old most (g.S.Store.facts c.sync.new.self) c.args.name.now _ c.sync.result
    (moved_stops old mid most c.args.temporary.now c.args.name.now c.args.bytes.now (c.in_ok-write_file.ensures.written m).there (c.in_ok-write_file.ensures.only m).leaves (c.rename.ensures.calls.noted l))
    (c.sync.ensures.calls.ok f) (c.sync.ensures.calls.err f) (c.sync.ensures.same f)

pub returns-clause-stops : goal.returns-clause-stops
returns-clause-stops g c f =
    let old = g.S.Store.facts c.args.store.now in
    let mid = g.S.Store.facts c.write_file.new.store in
    let most = g.S.Store.facts c.rename.new.self in
    let l = c.sync.ensures.counts.faithful f in
    let m = c.rename.ensures.counts.faithful l in
    synced_stops old most (g.S.Store.facts c.sync.new.self) c.args.name.now _ c.sync.result
    (moved_stops old mid most c.args.temporary.now c.args.name.now c.args.bytes.now (c.in_ok-write_file.ensures.written m).there (c.in_ok-write_file.ensures.only m).leaves (c.rename.ensures.calls.noted l))
    (c.sync.ensures.calls.ok f) (c.sync.ensures.calls.err f) (c.sync.ensures.same f)

pub returns-clause-replaced : goal.returns-clause-replaced
returns-clause-replaced g c f =
    let l = c.sync.ensures.counts.faithful f in
    let m = c.rename.ensures.counts.faithful l in
    replaced (g.S.Store.facts c.args.store.now).files (g.S.Store.facts c.write_file.new.store).files (g.S.Store.facts c.rename.new.self).files (g.S.Store.facts c.sync.new.self).files c.args.temporary.now c.args.name.now c.args.bytes.now
    (c.in_ok-write_file.ensures.written m).there (c.in_ok-write_file.ensures.only m).leaves.now (c.in_default.ensures.files.ok l) (c.sync.ensures.same f)

-- ---- what a power loss leaves

pub returns-in_err-write_file-clause-loses : goal.returns-in_err-write_file-clause-loses
returns-in_err-write_file-clause-loses g c f stayed =
    unset_loses (g.S.Store.facts c.args.store.now) c.args.temporary.now c.args.name.now c.args.bytes.now c.synced_law.ensures (g.S.Store.facts c.write_file.new.store) (c.in_err-write_file.ensures.only f) stayed

pub returns-in-Err-clause-loses : goal.returns-in-Err-clause-loses
returns-in-Err-clause-loses g c f stayed =
    let mid = g.S.Store.facts c.write_file.new.store in
    let new = g.S.Store.facts c.rename.new.self in
    let m = c.rename.ensures.counts.faithful f in
    moved_loses (g.S.Store.facts c.args.store.now) mid new c.args.temporary.now c.args.name.now c.args.bytes.now c.synced_law.ensures (c.in_ok-write_file.ensures.only m) (c.in_ok-write_file.ensures.written m)
    (moved_or_not mid new c.args.temporary.now c.args.name.now c.in-Err.error c.in-Err.ensures.files c.in-Err.ensures.synced (c.rename.ensures.calls.noted f) (λ e. c.in-Err.ensures.missing (λ i. Err (e i))) f) stayed

pub returns-in-Err-sync-clause-loses : goal.returns-in-Err-sync-clause-loses
returns-in-Err-sync-clause-loses g c f stayed =
    let mid = g.S.Store.facts c.write_file.new.store in
    let most = g.S.Store.facts c.rename.new.self in
    let l = c.sync.ensures.counts.faithful f in
    let m = c.rename.ensures.counts.faithful l in
    let files = c.in_default.ensures.files.ok l in
    let synced = c.in_default.ensures.synced.ok l in
    kept_loses (g.S.Store.facts c.args.store.now) mid most c.args.temporary.now c.args.name.now c.args.bytes.now c.synced_law.ensures (c.in_ok-write_file.ensures.only m) (c.in_ok-write_file.ensures.written m)
    (c.rename.ensures.calls.noted l, inr (files, synced)) (g.S.Store.facts c.sync.new.self) c.sync.result files synced
    (c.sync.ensures.calls.ok f) (c.sync.ensures.calls.err f) (c.sync.ensures.same f) (c.sync.ensures.synced f) (c.sync.ensures.unsynced f) stayed

pub returns-clause-loses : goal.returns-clause-loses
returns-clause-loses g c f stayed =
    let mid = g.S.Store.facts c.write_file.new.store in
    let most = g.S.Store.facts c.rename.new.self in
    let l = c.sync.ensures.counts.faithful f in
    let m = c.rename.ensures.counts.faithful l in
    let files = c.in_default.ensures.files.ok l in
    let synced = c.in_default.ensures.synced.ok l in
    kept_loses (g.S.Store.facts c.args.store.now) mid most c.args.temporary.now c.args.name.now c.args.bytes.now c.synced_law.ensures (c.in_ok-write_file.ensures.only m) (c.in_ok-write_file.ensures.written m)
    (c.rename.ensures.calls.noted l, inr (files, synced)) (g.S.Store.facts c.sync.new.self) c.sync.result files synced
    (c.sync.ensures.calls.ok f) (c.sync.ensures.calls.err f) (c.sync.ensures.same f) (c.sync.ensures.synced f) (c.sync.ensures.unsynced f) stayed

pub returns-clause-durable : goal.returns-clause-durable
returns-clause-durable g c f =
    let l = c.sync.ensures.counts.faithful f in
    let m = c.rename.ensures.counts.faithful l in
    made_durable (g.S.Store.facts c.args.store.now) (g.S.Store.facts c.write_file.new.store) (g.S.Store.facts c.rename.new.self) (g.S.Store.facts c.sync.new.self) c.args.temporary.now c.args.name.now c.args.bytes.now
    (c.in_ok-write_file.ensures.only m) (c.in_ok-write_file.ensures.written m) (c.in_default.ensures.files.ok l) (c.in_default.ensures.synced.ok l)
    (c.in_default-sync.ensures.calls.ok f) (c.sync.ensures.same f) (c.in_default-sync.ensures.synced f)
