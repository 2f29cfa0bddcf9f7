use Rattle.std.proofs.Common.{Err, sym, subst, arith}
use Rattle.coding.specs.declared.error.DbError.{DbError}
use Rattle.mending.specs.Calls.{RefusesMend}
use Rattle.mending.proofs.LosingFiles.{appended_only, created_only, created_synced, synced_only, written_durable}
use Rattle.mending.proofs.Writing.{refused_later}
use Rattle.mending.proofs.replacing.write_file.Goals as goal

pub returns-in-Err-clause-refused : goal.returns-in-Err-clause-refused
returns-in-Err-clause-refused g c =
    let old = g.S.Store.facts c.args.store.now in
    let new = g.S.Store.facts c.create.new.self in
    subst (λ (e : DbError). RefusesMend e old new ⊥ ⊥) (sym c.refusal_of.ensures) (refused_later old old new c.in-Err.error (omega arith) c.in-Err.ensures.counts (λ e. c.in-Err.ensures.missing (λ i. Err (e i))))

pub returns-in-Err-append-clause-refused : goal.returns-in-Err-append-clause-refused
returns-in-Err-append-clause-refused g c =
    let old = g.S.Store.facts c.args.store.now in
    let mid = g.S.Store.facts c.create.new.self in
    let new = g.S.Store.facts c.append.new.self in
    subst (λ (e : DbError). RefusesMend e old new ⊥ ⊥) (sym c.refusal_of-in-Err-append.ensures) (refused_later old mid new c.in-Err-append.error c.create.ensures.counts.failures c.in-Err-append.ensures.counts (λ e. c.in-Err-append.ensures.missing (λ i. Err (e i))))

pub returns-in-Err-sync-clause-refused : goal.returns-in-Err-sync-clause-refused
returns-in-Err-sync-clause-refused g c =
    let old = g.S.Store.facts c.args.store.now in
    let most = g.S.Store.facts c.append.new.self in
    let new = g.S.Store.facts c.sync.new.self in
    subst (λ (e : DbError). RefusesMend e old new ⊥ ⊥) (sym c.refusal_of-in-Err-sync.ensures) (refused_later old most new c.in-Err-sync.error (omega (arith, c.create.ensures.counts.failures, c.append.ensures.counts.failures)) c.in-Err-sync.ensures.counts (λ e. c.in-Err-sync.ensures.missing (λ i. Err (e i))))

-- ---- it alone is written

pub returns-in-Err-clause-only : goal.returns-in-Err-clause-only
returns-in-Err-clause-only g c f =
    let old = g.S.Store.facts c.args.store.now in
    let mid = g.S.Store.facts c.create.new.self in
    created_only old mid c.args.temporary.now (c.create.ensures.calls.noted f) (created_synced old mid c.args.temporary.now c.create.result c.create.ensures.missing c.create.ensures.synced f)

pub returns-in-Err-append-clause-only : goal.returns-in-Err-append-clause-only
returns-in-Err-append-clause-only g c f =
    let old = g.S.Store.facts c.args.store.now in
    let mid = g.S.Store.facts c.create.new.self in
    let m = c.append.ensures.counts.faithful f in
    appended_only old mid (g.S.Store.facts c.append.new.self) c.args.temporary.now c.args.bytes.now
    (created_only old mid c.args.temporary.now (c.create.ensures.calls.noted m) (created_synced old mid c.args.temporary.now c.create.result c.create.ensures.missing c.create.ensures.synced m))
    (c.append.ensures.calls.noted f) (c.append.ensures.synced f)

pub returns-in-Err-sync-clause-only : goal.returns-in-Err-sync-clause-only
returns-in-Err-sync-clause-only g c f =
    let old = g.S.Store.facts c.args.store.now in
    let mid = g.S.Store.facts c.create.new.self in
    let most = g.S.Store.facts c.append.new.self in
    let l = c.sync.ensures.counts.faithful f in
    let m = c.append.ensures.counts.faithful l in
    synced_only old most (g.S.Store.facts c.sync.new.self) c.args.temporary.now c.sync.result
    (appended_only old mid most c.args.temporary.now c.args.bytes.now
    (created_only old mid c.args.temporary.now (c.create.ensures.calls.noted m) (created_synced old mid c.args.temporary.now c.create.result c.create.ensures.missing c.create.ensures.synced m))
    (c.append.ensures.calls.noted l) (c.append.ensures.synced l))
    (c.sync.ensures.calls.ok f) (c.sync.ensures.calls.err f) (c.sync.ensures.same f) (c.sync.ensures.synced f) (c.sync.ensures.unsynced f)

pub returns-clause-only : goal.returns-clause-only
returns-clause-only g c f =
    let old = g.S.Store.facts c.args.store.now in
    let mid = g.S.Store.facts c.create.new.self in
    let most = g.S.Store.facts c.append.new.self in
    let l = c.sync.ensures.counts.faithful f in
    let m = c.append.ensures.counts.faithful l in
    synced_only old most (g.S.Store.facts c.sync.new.self) c.args.temporary.now c.sync.result
    (appended_only old mid most c.args.temporary.now c.args.bytes.now
    (created_only old mid c.args.temporary.now (c.create.ensures.calls.noted m) (created_synced old mid c.args.temporary.now c.create.result c.create.ensures.missing c.create.ensures.synced m))
    (c.append.ensures.calls.noted l) (c.append.ensures.synced l))
    (c.sync.ensures.calls.ok f) (c.sync.ensures.calls.err f) (c.sync.ensures.same f) (c.sync.ensures.synced f) (c.sync.ensures.unsynced f)

pub returns-clause-written : goal.returns-clause-written
returns-clause-written g c f =
    let l = c.sync.ensures.counts.faithful f in
    let m = c.append.ensures.counts.faithful l in
    written_durable (g.S.Store.facts c.args.store.now) (g.S.Store.facts c.create.new.self) (g.S.Store.facts c.append.new.self) (g.S.Store.facts c.sync.new.self) c.args.temporary.now c.args.bytes.now
    (c.in_default.ensures.files.ok m) (c.in_default-append.ensures.files.ok l) (c.sync.ensures.same f) (c.in_default-sync.ensures.synced f) (c.in_default-sync.ensures.calls.ok f)
