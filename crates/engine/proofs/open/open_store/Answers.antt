use Rattle.ikey.specs.Orders.{order_of}
use Rattle.std.proofs.Common.{◌≡◌, Result, Ok, Err, sym, subst, rules}
use Rattle.coding.specs.declared.error.DbError.{DbError}
use Rattle.table_access.specs.Tables.{seen}
use Rattle.engine.specs.declared.state.DbState.{DbState}
use Rattle.machine.specs.Lifetime.{Opens}
use Rattle.engine.specs.internal.Standing.{StandsClosed}
use Rattle.engine.specs.Stands.{no_ids}
use Rattle.engine.specs.Follows.{Leads, unit_answer}
use Rattle.engine.specs.internal.Resting.{StandsResult}
use Rattle.engine.specs.Touching.{OpensStore}
use Rattle.engine.proofs.OpenLock.{held, unlocked, lock_refused, locked}
use Rattle.engine.proofs.LosingOpened.{lock_loses, locked_loses, unlocked_loses}
use Rattle.engine.proofs.OpenMachine.{means_whole}
use Rattle.engine.proofs.Telling.{tells_beside}
use Rattle.engine.proofs.Locking.{unlocked_open, locked_open, given_back}
use Rattle.engine.proofs.StopSteps.{keeps_behind, lock_keeps}
use Rattle.store.proofs.Stopping.{leaves_both}
use Rattle.engine.specs.internal.Directory.{MeansAccepted}
use Rattle.engine.proofs.ReopeningSteps.{on_lock, on_locked, on_unlocked}
use Rattle.engine.proofs.open.open_store.Goals as goal

pub returns-in_err-take_lock-clause-step : goal.returns-in_err-take_lock-clause-step
returns-in_err-take_lock-clause-step g c ids =
    let order = order_of g.K.KeyOrder.name g.K.KeyOrder.cmp in
    let old = g.S.Store.facts c.args.source.now.tables.store in
    let new = g.S.Store.facts c.take_lock.new.store in
    let e = c.in_err-take_lock.field-0.0 in
    let is : c.from_residual.result ≡ Err e = search rules in
    subst (λ (r : Result (DbState _ _) DbError). Leads old new (StandsClosed order old ids)
    (StandsResult order (seen new c.args.source.now.tables.tables c.args.source.now.tables.blocks) c.args.source.now.memory ids r) (λ m n. Opens m c.args.mode (unit_answer r) n)) (sym is)
    (lock_refused order old new c.args.mode e c.free_change_law.ensures c.in_err-take_lock.ensures.lock)

pub returns-in-Ok-clause-step : goal.returns-in-Ok-clause-step
returns-in-Ok-clause-step g c ids =
    let order = order_of g.K.KeyOrder.name g.K.KeyOrder.cmp in
    let facts = g.S.Store.facts in
    held order (facts c.args.source.now.tables.store) (facts c.take_lock.new.store) (facts c.open_and_clean.new.source.tables.store) c.args.mode _ _ c.free_change_law.ensures c.in_ok-take_lock.ensures.lock (c.in-Ok.ensures.step ids)

pub returns-in-Err-clause-step : goal.returns-in-Err-clause-step
returns-in-Err-clause-step g c ids =
    unlocked (order_of g.K.KeyOrder.name g.K.KeyOrder.cmp) (g.S.Store.facts c.args.source.now.tables.store) (g.S.Store.facts c.take_lock.new.store) (g.S.Store.facts c.open_and_clean.new.source.tables.store) (g.S.Store.facts c.unlock.new.self)
    c.args.mode c.in-Err.error c.free_change_law.ensures
    c.in_ok-take_lock.ensures.lock (c.in-Err.ensures.step ids) c.unlock.ensures.counts c.unlock.ensures.undenied c.unlock.ensures.same

-- ---- what an open's answer tells

pub returns-in-Ok-clause-tells : goal.returns-in-Ok-clause-tells
returns-in-Ok-clause-tells g c =
    let order = order_of g.K.KeyOrder.name g.K.KeyOrder.cmp in
    let old = g.S.Store.facts c.args.source.now.tables.store in
    let mid = g.S.Store.facts c.take_lock.new.store in
    λ f. tells_beside {T = DbState _ _} order old.files mid.files c.free_change_law.ensures (c.in_ok-take_lock.ensures.lock.files ((c.in-Ok.ensures.step no_ids).faithful f)) (Ok c.in-Ok.state) (c.in-Ok.ensures.tells f)

pub returns-in-Err-clause-tells : goal.returns-in-Err-clause-tells
returns-in-Err-clause-tells g c =
    let order = order_of g.K.KeyOrder.name g.K.KeyOrder.cmp in
    let old = g.S.Store.facts c.args.source.now.tables.store in
    let mid = g.S.Store.facts c.take_lock.new.store in
    λ f. let before = c.unlock.ensures.counts.faithful f in
    tells_beside {T = Unit {0}} order old.files mid.files c.free_change_law.ensures (c.in_ok-take_lock.ensures.lock.files ((c.in-Err.ensures.step no_ids).faithful before)) (Err c.in-Err.error) (c.in-Err.ensures.tells before)

-- ---- what it does to the store

pub returns-in_err-take_lock-clause-touches : goal.returns-in_err-take_lock-clause-touches
returns-in_err-take_lock-clause-touches g c =
    let old = g.S.Store.facts c.args.source.now.tables.store in
    let new = g.S.Store.facts c.take_lock.new.store in
    let e = c.in_err-take_lock.field-0.0 in
    let is : c.from_residual.result ≡ Err e = search rules in
    subst (λ (r : Result (DbState _ _) DbError). OpensStore old new r) (sym is) (unlocked_open {T = DbState _ _} old new e c.in_err-take_lock.ensures.lock)

pub returns-in-Ok-clause-touches : goal.returns-in-Ok-clause-touches
returns-in-Ok-clause-touches g c =
    let facts = g.S.Store.facts in
    locked_open {T = DbState _ _} (facts c.args.source.now.tables.store) (facts c.take_lock.new.store) (facts c.open_and_clean.new.source.tables.store) c.in-Ok.state c.in_ok-take_lock.ensures.lock c.in-Ok.ensures.lock
    (c.in-Ok.ensures.step no_ids).faithful c.in-Ok.ensures.durable c.in-Ok.ensures.spared

pub returns-in-Err-clause-touches : goal.returns-in-Err-clause-touches
returns-in-Err-clause-touches g c =
    given_back {T = DbState _ _} (g.S.Store.facts c.args.source.now.tables.store) (g.S.Store.facts c.take_lock.new.store) (g.S.Store.facts c.open_and_clean.new.source.tables.store) (g.S.Store.facts c.unlock.new.self) c.in-Err.error c.unlock.result
    c.in_ok-take_lock.ensures.lock c.in-Err.ensures.outcome.failures (λ is. c.in-Err.ensures.outcome.io (λ i. Err (is i))) (c.in-Err.ensures.step no_ids).faithful c.in-Err.ensures.durable c.in-Err.ensures.spared
    c.in-Err.ensures.unwritten c.unlock.ensures.counts c.unlock.ensures.same c.unlock.ensures.synced c.unlock.ensures.free c.unlock.ensures.missing c.unlock.ensures.memory

-- ---- what a process crash leaves

pub returns-in_err-take_lock-clause-stops : goal.returns-in_err-take_lock-clause-stops
returns-in_err-take_lock-clause-stops g c f ids m undamaged s =
    lock_keeps (order_of g.K.KeyOrder.name g.K.KeyOrder.cmp) (g.S.Store.facts c.args.source.now.tables.store) (g.S.Store.facts c.take_lock.new.store) m c.free_change_law.ensures undamaged s (c.in_err-take_lock.ensures.stops f)

pub returns-in-Ok-clause-stops : goal.returns-in-Ok-clause-stops
returns-in-Ok-clause-stops g c f ids m undamaged s =
    let order = order_of g.K.KeyOrder.name g.K.KeyOrder.cmp in
    let old = g.S.Store.facts c.args.source.now.tables.store in
    let mid = g.S.Store.facts c.take_lock.new.store in
    let new = g.S.Store.facts c.open_and_clean.new.source.tables.store in
    let h = (c.in-Ok.ensures.step ids).faithful f in
    leaves_both old mid new (λ files. MeansAccepted order files m) (lock_keeps order old mid m c.free_change_law.ensures undamaged s (c.in_ok-take_lock.ensures.stops h))
    (c.in-Ok.ensures.stops f ids m undamaged (locked order old mid m c.free_change_law.ensures c.in_ok-take_lock.ensures.lock h s))

pub returns-in-Err-clause-stops : goal.returns-in-Err-clause-stops
returns-in-Err-clause-stops g c f ids m undamaged s =
    let order = order_of g.K.KeyOrder.name g.K.KeyOrder.cmp in
    let old = g.S.Store.facts c.args.source.now.tables.store in
    let mid = g.S.Store.facts c.take_lock.new.store in
    let new = g.S.Store.facts c.open_and_clean.new.source.tables.store in
    let k = c.unlock.ensures.counts.faithful f in
    let h = (c.in-Err.ensures.step ids).faithful k in
    keeps_behind order old new (g.S.Store.facts c.unlock.new.self) m (c.unlock.ensures.calls f) (c.unlock.ensures.same f)
    (leaves_both old mid new (λ files. MeansAccepted order files m) (lock_keeps order old mid m c.free_change_law.ensures undamaged s (c.in_ok-take_lock.ensures.stops h))
    (c.in-Err.ensures.stops k ids m undamaged (locked order old mid m c.free_change_law.ensures c.in_ok-take_lock.ensures.lock h s)))

-- ---- what a power loss leaves

pub returns-in_err-take_lock-clause-loses : goal.returns-in_err-take_lock-clause-loses
returns-in_err-take_lock-clause-loses g c f ids m undamaged s stays =
    let order = order_of g.K.KeyOrder.name g.K.KeyOrder.cmp in
    let old = g.S.Store.facts c.args.source.now.tables.store in
    let new = g.S.Store.facts c.take_lock.new.store in
    lock_loses order old new m (c.in_err-take_lock.ensures.lock.synced f) (c.in_err-take_lock.ensures.noted f) stays (means_whole order old.files m undamaged s.rest)

pub returns-in-Ok-clause-loses : goal.returns-in-Ok-clause-loses
returns-in-Ok-clause-loses g c f ids m undamaged s stays =
    let order = order_of g.K.KeyOrder.name g.K.KeyOrder.cmp in
    let old = g.S.Store.facts c.args.source.now.tables.store in
    let mid = g.S.Store.facts c.take_lock.new.store in
    let new = g.S.Store.facts c.open_and_clean.new.source.tables.store in
    let h = (c.in-Ok.ensures.step ids).faithful f in
    let lock = c.in_ok-take_lock.ensures.lock in
    let rests = locked order old mid m c.free_change_law.ensures lock h s in
    locked_loses order old mid m (lock.files h) (lock.synced h) (c.in_ok-take_lock.ensures.noted h) stays (means_whole order old.files m undamaged s.rest)
    new (λ files. MeansAccepted order files m) (c.in-Ok.ensures.stops f ids m undamaged rests) (c.in-Ok.ensures.loses f ids m undamaged rests)

pub returns-in-Err-clause-loses : goal.returns-in-Err-clause-loses
returns-in-Err-clause-loses g c f ids m undamaged s stays =
    let order = order_of g.K.KeyOrder.name g.K.KeyOrder.cmp in
    let old = g.S.Store.facts c.args.source.now.tables.store in
    let mid = g.S.Store.facts c.take_lock.new.store in
    let new = g.S.Store.facts c.open_and_clean.new.source.tables.store in
    let k = c.unlock.ensures.counts.faithful f in
    let h = (c.in-Err.ensures.step ids).faithful k in
    let lock = c.in_ok-take_lock.ensures.lock in
    let rests = locked order old mid m c.free_change_law.ensures lock h s in
    unlocked_loses order old mid m (lock.files h) (lock.synced h) (c.in_ok-take_lock.ensures.noted h) stays (means_whole order old.files m undamaged s.rest)
    new (g.S.Store.facts c.unlock.new.self) (λ files. MeansAccepted order files m) (c.in-Err.ensures.stops k ids m undamaged rests) (c.in-Err.ensures.loses k ids m undamaged rests)
    (c.unlock.ensures.calls f) (c.unlock.ensures.same f) (c.unlock.ensures.synced f)

-- ---- after other calls of the same store

pub returns-in_err-take_lock-clause-loses_on : goal.returns-in_err-take_lock-clause-loses_on
returns-in_err-take_lock-clause-loses_on g c ids f there m undamaged s =
    on_locked (order_of g.K.KeyOrder.name g.K.KeyOrder.cmp) (g.S.Store.facts c.args.source.now.tables.store) (g.S.Store.facts c.take_lock.new.store) there (c.in_err-take_lock.ensures.lock.synced f) (c.in_err-take_lock.ensures.noted f)

pub returns-in-Ok-clause-loses_on : goal.returns-in-Ok-clause-loses_on
returns-in-Ok-clause-loses_on g c ids f there m undamaged s =
    let order = order_of g.K.KeyOrder.name g.K.KeyOrder.cmp in
    let old = g.S.Store.facts c.args.source.now.tables.store in
    let mid = g.S.Store.facts c.take_lock.new.store in
    let new = g.S.Store.facts c.open_and_clean.new.source.tables.store in
    let h = (c.in-Ok.ensures.step ids).faithful f in
    let lock = c.in_ok-take_lock.ensures.lock in
    let rests = locked order old mid m c.free_change_law.ensures lock h s in
    let goes = c.in-Ok.ensures.stops f ids m undamaged rests in
    on_lock order old mid new goes.more there (lock.synced h) (c.in_ok-take_lock.ensures.noted h) goes.calls (c.in-Ok.ensures.loses_on f ids m undamaged rests)

pub returns-in-Err-clause-loses_on : goal.returns-in-Err-clause-loses_on
returns-in-Err-clause-loses_on g c ids f there m undamaged s =
    let order = order_of g.K.KeyOrder.name g.K.KeyOrder.cmp in
    let old = g.S.Store.facts c.args.source.now.tables.store in
    let mid = g.S.Store.facts c.take_lock.new.store in
    let new = g.S.Store.facts c.open_and_clean.new.source.tables.store in
    let k = c.unlock.ensures.counts.faithful f in
    let h = (c.in-Err.ensures.step ids).faithful k in
    let lock = c.in_ok-take_lock.ensures.lock in
    let rests = locked order old mid m c.free_change_law.ensures lock h s in
    let goes = c.in-Err.ensures.stops k ids m undamaged rests in
    on_unlocked order old mid new (g.S.Store.facts c.unlock.new.self) goes.more there (lock.synced h) (c.in_ok-take_lock.ensures.noted h) goes.calls (c.in-Err.ensures.loses_on k ids m undamaged rests)
    (c.unlock.ensures.calls f) (c.unlock.ensures.same f) (c.unlock.ensures.synced f)

-- ---- the logs that it found

pub returns-in-Ok-clause-kept : goal.returns-in-Ok-clause-kept
returns-in-Ok-clause-kept g c = c.in-Ok.ensures.kept
