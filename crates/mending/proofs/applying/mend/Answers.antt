use Rattle.std.proofs.Common.{inl, refl, arith}
use Rattle.std.proofs.lemmas.Result.{err_from_is_err_and}
use Rattle.store.specs.Files.{Files, MayLock}
use Rattle.mending.specs.Plans.{IsBeyond, IsUnmendable}
use Rattle.mending.specs.Mending.{KeepsAll, MayMendLost}
use Rattle.mending.proofs.LosingCuts.{mend_loses}
use Rattle.mending.proofs.Lost.{by_so}
use Rattle.mending.proofs.Leaving.{lock_stops, mend_stops, mend_mends, refuses_around}
use Rattle.mending.proofs.applying.mend.Goals as goal

pub returns-in_err-take_lock-clause-stops : goal.returns-in_err-take_lock-clause-stops
returns-in_err-take_lock-clause-stops g c f = lock_stops g.K.KeyOrder.name c.args.ends (g.S.Store.facts c.args.store.now) (g.S.Store.facts c.take_lock.new.store) (c.in_err-take_lock.ensures.stops f)

pub returns-in_err-take_lock-clause-refused : goal.returns-in_err-take_lock-clause-refused
returns-in_err-take_lock-clause-refused g c =
    let p = err_from_is_err_and c.from_residual.result c.from_residual.ensures.1 in
    let old = g.S.Store.facts c.args.store.now in
    let a = g.S.Store.facts c.take_lock.new.store in
    let name = g.K.KeyOrder.name in
    rw (p.1, p.2) (refuses_around c.in_err-take_lock.field-0.0 old old a a ⊥ ⊥ ((files : Files) × MayLock old.files files × IsUnmendable name c.args.ends files) ((files : Files) × MayLock old.files files × IsBeyond name c.args.ends files)
    (omega arith) (omega arith) (omega arith) refl (λ t. t) (λ t d. absurd d) (λ t u. absurd u) c.in_err-take_lock.ensures.refused)

pub returns-in_err-give_back-in-Ok-clause-stops : goal.returns-in_err-give_back-in-Ok-clause-stops
returns-in_err-give_back-in-Ok-clause-stops g c f =
    let b = c.give_back.ensures.writes f in
    let a = c.mend_locked.ensures.writes.faithful b in
    mend_stops g.K.KeyOrder.name c.args.ends (g.S.Store.facts c.args.store.now) (g.S.Store.facts c.take_lock.new.store) (g.S.Store.facts c.mend_locked.new.store) (g.S.Store.facts c.give_back.new.store)
    (c.take_lock.ensures.files a) (c.take_lock.ensures.stops a) (c.mend_locked.ensures.stops b) (c.give_back.ensures.same f)

pub returns-in_ok-give_back-in-Ok-clause-mended : goal.returns-in_ok-give_back-in-Ok-clause-mended
returns-in_ok-give_back-in-Ok-clause-mended g c f =
    let b = c.give_back.ensures.writes f in
    let a = c.mend_locked.ensures.writes.faithful b in
    mend_mends g.K.KeyOrder.name c.args.ends (g.S.Store.facts c.args.store.now) (g.S.Store.facts c.take_lock.new.store) (g.S.Store.facts c.mend_locked.new.store) (g.S.Store.facts c.give_back.new.store) c.in-Ok.plan.manifest
    (c.take_lock.ensures.files a) (c.in-Ok.ensures.mended b) (c.give_back.ensures.same f)

pub returns-in_ok-give_back-in-Ok-clause-stops : goal.returns-in_ok-give_back-in-Ok-clause-stops
returns-in_ok-give_back-in-Ok-clause-stops g c f =
    let b = c.give_back.ensures.writes f in
    let a = c.mend_locked.ensures.writes.faithful b in
    mend_stops g.K.KeyOrder.name c.args.ends (g.S.Store.facts c.args.store.now) (g.S.Store.facts c.take_lock.new.store) (g.S.Store.facts c.mend_locked.new.store) (g.S.Store.facts c.give_back.new.store)
    (c.take_lock.ensures.files a) (c.take_lock.ensures.stops a) (c.mend_locked.ensures.stops b) (c.give_back.ensures.same f)

pub returns-in-Err-clause-stops : goal.returns-in-Err-clause-stops
returns-in-Err-clause-stops g c f =
    let b = c.give_back-in-Err.ensures.writes f in
    let a = c.mend_locked.ensures.writes.faithful b in
    mend_stops g.K.KeyOrder.name c.args.ends (g.S.Store.facts c.args.store.now) (g.S.Store.facts c.take_lock.new.store) (g.S.Store.facts c.mend_locked.new.store) (g.S.Store.facts c.give_back-in-Err.new.store)
    (c.take_lock.ensures.files a) (c.take_lock.ensures.stops a) (c.mend_locked.ensures.stops b) (c.give_back-in-Err.ensures.same f)

pub returns-in-Err-clause-refused : goal.returns-in-Err-clause-refused
returns-in-Err-clause-refused g c =
    let old = g.S.Store.facts c.args.store.now in
    let a = g.S.Store.facts c.take_lock.new.store in
    let b = g.S.Store.facts c.mend_locked.new.store in
    let new = g.S.Store.facts c.give_back-in-Err.new.store in
    let name = g.K.KeyOrder.name in
    refuses_around c.in-Err.error old a b new (IsUnmendable name c.args.ends a.files) (IsBeyond name c.args.ends a.files)
    ((files : Files) × MayLock old.files files × IsUnmendable name c.args.ends files) ((files : Files) × MayLock old.files files × IsBeyond name c.args.ends files)
    c.take_lock.ensures.failures c.give_back-in-Err.ensures.failures c.take_lock.ensures.denials
    c.give_back-in-Err.ensures.denials c.give_back-in-Err.ensures.writes
    (λ t d. (a.files, c.take_lock.ensures.files (c.mend_locked.ensures.writes.faithful t), d)) (λ t u. (a.files, c.take_lock.ensures.files (c.mend_locked.ensures.writes.faithful t), u)) c.in-Err.ensures.refused

-- ---- what a power loss leaves

pub returns-in_err-take_lock-clause-loses : goal.returns-in_err-take_lock-clause-loses
returns-in_err-take_lock-clause-loses g c f stayed =
    let old = g.S.Store.facts c.args.store.now in
    by_so old (g.S.Store.facts c.take_lock.new.store) KeepsAll (MayMendLost g.K.KeyOrder.name c.args.ends old.files) (λ x y kept. inl kept) (c.in_err-take_lock.ensures.loses f stayed).0

pub returns-in_err-give_back-in-Ok-clause-loses : goal.returns-in_err-give_back-in-Ok-clause-loses
returns-in_err-give_back-in-Ok-clause-loses g c f stayed =
    let b = c.give_back.ensures.writes f in
    let a = c.mend_locked.ensures.writes.faithful b in
    let l = c.take_lock.ensures.loses a stayed in
    mend_loses g.K.KeyOrder.name c.args.ends (g.S.Store.facts c.args.store.now) (g.S.Store.facts c.take_lock.new.store) (g.S.Store.facts c.mend_locked.new.store) (g.S.Store.facts c.give_back.new.store)
    (c.take_lock.ensures.files a) (c.take_lock.ensures.stops a) (c.mend_locked.ensures.stops b) l.0 (c.mend_locked.ensures.loses b l.1) (c.give_back.ensures.same f)

pub returns-in_ok-give_back-in-Ok-clause-loses : goal.returns-in_ok-give_back-in-Ok-clause-loses
returns-in_ok-give_back-in-Ok-clause-loses g c f stayed =
    let b = c.give_back.ensures.writes f in
    let a = c.mend_locked.ensures.writes.faithful b in
    let l = c.take_lock.ensures.loses a stayed in
    mend_loses g.K.KeyOrder.name c.args.ends (g.S.Store.facts c.args.store.now) (g.S.Store.facts c.take_lock.new.store) (g.S.Store.facts c.mend_locked.new.store) (g.S.Store.facts c.give_back.new.store)
    (c.take_lock.ensures.files a) (c.take_lock.ensures.stops a) (c.mend_locked.ensures.stops b) l.0 (c.mend_locked.ensures.loses b l.1) (c.give_back.ensures.same f)

pub returns-in-Err-clause-loses : goal.returns-in-Err-clause-loses
returns-in-Err-clause-loses g c f stayed =
    let b = c.give_back-in-Err.ensures.writes f in
    let a = c.mend_locked.ensures.writes.faithful b in
    let l = c.take_lock.ensures.loses a stayed in
    mend_loses g.K.KeyOrder.name c.args.ends (g.S.Store.facts c.args.store.now) (g.S.Store.facts c.take_lock.new.store) (g.S.Store.facts c.mend_locked.new.store) (g.S.Store.facts c.give_back-in-Err.new.store)
    (c.take_lock.ensures.files a) (c.take_lock.ensures.stops a) (c.mend_locked.ensures.stops b) l.0 (c.mend_locked.ensures.loses b l.1) (c.give_back-in-Err.ensures.same f)

-- ---- what was planned

pub returns-in_ok-give_back-in-Ok-clause-planned : goal.returns-in_ok-give_back-in-Ok-clause-planned
returns-in_ok-give_back-in-Ok-clause-planned g c f =
    let b = c.give_back.ensures.writes f in
    let a = c.mend_locked.ensures.writes.faithful b in
    ((g.S.Store.facts c.take_lock.new.store).files, c.take_lock.ensures.files a, c.in-Ok.ensures.planned b)
