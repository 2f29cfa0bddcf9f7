use Rattle.mending.proofs.LosingCuts.{lock_loses}
use Rattle.mending.proofs.applying.take_lock.Goals as goal

pub returns-in-Ok-true-clause-loses : goal.returns-in-Ok-true-clause-loses
returns-in-Ok-true-clause-loses g c f stayed = lock_loses (g.S.Store.facts c.args.store.now) (g.S.Store.facts c.lock.new.self) (c.lock.ensures.calls.noted f) (c.lock.ensures.synced f) c.synced_law.ensures stayed

pub returns-in-Ok-false-clause-loses : goal.returns-in-Ok-false-clause-loses
returns-in-Ok-false-clause-loses g c f stayed = lock_loses (g.S.Store.facts c.args.store.now) (g.S.Store.facts c.lock.new.self) (c.lock.ensures.calls.noted f) (c.lock.ensures.synced f) c.synced_law.ensures stayed

pub returns-in-Err-Memory-clause-loses : goal.returns-in-Err-Memory-clause-loses
returns-in-Err-Memory-clause-loses g c f stayed = lock_loses (g.S.Store.facts c.args.store.now) (g.S.Store.facts c.lock.new.self) (c.lock.ensures.calls.noted f) (c.lock.ensures.synced f) c.synced_law.ensures stayed

pub returns-in-Err-Device-clause-loses : goal.returns-in-Err-Device-clause-loses
returns-in-Err-Device-clause-loses g c f stayed = lock_loses (g.S.Store.facts c.args.store.now) (g.S.Store.facts c.lock.new.self) (c.lock.ensures.calls.noted f) (c.lock.ensures.synced f) c.synced_law.ensures stayed
