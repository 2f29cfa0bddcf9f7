use Rattle.std.proofs.Common.{ap, sym}
use Rattle.store.specs.declared.fault_store.FaultStore.{FaultStore}
use Rattle.store.specs.declared.memory.MemStore.{MemStore}
use Rattle.store.specs.FaultFacts.{standing_of}
use Rattle.store.specs.MemFacts.{mem_facts}
use Rattle.store.proofs.Faults.{meets_made}
use Rattle.store.proofs.fault_store.FaultStoreStore.lock.Goals as goal

pub returns-in_ok-make_lock_file-in-Lost-clause-fault : goal.returns-in_ok-make_lock_file-in-Lost-clause-fault
returns-in_ok-make_lock_file-in-Lost-clause-fault c =
    let done = c.in_ok-make_lock_file-in-Lost.ensures in
    meets_made _ (standing_of c.args.self.now) (standing_of c.failure-in-Lost.new.self) (mem_facts c.next_way.new.self.inner) (mem_facts c.make_lock_file.new.self) _ _
    (sym c.in-Lost.ensures.way) (ap (λ (s : FaultStore). mem_facts s.inner) c.next_way.ensures.store) (ap (λ (s : MemStore). s.counters.failures) c.make_lock_file.ensures.rest)
    c.failure-in-Lost.ensures.fails (λ f. (done.ok, done.synced))
