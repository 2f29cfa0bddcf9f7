use Rattle.std.proofs.Common.{ap, sym}
use Rattle.store.specs.declared.fault_store.FaultStore.{FaultStore}
use Rattle.store.specs.FaultFacts.{standing_of}
use Rattle.store.specs.MemFacts.{mem_facts}
use Rattle.store.proofs.Faults.{meets_lost}
use Rattle.store.proofs.fault_store.FaultStoreStore.remove.Goals as goal

pub returns-in_ok-remove-in-Lost-clause-fault : goal.returns-in_ok-remove-in-Lost-clause-fault
returns-in_ok-remove-in-Lost-clause-fault c =
    let done = c.in_ok-remove-in-Lost.ensures in
    meets_lost _ (standing_of c.args.self.now) (standing_of c.act.new.self) (mem_facts c.next_way.new.self.inner) (mem_facts c.remove-in-Lost.new.self) _ c.act.result _
    (sym c.in-Lost.ensures.way) (ap (λ (s : FaultStore). mem_facts s.inner) c.next_way.ensures.store) done.counts c.act.ensures.fails (λ f. (done.files.ok f, done.synced.ok f))
