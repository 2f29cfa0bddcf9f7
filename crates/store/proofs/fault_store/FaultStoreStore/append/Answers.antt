use Rattle.std.proofs.Common.{Some, List, ℕ, take, ap, sym, subst, ◌∙◌}
use Rattle.std.proofs.lemmas.List.{take_min}
use Rattle.store.specs.declared.fault_store.Extent.{Extent}
use Rattle.store.specs.declared.fault_store.FaultStore.{FaultStore}
use Rattle.store.specs.Files.{Appends}
use Rattle.store.specs.FaultFacts.{standing_of}
use Rattle.store.specs.MemFacts.{mem_facts}
use Rattle.store.proofs.Faults.{meets_after, meets_part}
use Rattle.store.proofs.fault_store.FaultStoreStore.append.Goals as goal

pub returns-in_ok-append-in-Some-After-clause-fault : goal.returns-in_ok-append-in-Some-After-clause-fault
returns-in_ok-append-in-Some-After-clause-fault c =
    let done = c.in_ok-append-in-Some-After.ensures in
    meets_after _ (standing_of c.args.self.now) (standing_of c.act.new.self) (mem_facts c.next.new.self.inner) (mem_facts c.append-in-Some-After.new.self) _ c.act.result _ _
    (sym c.in-Some-After.ensures.extent ∙ ap (λ (e : Extent). Some e) c.in-Some-After.field-0-is) (ap (λ (s : FaultStore). mem_facts s.inner) c.next.ensures.store)
    done.counts c.act.ensures.fails (λ f. (done.files.ok f, done.synced f))

pub returns-in_ok-append-in-Some-Part-clause-fault : goal.returns-in_ok-append-in-Some-Part-clause-fault
returns-in_ok-append-in-Some-Part-clause-fault c =
    let done = c.in_ok-append-in-Some-Part.ensures in
    let begun = mem_facts c.next.new.self.inner in
    let mid = mem_facts c.append-in-Some-Part.new.self in
    let bytes = c.args.bytes.now in
    meets_part _ c.in-Some-Part.count (standing_of c.args.self.now) (standing_of c.act-in-Some-Part.new.self) begun mid _ c.act-in-Some-Part.result _ _
    (sym c.in-Some-Part.ensures.extent ∙ ap (λ (e : Extent). Some e) c.in-Some-Part.field-0-is) (ap (λ (s : FaultStore). mem_facts s.inner) c.next.ensures.store)
    done.counts c.act-in-Some-Part.ensures.fails
    (λ f. (subst (λ (b : List ℕ). Appends begun.files mid.files c.args.name.now b) (ap (λ (n : ℕ). take n bytes) c.min-count.ensures ∙ take_min c.in-Some-Part.count bytes) (done.files.ok f), done.synced f))
