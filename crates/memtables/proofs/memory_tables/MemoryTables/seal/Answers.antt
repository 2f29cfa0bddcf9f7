use Rattle.std.proofs.Common.{◌∙◌, Some, ap, subst}
use Rattle.memtable.specs.Contents.{Contents}
use Rattle.memtables.specs.Changes.{IsSealed}
use Rattle.memtables.specs.Memories.{Memories}
use Rattle.memtables.proofs.Generations.{Updates}
use Rattle.memtables.proofs.Sealing.{invariant_sealed, is_sealed, sealed_as}
use Rattle.memtables.proofs.memory_tables.MemoryTables.seal.Goals as goal

pub invariant_of-self : goal.invariant_of-self
invariant_of-self g c =
    let older = c.insert.new.self.entries in
    let updates = subst (λ (t : Contents). Updates c.self.inside.generation (Some t) c.self.inside.older.entries older) c.replace-table.ensures.value c.in-Ok.ensures.updates.0 in
    invariant_sealed _ c.replace-table.new.dest c.in-Some.next older (ap (λ (t : Contents). t.inserts) (c.replace-table.ensures.after ∙ c.new.ensures)) c.in-Some.ensures.1 updates c.self.invariant

pub returns-in-Ok-clause-ok : goal.returns-in-Ok-clause-ok
returns-in-Ok-clause-ok g c =
    let older = c.insert.new.self.entries in
    let updates = subst (λ (t : Contents). Updates c.self.inside.generation (Some t) c.self.inside.older.entries older) c.replace-table.ensures.value c.in-Ok.ensures.updates.0 in
    let unsealed = ap (λ (m : Memories). m.sealed) c.self.view_is ∙ c.requires in
    subst (λ (m : Memories). IsSealed m (sealed_as (record { current = c.self.inside.current; last = c.self.inside.last; generation = c.self.inside.generation; sealed = c.self.inside.sealed; older = c.self.inside.older.entries }) c.replace-table.new.dest c.in-Some.next older)) c.self.view_is
    (is_sealed _ c.replace-table.new.dest c.in-Some.next older (c.replace-table.ensures.after ∙ c.new.ensures) c.in-Some.ensures.1 unsealed updates c.self.invariant)
