use Rattle.std.proofs.Common.{◌≢◌, ℕ}
use Rattle.memtables.proofs.Generations.{invariant_used, kept_others, not_sealed}
use Rattle.memtables.proofs.memory_tables.MemoryTables.forget.Goals as goal

pub invariant_of-self : goal.invariant_of-self
invariant_of-self g c =
    invariant_used (λ (q : ℕ). q ≢ c.args.generation) _ c.remove.new.self.entries
    (kept_others c.self.inside.sealed c.args.generation c.self.inside.older.entries c.remove.new.self.entries (not_sealed c.self.inside.sealed c.args.generation c.if-ne.ensures) c.remove.ensures.updates.0)
    c.self.invariant
