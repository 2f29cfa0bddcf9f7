use Rattle.std.proofs.Common.{◌⊎◌, ◌≡◌, ℕ, Some, rules, subst}
use Rattle.memtables.specs.Changes.{IsUsed, KeepsUsed}
use Rattle.memtables.specs.Memories.{Memories}
use Rattle.memtables.proofs.Generations.{invariant_used, keeps_used, kept_same}
use Rattle.memtables.proofs.memory_tables.MemoryTables.drop_unused.Goals as goal

pub invariant_of-self : goal.invariant_of-self
invariant_of-self g c =
    invariant_used (g.U.Users.names c.args.users.now) _ c.retain.new.self.entries
    (kept_same _ (λ (n : ℕ). (c.self.inside.sealed ≡ Some n) ⊎ g.U.Users.names c.args.users.now n) _ (λ k v b w f' t. search rules) c.self.inside.older.entries c.retain.new.self.entries c.retain.ensures.filtered)
    c.self.invariant

pub returns : goal.returns
returns g c =
    subst (λ (m : Memories). KeepsUsed (IsUsed (g.U.Users.names c.args.users.now) m) m
    (record { current = c.self.inside.current; last = c.self.inside.last; generation = c.self.inside.generation; sealed = c.self.inside.sealed; older = c.retain.new.self.entries })) c.self.view_is
    (keeps_used (λ (n : ℕ). (c.self.inside.sealed ≡ Some n) ⊎ g.U.Users.names c.args.users.now n) _ c.retain.new.self.entries
    (kept_same _ (λ (n : ℕ). (c.self.inside.sealed ≡ Some n) ⊎ g.U.Users.names c.args.users.now n) _ (λ k v b w f' t. search rules) c.self.inside.older.entries c.retain.new.self.entries c.retain.ensures.filtered))
