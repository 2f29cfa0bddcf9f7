use Rattle.std.proofs.Common.{[], ◌∷◌, ◌++◌, ◌∙◌, subst}
use Rattle.ikey.specs.Entries.{Pair}
use Rattle.memtable.specs.Slots.{entry_seen}
use Rattle.table.proofs.Storing.{writes_none}
use Rattle.table.specs.Building.{Builds}
use Rattle.directory_writes.proofs.Filled.{same_pair}
use Rattle.directory_writes.proofs.level0.add_entry.Goals as goal

pub returns-in_err-pack_into-clause-writes : goal.returns-in_err-pack_into-clause-writes
returns-in_err-pack_into-clause-writes g c = writes_none (g.S.Store.facts c.args.store.now) c.args.builder.now.name

pub returns-clause-added : goal.returns-clause-added
returns-clause-added g c = λ pairs t b.
    subst (λ (p : Pair). Builds g.K.KeyOrder.cmp c.add.new.self (g.S.Store.facts c.add.new.store) (pairs ++ p ∷ []))
    (same_pair c.deref.result.now c.value_of.result.now (entry_seen c.args.entry) (c.deref.ensures.value ∙ c.in_ok-pack_into.ensures.parts) c.value_of.ensures)
    (c.in_ok-add.ensures.added pairs t b)
