use Rattle.std.proofs.Common.{subst, ap, sym}
use Rattle.store.specs.Files.{Facts}
use Rattle.ikey.specs.Entries.{Pair}
use Rattle.table.specs.Building.{Builds}
use Rattle.compact.specs.Outputs.{Filling, table_name}
use Rattle.compact.proofs.Tables.{filling-more}
use Rattle.table.proofs.Storing.{writes_none}
use Rattle.compact.proofs.new_table.NewTable.add.Goals as goal

pub returns-clause-added : goal.returns-clause-added
returns-clause-added g c = λ pairs t none h.
    let a : Facts = g.S.Store.facts c.args.store.now in
    let b : Facts = g.S.Store.facts c.add.new.store in
    let pair : Pair = record { key = c.args.key.now; value = c.args.value.now } in
    let new : Filling = record { number = c.self.inside.number; smallest = c.self.inside.smallest; largest = c.copy_to.new.buffer.items; building = c.add.new.self } in
    filling-more g.K.KeyOrder.cmp c.args.self.now new a b pairs pair (ap (λ (f : Filling). f.smallest) c.self.view_is) c.in_ok-copy_to.ensures.ok none
    (λ builds. c.in_ok-add.ensures.added pairs t (subst (λ (f : Filling). Builds g.K.KeyOrder.cmp f.building a pairs) (sym c.self.view_is) builds)) h

pub returns-clause-internal : goal.returns-clause-internal
returns-clause-internal g c = (c.if-not-accepts.ensures.parts, c.if-not-accepts.ensures.parts_are)

pub returns-then-not-accepts-clause-writes : goal.returns-then-not-accepts-clause-writes
returns-then-not-accepts-clause-writes g c = writes_none (g.S.Store.facts c.args.store.now) (table_name c.args.self.now.number)

pub returns-in_err-copy_to-clause-writes : goal.returns-in_err-copy_to-clause-writes
returns-in_err-copy_to-clause-writes g c = writes_none (g.S.Store.facts c.args.store.now) (table_name c.args.self.now.number)
