use Rattle.std.proofs.Common.{◌∙◌, None, arith}
use Rattle.std.proofs.lemmas.Result.{err_from_is_err_and}
use Rattle.ikey.specs.Orders.{order_of}
use Rattle.table_access.specs.Tables.{seen}
use Rattle.table_access.proofs.Standing.{still_later}
use Rattle.version_get.proofs.Getting.{carried, few_places, goes_on, none_behind, not_read}
use Rattle.version_get.proofs.Possible.{says_of_all, says_of_each}
use Rattle.version_get.proofs.Turns.{first_told, none_told, tears_here, told_on, turns_begin}
use Rattle.version_get.proofs.get.value_in_tables.Goals as goal

pub returns-in_err-found-clause-refused : goal.returns-in_err-found-clause-refused
returns-in_err-found-clause-refused g c =
    let p = err_from_is_err_and c.from_residual-in_err-found.result c.from_residual-in_err-found.ensures.1 in
    let order = order_of g.K.KeyOrder.name g.K.KeyOrder.cmp in
    let old = seen (g.S.Store.facts c.args.source.now.store) c.args.source.now.tables c.args.source.now.blocks in
    let now = seen (g.S.Store.facts c.loop-from.source.store) c.loop-from.source.tables c.loop-from.source.blocks in
    let new = seen (g.S.Store.facts c.value_in_table.new.source.store) c.value_in_table.new.source.tables c.value_in_table.new.source.blocks in
    let next = rw c.deref.ensures.value at c.in-Some.ensures in
    rw (p.1, p.2)
    (not_read order old now c.args.version.now.tables c.in_ok-target.target.items c.loop-from.from c.loop-from.invariant.sought
    c.in-Some.place c.in-Some.placed.now next new c.value_in_table.ensures.carries c.in_err-found.field-0.0 c.in_err-found.ensures.refused)

pub overflow_add-from : goal.overflow_add-from
overflow_add-from g c =
    let next = c.in-Some.ensures in
    let few = few_places c.args.version.now.tables c.in-Some.place c.search_end-end.result next.within c.search_end-end.ensures.is in
    let range = c.search_end-end.ensures.range in
    omega (arith, few, range)

pub loop-from-preserved : goal.loop-from-preserved
loop-from-preserved g c =
    let order = order_of g.K.KeyOrder.name g.K.KeyOrder.cmp in
    let old = seen (g.S.Store.facts c.args.source.now.store) c.args.source.now.tables c.args.source.now.blocks in
    let now = seen (g.S.Store.facts c.loop-from.source.store) c.loop-from.source.tables c.loop-from.source.blocks in
    let new = seen (g.S.Store.facts c.value_in_table.new.source.store) c.value_in_table.new.source.tables c.value_in_table.new.source.blocks in
    let next = rw c.deref.ensures.value at c.in-Some.ensures in
    record {
      sought = goes_on order old now c.args.version.now.tables c.in_ok-target.target.items c.loop-from.from c.loop-from.invariant.sought c.in-Some.place c.in-Some.placed.now next new c.value_in_table.ensures.carries c.in_ok-found.ensures.still;
      told = told_on order.cmp old now c.args.version.now.tables c.args.key.now c.args.sequence c.in_ok-target.target.items c.loop-from.from c.loop-from.invariant.told new c.in-Some.place c.in-Some.placed.now next
          c.loop-from.invariant.sought.carries c.value_in_table.ensures.carries c.in_ok-found.found c.if-is_some.ensures c.in_ok-found.ensures.told;
    }

pub returns-in_err-found-clause-still : goal.returns-in_err-found-clause-still
returns-in_err-found-clause-still g c =
    let p = err_from_is_err_and c.from_residual-in_err-found.result c.from_residual-in_err-found.ensures.1 in
    rw (p.1, p.2) (still_later c.in_err-found.field-0.0 (g.S.Store.facts c.args.source.now.store) (g.S.Store.facts c.loop-from.source.store) (g.S.Store.facts c.value_in_table.new.source.store) c.loop-from.invariant.sought.still c.in_err-found.ensures.still)

pub returns-in_default-clause-still : goal.returns-in_default-clause-still
returns-in_default-clause-still g c = c.loop-from.invariant.sought.still

pub returns-then-is_some-clause-still : goal.returns-then-is_some-clause-still
returns-then-is_some-clause-still g c = c.in_ok-found.ensures.still ∙ c.loop-from.invariant.sought.still

pub returns-clause-still : goal.returns-clause-still
returns-clause-still g c = c.loop-from.invariant.sought.still

pub returns-in_err-found-clause-carries : goal.returns-in_err-found-clause-carries
returns-in_err-found-clause-carries g c =
    let order = order_of g.K.KeyOrder.name g.K.KeyOrder.cmp in
    let old = seen (g.S.Store.facts c.args.source.now.store) c.args.source.now.tables c.args.source.now.blocks in
    let now = seen (g.S.Store.facts c.loop-from.source.store) c.loop-from.source.tables c.loop-from.source.blocks in
    let new = seen (g.S.Store.facts c.value_in_table.new.source.store) c.value_in_table.new.source.tables c.value_in_table.new.source.blocks in
    let next = rw c.deref.ensures.value at c.in-Some.ensures in
    carried order old now c.args.version.now.tables c.in_ok-target.target.items c.loop-from.from c.loop-from.invariant.sought
    c.in-Some.place c.in-Some.placed.now next new c.value_in_table.ensures.carries

pub returns-then-is_some-clause-carries : goal.returns-then-is_some-clause-carries
returns-then-is_some-clause-carries g c =
    let order = order_of g.K.KeyOrder.name g.K.KeyOrder.cmp in
    let old = seen (g.S.Store.facts c.args.source.now.store) c.args.source.now.tables c.args.source.now.blocks in
    let now = seen (g.S.Store.facts c.loop-from.source.store) c.loop-from.source.tables c.loop-from.source.blocks in
    let new = seen (g.S.Store.facts c.value_in_table.new.source.store) c.value_in_table.new.source.tables c.value_in_table.new.source.blocks in
    let next = rw c.deref.ensures.value at c.in-Some.ensures in
    carried order old now c.args.version.now.tables c.in_ok-target.target.items c.loop-from.from c.loop-from.invariant.sought
    c.in-Some.place c.in-Some.placed.now next new c.value_in_table.ensures.carries

pub loop-from-init : goal.loop-from-init
loop-from-init g c =
    turns_begin (order_of g.K.KeyOrder.name g.K.KeyOrder.cmp) (seen (g.S.Store.facts c.args.source.now.store) c.args.source.now.tables c.args.source.now.blocks) c.args.version.now.tables c.args.key.now c.args.sequence
    c.in_ok-target.target.items

pub returns-in_default-clause-told : goal.returns-in_default-clause-told
returns-in_default-clause-told g c =
    let old = seen (g.S.Store.facts c.args.source.now.store) c.args.source.now.tables c.args.source.now.blocks in
    let now = seen (g.S.Store.facts c.loop-from.source.store) c.loop-from.source.tables c.loop-from.source.blocks in
    let none = rw c.deref.ensures.value at c.in_default.ensures in (
      c.in_ok-target.target.items,
      c.in_ok-target.ensures,
      none_told g.K.KeyOrder.cmp old now c.args.version.now.tables c.args.key.now c.args.sequence c.in_ok-target.target.items c.loop-from.from c.loop-from.invariant.told none,
    )

pub returns-then-is_some-clause-told : goal.returns-then-is_some-clause-told
returns-then-is_some-clause-told g c =
    let old = seen (g.S.Store.facts c.args.source.now.store) c.args.source.now.tables c.args.source.now.blocks in
    let now = seen (g.S.Store.facts c.loop-from.source.store) c.loop-from.source.tables c.loop-from.source.blocks in
    let new = seen (g.S.Store.facts c.value_in_table.new.source.store) c.value_in_table.new.source.tables c.value_in_table.new.source.blocks in
    let next = rw c.deref.ensures.value at c.in-Some.ensures in (
      c.in_ok-target.target.items,
      c.in_ok-target.ensures,
      first_told g.K.KeyOrder.cmp old now c.args.version.now.tables c.args.key.now c.args.sequence c.in_ok-target.target.items c.loop-from.from c.loop-from.invariant.told new c.in-Some.place c.in-Some.placed.now next
          c.loop-from.invariant.sought.carries c.value_in_table.ensures.carries c.in_ok-found.found c.if-is_some.ensures c.in_ok-found.ensures.told,
    )

pub returns-clause-told : goal.returns-clause-told
returns-clause-told g c =
    let order = order_of g.K.KeyOrder.name g.K.KeyOrder.cmp in
    let old = seen (g.S.Store.facts c.args.source.now.store) c.args.source.now.tables c.args.source.now.blocks in
    let now = seen (g.S.Store.facts c.loop-from.source.store) c.loop-from.source.tables c.loop-from.source.blocks in (
      c.in_ok-target.target.items,
      c.in_ok-target.ensures,
      none_told g.K.KeyOrder.cmp old now c.args.version.now.tables c.args.key.now c.args.sequence c.in_ok-target.target.items c.loop-from.from c.loop-from.invariant.told
          (none_behind order c.args.version.now.tables c.in_ok-target.target.items c.loop-from.from c.search_end-end.result c.search_end-end.ensures.is (omega (arith, c.loop-from-test.false))),
    )

pub returns-in_err-found-clause-torn : goal.returns-in_err-found-clause-torn
returns-in_err-found-clause-torn g c =
    let p = err_from_is_err_and c.from_residual-in_err-found.result c.from_residual-in_err-found.ensures.1 in
    let old = seen (g.S.Store.facts c.args.source.now.store) c.args.source.now.tables c.args.source.now.blocks in
    let now = seen (g.S.Store.facts c.loop-from.source.store) c.loop-from.source.tables c.loop-from.source.blocks in
    let new = seen (g.S.Store.facts c.value_in_table.new.source.store) c.value_in_table.new.source.tables c.value_in_table.new.source.blocks in
    let next = rw c.deref.ensures.value at c.in-Some.ensures in
    rw (p.1, p.2)
    (tears_here g.K.KeyOrder.cmp old now c.args.version.now.tables c.args.key.now c.args.sequence c.in_ok-target.target.items c.loop-from.from c.loop-from.invariant.told new c.in-Some.place c.in-Some.placed.now next
    c.loop-from.invariant.sought.carries c.value_in_table.ensures.carries c.in_ok-target.ensures c.in_err-found.field-0.0 c.in_err-found.ensures.torn)

pub returns-in_default-clause-may : goal.returns-in_default-clause-may
returns-in_default-clause-may g c =
    let order = order_of g.K.KeyOrder.name g.K.KeyOrder.cmp in
    let old = seen (g.S.Store.facts c.args.source.now.store) c.args.source.now.tables c.args.source.now.blocks in
    let now = seen (g.S.Store.facts c.loop-from.source.store) c.loop-from.source.tables c.loop-from.source.blocks in
    says_of_each order g.met.K.KeyOrder.total g.met.K.KeyOrder.exact c.told_for_all.ensures old now c.args.version.now.tables c.args.key.now c.args.sequence None (returns-in_default-clause-told g c)

pub returns-in_default-clause-found : goal.returns-in_default-clause-found
returns-in_default-clause-found g c =
    let order = order_of g.K.KeyOrder.name g.K.KeyOrder.cmp in
    let old = seen (g.S.Store.facts c.args.source.now.store) c.args.source.now.tables c.args.source.now.blocks in
    let now = seen (g.S.Store.facts c.loop-from.source.store) c.loop-from.source.tables c.loop-from.source.blocks in
    says_of_all order g.met.K.KeyOrder.total g.met.K.KeyOrder.exact c.told_for_all.ensures old now c.args.version.now.tables c.args.key.now c.args.sequence None (returns-in_default-clause-may g c)

pub returns-then-is_some-clause-may : goal.returns-then-is_some-clause-may
returns-then-is_some-clause-may g c =
    let order = order_of g.K.KeyOrder.name g.K.KeyOrder.cmp in
    let old = seen (g.S.Store.facts c.args.source.now.store) c.args.source.now.tables c.args.source.now.blocks in
    let new = seen (g.S.Store.facts c.value_in_table.new.source.store) c.value_in_table.new.source.tables c.value_in_table.new.source.blocks in
    says_of_each order g.met.K.KeyOrder.total g.met.K.KeyOrder.exact c.told_for_all.ensures old new c.args.version.now.tables c.args.key.now c.args.sequence c.in_ok-found.found (returns-then-is_some-clause-told g c)

pub returns-then-is_some-clause-found : goal.returns-then-is_some-clause-found
returns-then-is_some-clause-found g c =
    let order = order_of g.K.KeyOrder.name g.K.KeyOrder.cmp in
    let old = seen (g.S.Store.facts c.args.source.now.store) c.args.source.now.tables c.args.source.now.blocks in
    let new = seen (g.S.Store.facts c.value_in_table.new.source.store) c.value_in_table.new.source.tables c.value_in_table.new.source.blocks in
    says_of_all order g.met.K.KeyOrder.total g.met.K.KeyOrder.exact c.told_for_all.ensures old new c.args.version.now.tables c.args.key.now c.args.sequence c.in_ok-found.found (returns-then-is_some-clause-may g c)

pub returns-clause-may : goal.returns-clause-may
returns-clause-may g c =
    let order = order_of g.K.KeyOrder.name g.K.KeyOrder.cmp in
    let old = seen (g.S.Store.facts c.args.source.now.store) c.args.source.now.tables c.args.source.now.blocks in
    let now = seen (g.S.Store.facts c.loop-from.source.store) c.loop-from.source.tables c.loop-from.source.blocks in
    says_of_each order g.met.K.KeyOrder.total g.met.K.KeyOrder.exact c.told_for_all.ensures old now c.args.version.now.tables c.args.key.now c.args.sequence None (returns-clause-told g c)

pub returns-clause-found : goal.returns-clause-found
returns-clause-found g c =
    let order = order_of g.K.KeyOrder.name g.K.KeyOrder.cmp in
    let old = seen (g.S.Store.facts c.args.source.now.store) c.args.source.now.tables c.args.source.now.blocks in
    let now = seen (g.S.Store.facts c.loop-from.source.store) c.loop-from.source.tables c.loop-from.source.blocks in
    says_of_all order g.met.K.KeyOrder.total g.met.K.KeyOrder.exact c.told_for_all.ensures old now c.args.version.now.tables c.args.key.now c.args.sequence None (returns-clause-may g c)
