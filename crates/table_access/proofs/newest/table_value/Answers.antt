use Rattle.std.proofs.Common.{ℕ, IsTrue, List, refl, inl, inr}
use Rattle.std.proofs.lemmas.Result.{err_from_is_err_and}
use Rattle.coding.specs.declared.error.Damage.TheVariants.{Kind}
use Rattle.coding.specs.declared.error.FileKind.TheVariants.{Table}
use Rattle.ikey.specs.Below.{IsBelowInternal}
use Rattle.table_access.specs.TableLaws.{carries_both}
use Rattle.table_access.specs.Tables.{seen}
use Rattle.table_access.specs.Values.{StandsOnNone}
use Rattle.table_access.proofs.Carrying.{still_has}
use Rattle.table_access.proofs.Coming.{first_says}
use Rattle.table_access.proofs.Declining.{NoTableThere, data_of, not_opened, not_searched, not_valued, starts_inside}
use Rattle.table_access.proofs.Filling.{filling_of}
use Rattle.table_access.proofs.Wholes.{filled_of}
use Rattle.table_access.proofs.Ruling.{undenied}
use Rattle.table_access.proofs.Standing.{still_later, table_still}
use Rattle.table_access.proofs.Valuing.{denied_unseen, none_found, one_found, stands_on_key}
use Rattle.table_access.proofs.Tearing.{torn_frame, torn_search, torn_value}
use Rattle.table_access.proofs.newest.table_value.Goals as goal

pub returns-in_err-table-clause-refused : goal.returns-in_err-table-clause-refused
returns-in_err-table-clause-refused g c =
    let p = err_from_is_err_and c.from_residual.result c.from_residual.ensures.1 in
    let old = seen (g.S.Store.facts c.args.source.now.store) c.args.source.now.tables c.args.source.now.blocks in
    let mid = seen (g.S.Store.facts c.get_table.new.self.store) c.get_table.new.self.tables c.get_table.new.self.blocks in
    rw (p.1, p.2) (not_opened g.K.KeyOrder.cmp old c.args.placed.now c.in_err-table.field-0.0 mid c.in_err-table.ensures.refused)

pub returns-then-is_denied-clause-found : goal.returns-then-is_denied-clause-found
returns-then-is_denied-clause-found g c = λ t file has entries table.
    let frame = c.in_ok-table.table.value.frame in
    let open_is = (c.in_ok-table.ensures.found t file has).1 in
    let filled = filled_of g.K.KeyOrder.cmp file frame entries open_is.0 table in
    let first = rw (c.deref.ensures, c.deref-2.ensures.value) at c.first_place-start.ensures in
    let denies = rw c.deref-3.ensures at c.if-is_denied.ensures in
    denied_unseen g.K.KeyOrder.cmp g.met.K.KeyOrder.total g.met.K.KeyOrder.exact file frame entries open_is.0 filled.blocks (filling_of g.K.KeyOrder.cmp file frame entries filled) c.args.key.now c.args.sequence c.in_ok-target.target.items c.in_ok-target.ensures
    c.first_place-start.result first denies

pub returns-in_err-found-clause-refused : goal.returns-in_err-found-clause-refused
returns-in_err-found-clause-refused g c =
    let p = err_from_is_err_and c.from_residual-in_err-found.result c.from_residual-in_err-found.ensures.1 in
    let old = seen (g.S.Store.facts c.args.source.now.store) c.args.source.now.tables c.args.source.now.blocks in
    let mid = seen (g.S.Store.facts c.get_table.new.self.store) c.get_table.new.self.tables c.get_table.new.self.blocks in
    let new = seen (g.S.Store.facts c.search_on.new.source.store) c.search_on.new.source.tables c.search_on.new.source.blocks in
    let refused = rw (c.deref-4.ensures, c.deref-5.ensures.value) at c.in_err-found.ensures.refused in
    rw (p.1, p.2)
    (not_searched g.K.KeyOrder.cmp old c.args.placed.now mid new c.get_table.ensures.carries c.search_on.ensures.carries (λ (other : List ℕ). IsBelowInternal g.K.KeyOrder.cmp other c.in_ok-target.target.items) c.in_ok-table.table.value.frame c.first_place-start.result
    (λ m file has. (c.in_ok-table.ensures.found m file has).1) c.in_err-found.field-0.0 refused)

pub returns-in-Some-clause-found : goal.returns-in-Some-clause-found
returns-in-Some-clause-found g c = λ t file has entries table.
    let old = seen (g.S.Store.facts c.args.source.now.store) c.args.source.now.tables c.args.source.now.blocks in
    let mid = seen (g.S.Store.facts c.get_table.new.self.store) c.get_table.new.self.tables c.get_table.new.self.blocks in
    let m = c.search_on.ensures.carries.reads.faithful t in
    let frame = c.in_ok-table.table.value.frame in
    let open_is = (c.in_ok-table.ensures.found m file has).1 in
    let filled = filled_of g.K.KeyOrder.cmp file frame entries open_is.0 table in
    let first = rw (c.deref.ensures, c.deref-2.ensures.value) at c.first_place-start.ensures in
    let search = rw (c.deref-4.ensures, c.deref-5.ensures.value, c.in-Some.is) at c.in_ok-found.ensures.found in
    let found = search t filled.blocks (data_of g.K.KeyOrder.cmp old mid c.args.placed.now file frame entries c.get_table.ensures.carries m has open_is filled)
    (starts_inside g.K.KeyOrder.cmp file c.in_ok-target.target.items frame entries c.first_place-start.result first filled) in
    one_found g.K.KeyOrder.cmp g.met.K.KeyOrder.total g.met.K.KeyOrder.exact file frame entries open_is.0 filled.blocks (filling_of g.K.KeyOrder.cmp file frame entries filled) c.args.key.now c.args.sequence c.in_ok-target.target.items c.in_ok-target.ensures
    c.first_place-start.result first found.0 found.1 c.in-Some.here c.in_ok-value-in-Some.value found.2 c.in_ok-value-in-Some.ensures.found

pub returns-in_err-value-in-Some-clause-refused : goal.returns-in_err-value-in-Some-clause-refused
returns-in_err-value-in-Some-clause-refused g c =
    let p = err_from_is_err_and c.from_residual-in_err-value-in-Some.result c.from_residual-in_err-value-in-Some.ensures.1 in
    let cmp = g.K.KeyOrder.cmp in
    let old = seen (g.S.Store.facts c.args.source.now.store) c.args.source.now.tables c.args.source.now.blocks in
    let mid = seen (g.S.Store.facts c.get_table.new.self.store) c.get_table.new.self.tables c.get_table.new.self.blocks in
    let new = seen (g.S.Store.facts c.search_on.new.source.store) c.search_on.new.source.tables c.search_on.new.source.blocks in
    let frame = c.in_ok-table.table.value.frame in
    let none : StandsOnNone c.in-Some.here.cursor → IsTrue new.facts.faithful → NoTableThere cmp old c.args.placed.now = λ none t file has entries table keys.
    let m = c.search_on.ensures.carries.reads.faithful t in
    let open_is = (c.in_ok-table.ensures.found m file has).1 in
    let filled = filled_of cmp file frame entries open_is.0 table in
    let first = rw (c.deref.ensures, c.deref-2.ensures.value) at c.first_place-start.ensures in
    let search = rw (c.deref-4.ensures, c.deref-5.ensures.value, c.in-Some.is) at c.in_ok-found.ensures.found in
    let found = search t filled.blocks (data_of cmp old mid c.args.placed.now file frame entries c.get_table.ensures.carries m has open_is filled)
    (starts_inside cmp file c.in_ok-target.target.items frame entries c.first_place-start.result first filled) in
    stands_on_key cmp g.met.K.KeyOrder.total g.met.K.KeyOrder.exact file frame entries open_is.0 filled.blocks (filling_of g.K.KeyOrder.cmp file frame entries filled) c.args.key.now c.args.sequence c.in_ok-target.target.items c.in_ok-target.ensures
    c.first_place-start.result first found.0 found.1 c.in-Some.here found.2 none in
    rw (p.1, p.2) (not_valued cmp old c.args.placed.now c.in_err-value-in-Some.field-0.0 new Table Kind (elim c.in_err-value-in-Some.ensures.refused [
      | inl memory ↦ inl memory
      | inr corrupt ↦ inr (corrupt.0, none corrupt.1)
    ]))

pub returns-clause-found : goal.returns-clause-found
returns-clause-found g c = λ t file has entries table.
    let old = seen (g.S.Store.facts c.args.source.now.store) c.args.source.now.tables c.args.source.now.blocks in
    let mid = seen (g.S.Store.facts c.get_table.new.self.store) c.get_table.new.self.tables c.get_table.new.self.blocks in
    let m = c.search_on.ensures.carries.reads.faithful t in
    let frame = c.in_ok-table.table.value.frame in
    let open_is = (c.in_ok-table.ensures.found m file has).1 in
    let filled = filled_of g.K.KeyOrder.cmp file frame entries open_is.0 table in
    let first = rw (c.deref.ensures, c.deref-2.ensures.value) at c.first_place-start.ensures in
    let search = rw (c.deref-4.ensures, c.deref-5.ensures.value, c.in-None.is) at c.in_ok-found.ensures.found in
    let found = search t filled.blocks (data_of g.K.KeyOrder.cmp old mid c.args.placed.now file frame entries c.get_table.ensures.carries m has open_is filled)
    (starts_inside g.K.KeyOrder.cmp file c.in_ok-target.target.items frame entries c.first_place-start.result first filled) in
    none_found g.K.KeyOrder.cmp g.met.K.KeyOrder.total g.met.K.KeyOrder.exact file frame entries open_is.0 filled.blocks (filling_of g.K.KeyOrder.cmp file frame entries filled) c.args.key.now c.args.sequence c.in_ok-target.target.items c.in_ok-target.ensures
    c.first_place-start.result first found.0 found.1 found.2

pub returns-then-is_denied-clause-told : goal.returns-then-is_denied-clause-told
returns-then-is_denied-clause-told g c = λ t file has.
    let first = rw (c.deref.ensures, c.deref-2.ensures.value) at c.first_place-start.ensures in
    let denies = rw c.deref-3.ensures at c.if-is_denied.ensures in (
      c.in_ok-table.table.value.frame,
      (c.in_ok-table.ensures.found t file has).1.0,
      inl (record { target = c.in_ok-target.target.items; start = c.first_place-start.result; target_is = c.in_ok-target.ensures; start_is = first; denies = denies }, refl),
    )

pub returns-in-Some-clause-told : goal.returns-in-Some-clause-told
returns-in-Some-clause-told g c = λ t file has.
    let old = seen (g.S.Store.facts c.args.source.now.store) c.args.source.now.tables c.args.source.now.blocks in
    let mid = seen (g.S.Store.facts c.get_table.new.self.store) c.get_table.new.self.tables c.get_table.new.self.blocks in
    let m = c.search_on.ensures.carries.reads.faithful t in
    let frame = c.in_ok-table.table.value.frame in
    let is = (c.in_ok-table.ensures.found m file has).1.0 in
    let first = rw (c.deref.ensures, c.deref-2.ensures.value) at c.first_place-start.ensures in
    let came = rw (c.deref-4.ensures, c.deref-5.ensures.value, c.in-Some.is) at c.in_ok-found.ensures.came in
    let found = came t file (still_has g.K.KeyOrder.cmp old mid c.args.placed.now.table.number file c.get_table.ensures.carries m has) is in (
      frame,
      is,
      inr (record {
        target = c.in_ok-target.target.items;
        start = c.first_place-start.result;
        target_is = c.in_ok-target.ensures;
        start_is = first;
        told = inr (first_says g.K.KeyOrder.cmp _ c.args.placed.now file frame c.first_place-start.result c.in-Some.here.index c.in-Some.here.cursor c.args.key.now c.in_ok-value-in-Some.value found c.in_ok-value-in-Some.ensures.found c.in_ok-value-in-Some.ensures.keyed);
      }),
    )

pub returns-clause-told : goal.returns-clause-told
returns-clause-told g c = λ t file has.
    let old = seen (g.S.Store.facts c.args.source.now.store) c.args.source.now.tables c.args.source.now.blocks in
    let mid = seen (g.S.Store.facts c.get_table.new.self.store) c.get_table.new.self.tables c.get_table.new.self.blocks in
    let m = c.search_on.ensures.carries.reads.faithful t in
    let frame = c.in_ok-table.table.value.frame in
    let is = (c.in_ok-table.ensures.found m file has).1.0 in
    let first = rw (c.deref.ensures, c.deref-2.ensures.value) at c.first_place-start.ensures in
    let came = rw (c.deref-4.ensures, c.deref-5.ensures.value, c.in-None.is) at c.in_ok-found.ensures.came in (
      frame,
      is,
      inr (record {
        target = c.in_ok-target.target.items;
        start = c.first_place-start.result;
        target_is = c.in_ok-target.ensures;
        start_is = first;
        told = inl (came t file (still_has g.K.KeyOrder.cmp old mid c.args.placed.now.table.number file c.get_table.ensures.carries m has) is, refl);
      }),
    )

pub returns-in_err-table-clause-still : goal.returns-in_err-table-clause-still
returns-in_err-table-clause-still g c =
    let p = err_from_is_err_and c.from_residual.result c.from_residual.ensures.1 in
    rw (p.1, p.2) (table_still c.in_err-table.field-0.0 (g.S.Store.facts c.args.source.now.store) (g.S.Store.facts c.get_table.new.self.store) c.args.placed.now.table.number _ _ c.in_err-table.ensures.refused)

pub returns-in_err-found-clause-still : goal.returns-in_err-found-clause-still
returns-in_err-found-clause-still g c =
    let p = err_from_is_err_and c.from_residual-in_err-found.result c.from_residual-in_err-found.ensures.1 in
    rw (p.1, p.2) (still_later c.in_err-found.field-0.0 (g.S.Store.facts c.args.source.now.store) (g.S.Store.facts c.get_table.new.self.store) (g.S.Store.facts c.search_on.new.source.store) c.in_ok-table.ensures.stood c.in_err-found.ensures.still)

pub returns-in_err-found-clause-denied : goal.returns-in_err-found-clause-denied
returns-in_err-found-clause-denied g c = λ table file kept is denies.
    let first = rw (c.deref.ensures, c.deref-2.ensures.value) at c.first_place-start.ensures in
    let admitted = rw c.deref-3.ensures at c.if-is_denied.ensures in
    absurd (undenied g.K.KeyOrder.cmp g.met.K.KeyOrder.total g.met.K.KeyOrder.exact c.args.key.now c.args.sequence _ _ c.in_ok-table.table.value c.in_ok-table.ensures.hit c.in_ok-target.target.items
    c.in_ok-target.ensures c.first_place-start.result first admitted table file kept is denies)

pub returns-in_err-value-in-Some-clause-denied : goal.returns-in_err-value-in-Some-clause-denied
returns-in_err-value-in-Some-clause-denied g c = λ table file kept is denies.
    let first = rw (c.deref.ensures, c.deref-2.ensures.value) at c.first_place-start.ensures in
    let admitted = rw c.deref-3.ensures at c.if-is_denied.ensures in
    absurd (undenied g.K.KeyOrder.cmp g.met.K.KeyOrder.total g.met.K.KeyOrder.exact c.args.key.now c.args.sequence _ _ c.in_ok-table.table.value c.in_ok-table.ensures.hit c.in_ok-target.target.items
    c.in_ok-target.ensures c.first_place-start.result first admitted table file kept is denies)

pub returns-in-Some-clause-denied : goal.returns-in-Some-clause-denied
returns-in-Some-clause-denied g c = λ table file kept is denies.
    let first = rw (c.deref.ensures, c.deref-2.ensures.value) at c.first_place-start.ensures in
    let admitted = rw c.deref-3.ensures at c.if-is_denied.ensures in
    absurd (undenied g.K.KeyOrder.cmp g.met.K.KeyOrder.total g.met.K.KeyOrder.exact c.args.key.now c.args.sequence _ _ c.in_ok-table.table.value c.in_ok-table.ensures.hit c.in_ok-target.target.items
    c.in_ok-target.ensures c.first_place-start.result first admitted table file kept is denies)

pub returns-clause-denied : goal.returns-clause-denied
returns-clause-denied g c = λ table file kept is denies.
    let first = rw (c.deref.ensures, c.deref-2.ensures.value) at c.first_place-start.ensures in
    let admitted = rw c.deref-3.ensures at c.if-is_denied.ensures in
    absurd (undenied g.K.KeyOrder.cmp g.met.K.KeyOrder.total g.met.K.KeyOrder.exact c.args.key.now c.args.sequence _ _ c.in_ok-table.table.value c.in_ok-table.ensures.hit c.in_ok-target.target.items
    c.in_ok-target.ensures c.first_place-start.result first admitted table file kept is denies)

pub returns-in_err-found-clause-carries : goal.returns-in_err-found-clause-carries
returns-in_err-found-clause-carries g c =
    carries_both g.K.KeyOrder.cmp (seen (g.S.Store.facts c.args.source.now.store) c.args.source.now.tables c.args.source.now.blocks)
    (seen (g.S.Store.facts c.get_table.new.self.store) c.get_table.new.self.tables c.get_table.new.self.blocks)
    (seen (g.S.Store.facts c.search_on.new.source.store) c.search_on.new.source.tables c.search_on.new.source.blocks) c.get_table.ensures.carries c.search_on.ensures.carries

pub returns-in_err-value-in-Some-clause-carries : goal.returns-in_err-value-in-Some-clause-carries
returns-in_err-value-in-Some-clause-carries g c =
    carries_both g.K.KeyOrder.cmp (seen (g.S.Store.facts c.args.source.now.store) c.args.source.now.tables c.args.source.now.blocks)
    (seen (g.S.Store.facts c.get_table.new.self.store) c.get_table.new.self.tables c.get_table.new.self.blocks)
    (seen (g.S.Store.facts c.search_on.new.source.store) c.search_on.new.source.tables c.search_on.new.source.blocks) c.get_table.ensures.carries c.search_on.ensures.carries

pub returns-in-Some-clause-carries : goal.returns-in-Some-clause-carries
returns-in-Some-clause-carries g c =
    carries_both g.K.KeyOrder.cmp (seen (g.S.Store.facts c.args.source.now.store) c.args.source.now.tables c.args.source.now.blocks)
    (seen (g.S.Store.facts c.get_table.new.self.store) c.get_table.new.self.tables c.get_table.new.self.blocks)
    (seen (g.S.Store.facts c.search_on.new.source.store) c.search_on.new.source.tables c.search_on.new.source.blocks) c.get_table.ensures.carries c.search_on.ensures.carries

pub returns-clause-carries : goal.returns-clause-carries
returns-clause-carries g c =
    carries_both g.K.KeyOrder.cmp (seen (g.S.Store.facts c.args.source.now.store) c.args.source.now.tables c.args.source.now.blocks)
    (seen (g.S.Store.facts c.get_table.new.self.store) c.get_table.new.self.tables c.get_table.new.self.blocks)
    (seen (g.S.Store.facts c.search_on.new.source.store) c.search_on.new.source.tables c.search_on.new.source.blocks) c.get_table.ensures.carries c.search_on.ensures.carries

pub returns-in_err-table-clause-torn : goal.returns-in_err-table-clause-torn
returns-in_err-table-clause-torn g c =
    let p = err_from_is_err_and c.from_residual.result c.from_residual.ensures.1 in
    let old = seen (g.S.Store.facts c.args.source.now.store) c.args.source.now.tables c.args.source.now.blocks in
    let mid = seen (g.S.Store.facts c.get_table.new.self.store) c.get_table.new.self.tables c.get_table.new.self.blocks in
    rw (p.1, p.2) (torn_frame g.K.KeyOrder.cmp old mid c.args.placed.now c.args.key.now c.args.sequence c.in_err-table.field-0.0 c.in_err-table.ensures.refused)

pub returns-in_err-found-clause-torn : goal.returns-in_err-found-clause-torn
returns-in_err-found-clause-torn g c =
    let p = err_from_is_err_and c.from_residual-in_err-found.result c.from_residual-in_err-found.ensures.1 in
    let old = seen (g.S.Store.facts c.args.source.now.store) c.args.source.now.tables c.args.source.now.blocks in
    let mid = seen (g.S.Store.facts c.get_table.new.self.store) c.get_table.new.self.tables c.get_table.new.self.blocks in
    let new = seen (g.S.Store.facts c.search_on.new.source.store) c.search_on.new.source.tables c.search_on.new.source.blocks in
    let first = rw (c.deref.ensures, c.deref-2.ensures.value) at c.first_place-start.ensures in
    let torn = rw (c.deref-4.ensures, c.deref-5.ensures.value) at c.in_err-found.ensures.torn in
    rw (p.1, p.2)
    (torn_search g.K.KeyOrder.cmp old mid new c.args.placed.now c.in_ok-table.table.value.frame c.args.key.now c.args.sequence c.get_table.ensures.carries c.search_on.ensures.carries c.in_ok-target.target.items
    c.first_place-start.result c.in_ok-target.ensures first (λ m file has. (c.in_ok-table.ensures.found m file has).1.0) c.in_err-found.field-0.0 torn)

pub returns-in_err-value-in-Some-clause-torn : goal.returns-in_err-value-in-Some-clause-torn
returns-in_err-value-in-Some-clause-torn g c =
    let p = err_from_is_err_and c.from_residual-in_err-value-in-Some.result c.from_residual-in_err-value-in-Some.ensures.1 in
    let old = seen (g.S.Store.facts c.args.source.now.store) c.args.source.now.tables c.args.source.now.blocks in
    let mid = seen (g.S.Store.facts c.get_table.new.self.store) c.get_table.new.self.tables c.get_table.new.self.blocks in
    let new = seen (g.S.Store.facts c.search_on.new.source.store) c.search_on.new.source.tables c.search_on.new.source.blocks in
    let first = rw (c.deref.ensures, c.deref-2.ensures.value) at c.first_place-start.ensures in
    let came = rw (c.deref-4.ensures, c.deref-5.ensures.value, c.in-Some.is) at c.in_ok-found.ensures.came in
    rw (p.1, p.2)
    (torn_value g.K.KeyOrder.cmp old mid new c.args.placed.now c.in_ok-table.table.value.frame c.args.key.now c.args.sequence c.get_table.ensures.carries c.search_on.ensures.carries c.in_ok-target.target.items
    c.first_place-start.result c.in_ok-target.ensures first (λ m file has. (c.in_ok-table.ensures.found m file has).1.0) c.in-Some.here.index c.in-Some.here.cursor c.in_err-value-in-Some.field-0.0 Table Kind came
    c.in_err-value-in-Some.ensures.refused)
