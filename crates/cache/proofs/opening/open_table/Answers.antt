use Rattle.std.proofs.Common.{Ok, sym, subst}
use Rattle.std.proofs.lemmas.Result.{err_from_is_err_and}
use Rattle.cache.specs.Tables.{FindsName, IsNameOf, OpensTable}
use Rattle.table.specs.Frame.{Opened}
use Rattle.cache.proofs.Opened.{not_opened, opened}
use Rattle.cache.proofs.opening.open_table.Goals as goal

pub returns-in_err-table : goal.returns-in_err-table
returns-in_err-table g c =
    let p = err_from_is_err_and c.from_residual-in_err-table.result c.from_residual-in_err-table.ensures.1 in
    let finds = subst (λ name. FindsName (g.S.Store.facts c.args.store.now) (g.S.Store.facts c.table_name.new.store) c.args.number name) (sym c.as_str.ensures.value) c.in_ok-name.ensures.found in
    rw (p.1, p.2) (not_opened g.K.KeyOrder.cmp c.in_err-table.field-0.0 (g.S.Store.facts c.args.store.now) (g.S.Store.facts c.table_name.new.store) (g.S.Store.facts c.open.new.store) c.args.number
    c.as_str.result.now c.table_name.ensures.reads c.in_ok-name.ensures.stood c.open.ensures.reads finds c.in_err-table.ensures.told c.in_err-table.ensures.refused)

pub returns : goal.returns
returns g c =
    let finds = subst (λ name. FindsName (g.S.Store.facts c.args.store.now) (g.S.Store.facts c.table_name.new.store) c.args.number name) (sym c.as_str.ensures.value) c.in_ok-name.ensures.found in
    let named = subst (IsNameOf c.args.number) (sym c.as_str.ensures.value) c.in_ok-name.ensures.named in
    subst (λ (table : Opened). OpensTable g.K.KeyOrder.cmp (g.S.Store.facts c.args.store.now) (g.S.Store.facts c.open.new.store) c.args.number (Ok table)) (sym c.in_ok-shared.ensures.ok)
    (opened g.K.KeyOrder.cmp (g.S.Store.facts c.args.store.now) (g.S.Store.facts c.table_name.new.store) (g.S.Store.facts c.open.new.store) c.args.number c.as_str.result.now c.in_ok-table.table
    c.table_name.ensures.reads c.in_ok-name.ensures.stood c.open.ensures.reads c.in_ok-table.ensures.stood finds named c.in_ok-table.ensures.name c.in_ok-table.ensures.found c.in_ok-table.ensures.supported)
