use Rattle.std.proofs.Common.{◌==◌, ◌∙◌, Contains, Some, refl, sym, ap, subst}
use Rattle.std.specs.Option.{option_copied}
use Rattle.std.proofs.lemmas.Result.{err_from_is_err_and}
use Rattle.lru.proofs.CallerLemmas.{Contains-promoted}
use Rattle.cache.specs.Tables.{tables_in}
use Rattle.cache.proofs.Used.{used-map}
use Rattle.cache.proofs.Keeping.{within, kept_table_none, kept_table_some, kept_table_is}
use Rattle.cache.proofs.table_cache.find_in.Goals as goal

pub returns-in_default-clause-found : goal.returns-in_default-clause-found
returns-in_default-clause-found g c = kept_table_none (λ v. v.value) c.args.number c.args.tables.now.entries (sym c.get.ensures.value ∙ ap option_copied c.in_default.is)

pub returns-in_default-clause-kept : goal.returns-in_default-clause-kept
returns-in_default-clause-kept g c =
    let order = ap (λ e. e.entries) c.get.follows.holds-at-none in
    within _ c.get.follows.lender-at-none.entries c.args.tables.now.entries (λ x there. Contains-promoted _ c.args.tables.now.entries x (subst (λ es. Contains es x) order there))

pub returns-in_err-table-clause-refused : goal.returns-in_err-table-clause-refused
returns-in_err-table-clause-refused g c =
    let there = kept_table_is (λ v. v.value) c.args.number c.args.tables.now.entries c.in-Some.kept.now (sym c.get.ensures.value ∙ ap option_copied c.in-Some.is) in
    let p = err_from_is_err_and c.from_residual.result c.from_residual.ensures.1 in rw p.1 there

pub returns-in_err-table-clause-kept : goal.returns-in_err-table-clause-kept
returns-in_err-table-clause-kept g c =
    let order = ap (λ e. e.entries) c.get.follows.holds-at-none in
    within _ c.get.follows.lender-at-none.entries c.args.tables.now.entries (λ x there. Contains-promoted _ c.args.tables.now.entries x (subst (λ es. Contains es x) order there))

pub returns-clause-found : goal.returns-clause-found
returns-clause-found g c =
    kept_table_some (λ v. v.value) c.args.number c.args.tables.now.entries c.in-Some.kept.now (sym c.get.ensures.value ∙ ap option_copied c.in-Some.is)
    ∙ ap Some (sym c.in_ok-table.ensures.cases)

pub returns-clause-kept : goal.returns-clause-kept
returns-clause-kept g c =
    let order = ap (λ e. e.entries) c.get.follows.holds-at-none in
    within _ c.get.follows.lender-at-none.entries c.args.tables.now.entries (λ x there. Contains-promoted _ c.args.tables.now.entries x (subst (λ es. Contains es x) order there))

pub returns-in_default-clause-order : goal.returns-in_default-clause-order
returns-in_default-clause-order g c =
    ap (λ e. tables_in e.entries) c.get.follows.holds-at-none ∙ used-map _ _ (λ kept. c.args.number == kept.number) (λ e. refl) c.args.tables.now.entries

pub returns-in_err-table-clause-order : goal.returns-in_err-table-clause-order
returns-in_err-table-clause-order g c =
    ap (λ e. tables_in e.entries) c.get.follows.holds-at-none ∙ used-map _ _ (λ kept. c.args.number == kept.number) (λ e. refl) c.args.tables.now.entries

pub returns-clause-order : goal.returns-clause-order
returns-clause-order g c =
    ap (λ e. tables_in e.entries) c.get.follows.holds-at-none ∙ used-map _ _ (λ kept. c.args.number == kept.number) (λ e. refl) c.args.tables.now.entries
