use Rattle.std.proofs.Common.{Contains, Some, refl, sym, ap, subst, ◌∙◌}
use Rattle.std.specs.Option.{option_copied}
use Rattle.lru.proofs.CallerLemmas.{Contains-promoted}
use Rattle.std.proofs.lemmas.Result.{err_from_is_err_and}
use Rattle.cache.specs.Blocks.{is_at}
use Rattle.cache.specs.Shared.{blocks_in}
use Rattle.cache.proofs.Used.{used-map}
use Rattle.cache.proofs.Keeping.{within, kept_none, kept_some, kept_is}
use Rattle.cache.proofs.block_cache.find_in.Goals as goal

pub returns-in_default-clause-found : goal.returns-in_default-clause-found
returns-in_default-clause-found g c =
    kept_none (λ k. k.file) (λ k. k.index) (λ v. v.value.pairs) _ c.args.file c.args.index (λ k. refl) c.args.blocks.now.entries
    (sym c.get.ensures.value ∙ ap option_copied c.in_default.is)

pub returns-in_default-clause-kept : goal.returns-in_default-clause-kept
returns-in_default-clause-kept g c =
    let order = ap (λ e. e.entries) c.get.follows.holds-at-none in
    within _ c.get.follows.lender-at-none.entries c.args.blocks.now.entries (λ x there. Contains-promoted _ c.args.blocks.now.entries x (subst (λ es. Contains es x) order there))

pub returns-in_err-block-clause-refused : goal.returns-in_err-block-clause-refused
returns-in_err-block-clause-refused g c =
    let there = kept_is (λ k. k.file) (λ k. k.index) (λ v. v.value.pairs) _ c.args.file c.args.index (λ k. refl) c.args.blocks.now.entries
    c.in-Some.shared.now (sym c.get.ensures.value ∙ ap option_copied c.in-Some.is) in
    let p = err_from_is_err_and c.from_residual.result c.from_residual.ensures.1 in rw p.1 there

pub returns-in_err-block-clause-kept : goal.returns-in_err-block-clause-kept
returns-in_err-block-clause-kept g c =
    let order = ap (λ e. e.entries) c.get.follows.holds-at-none in
    within _ c.get.follows.lender-at-none.entries c.args.blocks.now.entries (λ x there. Contains-promoted _ c.args.blocks.now.entries x (subst (λ es. Contains es x) order there))

pub returns-clause-found : goal.returns-clause-found
returns-clause-found g c =
    kept_some (λ k. k.file) (λ k. k.index) (λ v. v.value.pairs) _ c.args.file c.args.index (λ k. refl) c.args.blocks.now.entries
    c.in-Some.shared.now (sym c.get.ensures.value ∙ ap option_copied c.in-Some.is)
    ∙ ap (λ b. Some b.pairs) (sym c.in_ok-block.ensures.cases)

pub returns-clause-kept : goal.returns-clause-kept
returns-clause-kept g c =
    let order = ap (λ e. e.entries) c.get.follows.holds-at-none in
    within _ c.get.follows.lender-at-none.entries c.args.blocks.now.entries (λ x there. Contains-promoted _ c.args.blocks.now.entries x (subst (λ es. Contains es x) order there))

pub returns-in_default-clause-order : goal.returns-in_default-clause-order
returns-in_default-clause-order g c =
    ap (λ e. blocks_in e.entries) c.get.follows.holds-at-none
    ∙ used-map _ _ (λ kept. is_at kept c.args.file c.args.index) (λ e. refl) c.args.blocks.now.entries

pub returns-in_err-block-clause-order : goal.returns-in_err-block-clause-order
returns-in_err-block-clause-order g c =
    ap (λ e. blocks_in e.entries) c.get.follows.holds-at-none
    ∙ used-map _ _ (λ kept. is_at kept c.args.file c.args.index) (λ e. refl) c.args.blocks.now.entries

pub returns-clause-order : goal.returns-clause-order
returns-clause-order g c =
    ap (λ e. blocks_in e.entries) c.get.follows.holds-at-none
    ∙ used-map _ _ (λ kept. is_at kept c.args.file c.args.index) (λ e. refl) c.args.blocks.now.entries
