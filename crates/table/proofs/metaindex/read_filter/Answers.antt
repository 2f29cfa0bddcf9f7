use Rattle.std.proofs.Common.{ℕ, List, None, Some, inl, inr}
use Rattle.std.proofs.lemmas.Result.{err_from_is_err_and}
use Rattle.filter.specs.Blocks.{IsFilterBlock}
use Rattle.table.specs.Refusals.{IsUnsupported, IsFilterUnsupported}
use Rattle.table.specs.Stored.{IsStored}
use Rattle.table.proofs.FrameParts.{NoNames, NoFilterBlock, NoFilter, NamesHere, FilterHere, no_names, no_filter_named, filter_here, no_filter_here}
use Rattle.table.proofs.Steps.{refuses_more, refuses_after, finds_more, finds_first, finds_second, finds_both}
use Rattle.table.proofs.metaindex.read_filter.Goals as goal

pub returns-in_err-handle-clause-refused : goal.returns-in_err-handle-clause-refused
returns-in_err-handle-clause-refused g c =
    let p = err_from_is_err_and c.from_residual.result c.from_residual.ensures.1 in
    let metaindex = c.args.metaindex in
    rw (p.1, p.2)
    (refuses_more _ _ _ c.args.name.now (NoNames metaindex) (NoFilter metaindex) (λ (file : List ℕ). IsUnsupported file metaindex) (λ (file : List ℕ). IsFilterUnsupported file metaindex)
    (λ file none. no_names file metaindex none) (λ file u. inl u) c.in_err-handle.ensures.refused)

pub returns-in_err-filter-clause-refused : goal.returns-in_err-filter-clause-refused
returns-in_err-filter-clause-refused g c =
    let p = err_from_is_err_and c.from_residual-in_err-filter.result c.from_residual-in_err-filter.ensures.1 in
    let metaindex = c.args.metaindex in
    let handle = c.in-Some.handle in
    rw (p.1, p.2)
    (refuses_after _ _ _ _ c.args.name.now (NamesHere metaindex (Some handle)) (NoFilterBlock handle) (NoFilter metaindex) (λ (file : List ℕ). IsUnsupported file handle) (λ (file : List ℕ). IsFilterUnsupported file metaindex)
    (λ file h none. no_filter_named file metaindex handle h none) (λ file h u. inr (handle, h.0, u)) c.in_ok-handle.ensures.stood c.in_ok-handle.ensures.reads c.in_err-filter.ensures.reads
    (rw c.in-Some.is at c.in_ok-handle.ensures.found) c.in_err-filter.ensures.refused)

pub returns-in_default-clause-found : goal.returns-in_default-clause-found
returns-in_default-clause-found g c =
    let metaindex = c.args.metaindex in
    finds_more (g.S.Store.facts c.args.store.now) (g.S.Store.facts c.read_metaindex.new.store) c.args.name.now (NamesHere metaindex None) (FilterHere metaindex None None) (λ file h. no_filter_here file metaindex h) (rw c.in_default.is at c.in_ok-handle.ensures.found)

pub returns-clause-found : goal.returns-clause-found
returns-clause-found g c =
    let metaindex = c.args.metaindex in
    let handle = c.in-Some.handle in
    let a = g.S.Store.facts c.args.store.now in
    let b = g.S.Store.facts c.read_metaindex.new.store in
    let d = g.S.Store.facts c.read_filter_block.new.store in
    let block = c.in_ok-filter.filter in
    finds_both a d c.args.name.now (NamesHere metaindex (Some handle)) (λ (file : List ℕ). IsStored file handle block × IsFilterBlock block × (IsUnsupported file handle → ⊥)) (FilterHere metaindex (Some handle) (Some block))
    (λ file h k. filter_here file metaindex handle block h k)
    (finds_first a b d c.args.name.now (NamesHere metaindex (Some handle)) c.in_ok-filter.ensures.reads (rw c.in-Some.is at c.in_ok-handle.ensures.found))
    (finds_second a b d c.args.name.now (λ (file : List ℕ). IsStored file handle block × IsFilterBlock block × (IsUnsupported file handle → ⊥)) c.in_ok-handle.ensures.reads c.in_ok-filter.ensures.reads c.in_ok-filter.ensures.found)
