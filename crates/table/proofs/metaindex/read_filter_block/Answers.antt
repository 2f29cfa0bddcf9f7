use Rattle.std.proofs.Common.{ℕ, List, subst, sym}
use Rattle.std.proofs.lemmas.Result.{err_from_is_err_and}
use Rattle.filter.specs.Blocks.{IsFilterBlock}
use Rattle.table.specs.Refusals.{IsUnsupported}
use Rattle.table.specs.Stored.{IsStored}
use Rattle.table.proofs.FrameParts.{NoFilterBlock, no_filter_block}
use Rattle.table.proofs.Steps.{refuses_damaged, refuses_more, finds_more}
use Rattle.table.proofs.StoredBlocks.{supported}
use Rattle.table.proofs.metaindex.read_filter_block.Goals as goal

pub returns-in_err-bytes-clause-refused : goal.returns-in_err-bytes-clause-refused
returns-in_err-bytes-clause-refused g c =
    let p = err_from_is_err_and c.from_residual.result c.from_residual.ensures.1 in
    let handle = c.args.handle in
    rw (p.1, p.2)
    (refuses_more _ _ _ c.args.name.now (λ (file : List ℕ). ((block : List ℕ) → IsStored file handle block → ⊥) × (IsUnsupported file handle → ⊥)) (NoFilterBlock handle)
    (λ (file : List ℕ). IsUnsupported file handle) (λ (file : List ℕ). IsUnsupported file handle) (λ file none. (λ filter h. none.0 filter h.0, none.1)) (λ file u. u) c.in_err-bytes.ensures.refused)

pub returns-in-Ok-clause-found : goal.returns-in-Ok-clause-found
returns-in-Ok-clause-found g c =
    let bytes : List ℕ = c.in_ok-bytes.bytes.items in
    let handle = c.args.handle in
    finds_more (g.S.Store.facts c.args.store.now) (g.S.Store.facts c.read_stored.new.store) c.args.name.now (λ (file : List ℕ). IsStored file handle bytes) (λ (file : List ℕ). IsStored file handle c.in-Ok.filter × IsFilterBlock c.in-Ok.filter × (IsUnsupported file handle → ⊥))
    (λ file stored. (subst (IsStored file handle) (sym c.in-Ok.ensures.found) stored, c.in-Ok.ensures.is_block, supported file bytes handle stored c.in_ok-bytes.ensures.short)) c.in_ok-bytes.ensures.found

pub returns-in-Err-clause-refused : goal.returns-in-Err-clause-refused
returns-in-Err-clause-refused g c =
    let bytes : List ℕ = c.in_ok-bytes.bytes.items in
    let handle = c.args.handle in
    rw (c.refuse_filter.ensures.same, c.refuse_filter.ensures.value)
    (refuses_damaged c.in-Err.e _ _ c.args.name.now (λ (file : List ℕ). IsStored file handle bytes) (NoFilterBlock handle) (λ (file : List ℕ). IsUnsupported file handle)
    (IsFilterBlock bytes → ⊥) (λ file stored none. (no_filter_block file bytes handle none stored, supported file bytes handle stored c.in_ok-bytes.ensures.short)) c.in_ok-bytes.ensures.stood c.in_ok-bytes.ensures.found c.in-Err.ensures.refused)
