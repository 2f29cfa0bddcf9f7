use Rattle.std.proofs.Common.{◌<◌, ◌≤◌, ◌^◌, ℕ, List, Option, length, arith}
use Rattle.std.proofs.lemmas.Result.{err_from_is_err_and}
use Rattle.block.specs.Block.{IsBlock}
use Rattle.ikey.specs.Below.{IsBelowPlain}
use Rattle.ikey.specs.Entries.{Pair}
use Rattle.table.specs.Frame.{NamesFilter}
use Rattle.table.specs.Refusals.{IsUnsupported}
use Rattle.table.specs.Stored.{IsStored}
use Rattle.table.specs.declared.handle.Handle.{Handle}
use Rattle.table.proofs.FrameParts.{NoNames, NamesHere, no_metaindex}
use Rattle.table.proofs.Steps.{refuses_block, refuses_more, finds_more}
use Rattle.table.proofs.StoredBlocks.{supported}
use Rattle.table.proofs.metaindex.read_metaindex.Goals as goal

pub returns-in_err-bytes-clause-refused : goal.returns-in_err-bytes-clause-refused
returns-in_err-bytes-clause-refused g c =
    let p = err_from_is_err_and c.from_residual.result c.from_residual.ensures.1 in
    let metaindex = c.args.metaindex in
    rw (p.1, p.2)
    (refuses_more _ _ _ c.args.name.now (λ (file : List ℕ). ((block : List ℕ) → IsStored file metaindex block → ⊥) × (IsUnsupported file metaindex → ⊥)) (NoNames metaindex)
    (λ (file : List ℕ). IsUnsupported file metaindex) (λ (file : List ℕ). IsUnsupported file metaindex) (λ file none. (λ filter h. none.0 h.0 h.2, none.1)) (λ file u. u) c.in_err-bytes.ensures.refused)

pub returns-in-Ok-clause-found : goal.returns-in-Ok-clause-found
returns-in-Ok-clause-found g c =
    let bytes : List ℕ = c.in_ok-bytes.bytes.items in
    let metaindex = c.args.metaindex in
    let h = c.in-Ok.ensures.found in
    finds_more (g.S.Store.facts c.args.store.now) (g.S.Store.facts c.read_stored.new.store) c.args.name.now (λ (file : List ℕ). IsStored file metaindex bytes) (NamesHere metaindex c.in-Ok.filter)
    (λ file stored. ((bytes, h.0, stored, h.1, h.2), supported file bytes metaindex stored c.in_ok-bytes.ensures.short)) c.in_ok-bytes.ensures.found

pub returns-in-Err-clause-refused : goal.returns-in-Err-clause-refused
returns-in-Err-clause-refused g c =
    let bytes : List ℕ = c.in_ok-bytes.bytes.items in
    let short : length bytes ≤ 2 ^ 30 = c.in_ok-bytes.ensures.short in
    let metaindex = c.args.metaindex in
    rw (c.refuse_block.ensures.same, c.refuse_block.ensures.value)
    (refuses_block c.in-Err.e _ _ c.args.name.now (λ (file : List ℕ). IsStored file metaindex bytes) (NoNames metaindex) (λ (file : List ℕ). IsUnsupported file metaindex)
    ((pairs : List Pair) (filter : Option Handle) → IsBlock IsBelowPlain bytes pairs → NamesFilter pairs filter → ⊥) (2 ^ 30 < length bytes)
    (λ file stored none. (no_metaindex file bytes metaindex none stored, supported file bytes metaindex stored short)) (λ file stored long. absurd (omega (arith, short, long)))
    c.in_ok-bytes.ensures.stood c.in_ok-bytes.ensures.found c.in-Err.ensures.refused)
