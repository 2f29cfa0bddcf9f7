use Rattle.std.proofs.Common.{◌<◌, ◌≤◌, ◌^◌, ℕ, List, length, arith}
use Rattle.std.proofs.lemmas.Result.{err_from_is_err_and}
use Rattle.block.specs.Block.{IsBlock}
use Rattle.ikey.specs.Below.{IsBelowInternal}
use Rattle.ikey.specs.Entries.{Pair}
use Rattle.table.specs.Refusals.{IsDamaged, IsUnsupported}
use Rattle.table.specs.Stored.{IsStored}
use Rattle.table.proofs.DataBlocks.{no_data}
use Rattle.table.proofs.Steps.{refuses_block, refuses_more}
use Rattle.table.proofs.StoredBlocks.{supported}
use Rattle.table.proofs.data.read_data.Goals as goal

pub returns-in_err-bytes-clause-refused : goal.returns-in_err-bytes-clause-refused
returns-in_err-bytes-clause-refused g c =
    let p = err_from_is_err_and c.from_residual.result c.from_residual.ensures.1 in
    let handle = c.args.handle in
    rw (p.1, p.2)
    (refuses_more _ _ _ c.args.name.now (λ (file : List ℕ). ((block : List ℕ) → IsStored file handle block → ⊥) × (IsUnsupported file handle → ⊥)) (λ (file : List ℕ). IsDamaged g.K.KeyOrder.cmp file handle)
    (λ (file : List ℕ). IsUnsupported file handle) (λ (file : List ℕ). IsUnsupported file handle) (λ file none. (λ pairs h. none.0 h.0 h.1, none.1)) (λ file u. u) c.in_err-bytes.ensures.refused)

pub returns-in-Err-clause-refused : goal.returns-in-Err-clause-refused
returns-in-Err-clause-refused g c =
    let bytes : List ℕ = c.in_ok-bytes.bytes.items in
    let short : length bytes ≤ 2 ^ 30 = c.in_ok-bytes.ensures.short in
    let handle = c.args.handle in
    rw (c.refuse_block.ensures.same, c.refuse_block.ensures.value)
    (refuses_block c.in-Err.e _ _ c.args.name.now (λ (file : List ℕ). IsStored file handle bytes) (λ (file : List ℕ). IsDamaged g.K.KeyOrder.cmp file handle) (λ (file : List ℕ). IsUnsupported file handle)
    ((pairs : List Pair) → IsBlock (IsBelowInternal g.K.KeyOrder.cmp) bytes pairs → ⊥) (2 ^ 30 < length bytes)
    (λ file stored none. (no_data g.K.KeyOrder.cmp file bytes handle none stored, supported file bytes handle stored short)) (λ file stored long. absurd (omega (arith, short, long)))
    c.in_ok-bytes.ensures.stood c.in_ok-bytes.ensures.found c.in-Err.ensures.refused)
