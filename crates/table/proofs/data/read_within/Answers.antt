use Rattle.std.proofs.Common.{rules, ◌≡◌, ◌<◌, ◌≤◌, ◌^◌, ℕ, List, Option, length, option_copied, arith, sym, subst}
use Rattle.block.specs.Block.{IsBlock}
use Rattle.block.specs.Bounds.{AreBetween}
use Rattle.ikey.specs.Below.{IsBelowInternal}
use Rattle.ikey.specs.Entries.{Pair}
use Rattle.table.specs.Intact.{AreWithin}
use Rattle.table.specs.Refusals.{IsUnsupported}
use Rattle.table.specs.Stored.{IsStored}
use Rattle.table.specs.Table.{HasBlock}
use Rattle.table.proofs.Steps.{refuses_block, same_file}
use Rattle.table.proofs.StoredBlocks.{supported}
use Rattle.table.proofs.Within.{block_within, none_begins, none_between}
use Rattle.table.proofs.data.read_within.Goals as goal

pub returns-in-Err-clause-refused : goal.returns-in-Err-clause-refused
returns-in-Err-clause-refused g c =
    let cmp = g.K.KeyOrder.cmp in
    let below = IsBelowInternal cmp in
    let floor : Option (List ℕ) = option_copied c.args.floor in
    let most : List ℕ = c.args.place.now.key in
    let key : c.as_slice.result.now ≡ most = search rules in
    let bytes : List ℕ = c.in_ok-bytes.bytes.items in
    let short : length bytes ≤ 2 ^ 30 = c.in_ok-bytes.ensures.short in
    let handle = c.args.place.now.handle in
    rw (c.refuse_block.ensures.same, c.refuse_block.ensures.value)
    (refuses_block c.in-Err.e _ _ c.args.name.now (λ (file : List ℕ). IsStored file handle bytes)
    (λ (file : List ℕ). ((pairs : List Pair) → HasBlock cmp file handle pairs → AreWithin cmp floor most pairs → ⊥) × (IsUnsupported file handle → ⊥)) (λ (file : List ℕ). IsUnsupported file handle)
    ((pairs : List Pair) → IsBlock below bytes pairs → AreBetween below floor c.as_slice.result.now pairs → ⊥) (2 ^ 30 < length bytes)
    (λ file stored none. (
      none_between cmp floor most bytes handle file (λ pairs is between. none pairs is (subst (λ (m : List ℕ). AreBetween below floor m pairs) (sym key) between)) stored,
      supported file bytes handle stored short,
    )) (λ file stored long. absurd (omega (arith, short, long)))
    c.in_ok-bytes.ensures.stood c.in_ok-bytes.ensures.found c.in-Err.ensures.refused)

pub returns-then-not-begins_with_key-clause-refused : goal.returns-then-not-begins_with_key-clause-refused
returns-then-not-begins_with_key-clause-refused g c = rw c.note_parts.ensures.same (λ t file there.
    let cmp = g.K.KeyOrder.cmp in
    let floor : Option (List ℕ) = option_copied c.args.floor in
    let most : List ℕ = c.args.place.now.key in
    let bytes : List ℕ = c.in_ok-bytes.bytes.items in
    let handle = c.args.place.now.handle in
    let found = c.in_ok-bytes.ensures.found t in
    let same : found.0 ≡ file = same_file (g.S.Store.facts c.args.store.now) c.args.name.now found.0 file found.1 there in
    let stored = subst (λ (f : List ℕ). IsStored f handle bytes) same found.2 in (
      none_begins cmp floor most handle file c.in-Ok.block.pairs c.if-not-begins_with_key.ensures (bytes, stored, c.in-Ok.ensures.found),
      supported file bytes handle stored c.in_ok-bytes.ensures.short,
    ))

pub returns-clause-within : goal.returns-clause-within
returns-clause-within g c =
    let cmp = g.K.KeyOrder.cmp in
    let floor : Option (List ℕ) = option_copied c.args.floor in
    let key : c.as_slice.result.now ≡ c.args.place.now.key = search rules in
    subst (λ (m : List ℕ). AreWithin cmp floor m c.in-Ok.block.pairs) key
    (block_within cmp floor c.as_slice.result.now c.in_ok-bytes.bytes.items c.in-Ok.block.pairs c.in-Ok.ensures.found c.if-not-begins_with_key.ensures c.in-Ok.ensures.between)
