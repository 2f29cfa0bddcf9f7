use Rattle.std.proofs.Common.{◌^◌, ◌<◌, List, length, arith}
use Rattle.std.proofs.lemmas.Result.{err_from_is_err_and}
use Rattle.ikey.specs.Entries.{Pair}
use Rattle.block.specs.Block.{IsBlock}
use Rattle.block.proofs.Opening.{NoEntries, entries_to, last_of_block, open_block, block_of, no_block, no_parts, refuses_block}
use Rattle.block.proofs.sorted_block.Block.open_with_last.Goals as goal

pub returns-in_default-clause-refused : goal.returns-in_default-clause-refused
returns-in_default-clause-refused g c = no_parts g.O.EntryOrder.below c.args.bytes.items (rw c.deref.ensures.value at c.in_default.ensures.none)

pub returns-in_err-last-clause-refused : goal.returns-in_err-last-clause-refused
returns-in_err-last-clause-refused g c =
    let below = g.O.EntryOrder.below in
    let bytes = c.args.bytes.items in
    let fits : length bytes < 2 ^ 32 = omega (arith, c.if-len-gt-MAX_BLOCK_LENGTH.false, c.len.ensures) in
    let p = err_from_is_err_and c.from_residual.result c.from_residual.ensures.1 in
    rw (p.1, p.2) (refuses_block (NoEntries below c.in-Some.restarts.now c.in-Some.body.now) ((pairs : List Pair) → IsBlock below bytes pairs → ⊥) (2 ^ 30 < length bytes) c.in_err-last.field-0.0
    (no_block below bytes c.in-Some.body.now c.in-Some.restarts.now fits (rw c.deref.ensures.value at c.in-Some.ensures.found)) c.in_err-last.ensures.refused)

pub invariant_of-block : goal.invariant_of-block
invariant_of-block g c =
    let below = g.O.EntryOrder.below in
    let bytes = c.args.bytes.items in
    let fits : length bytes < 2 ^ 32 = omega (arith, c.if-len-gt-MAX_BLOCK_LENGTH.false, c.len.ensures) in
    open_block below bytes c.in-Some.body.now c.in-Some.restarts.now fits (rw c.deref.ensures.value at c.in-Some.ensures.found)
    (entries_to below c.in-Some.restarts.now c.in-Some.body.now c.in_ok-last.last.items c.in_ok-last.ensures.found)

pub returns-clause-found : goal.returns-clause-found
returns-clause-found g c =
    let below = g.O.EntryOrder.below in
    let bytes = c.args.bytes.items in
    let fits : length bytes < 2 ^ 32 = omega (arith, c.if-len-gt-MAX_BLOCK_LENGTH.false, c.len.ensures) in
    block_of below bytes (length c.in-Some.body.now)
    (open_block below bytes c.in-Some.body.now c.in-Some.restarts.now fits (rw c.deref.ensures.value at c.in-Some.ensures.found)
    (entries_to below c.in-Some.restarts.now c.in-Some.body.now c.in_ok-last.last.items c.in_ok-last.ensures.found))

pub returns-clause-last : goal.returns-clause-last
returns-clause-last g c =
    last_of_block g.O.EntryOrder.below c.args.bytes.items c.in-Some.body.now c.in-Some.restarts.now c.in_ok-last.last.items (rw c.deref.ensures.value at c.in-Some.ensures.found) c.in_ok-last.ensures.found
