use Rattle.std.proofs.Common.{subst, ℕ, List, length, ◌<◌, ◌^◌}
use Rattle.std.proofs.lemmas.Result.{err_from_is_err_and}
use Rattle.block.proofs.BlockLaws.{same_block}
use Rattle.block.specs.Block.{IsBlock}
use Rattle.ikey.specs.Below.{IsBelowInternal}
use Rattle.ikey.specs.Entries.{Pair}
use Rattle.table.specs.Frame.{ArePlaces}
use Rattle.table.specs.declared.handle.Place.{Place}
use Rattle.table.proofs.Steps.{block_refuses, only_refuses}
use Rattle.table.proofs.index.open_places.Goals as goal

pub returns-in_err-block-clause-refused : goal.returns-in_err-block-clause-refused
returns-in_err-block-clause-refused g c =
    let p = err_from_is_err_and c.from_residual.result c.from_residual.ensures.1 in
    let bytes : List ℕ = c.args.bytes.items in
    rw (p.1, p.2) (block_refuses _ ((pairs : List Pair) → IsBlock (IsBelowInternal g.K.KeyOrder.cmp) bytes pairs → ⊥)
    ((pairs : List Pair) (places : List Place) → IsBlock (IsBelowInternal g.K.KeyOrder.cmp) bytes pairs → ArePlaces pairs places → ⊥) (2 ^ 30 < length bytes)
    (λ h pairs places b n. h pairs b) c.in_err-block.ensures.refused)

pub returns-in-Err-clause-refused : goal.returns-in-Err-clause-refused
returns-in-Err-clause-refused g c =
    let bytes : List ℕ = c.args.bytes.items in
    only_refuses c.in-Err.e ((places : List Place) → ArePlaces c.in_ok-block.block.pairs places → ⊥)
    ((pairs : List Pair) (places : List Place) → IsBlock (IsBelowInternal g.K.KeyOrder.cmp) bytes pairs → ArePlaces pairs places → ⊥) (2 ^ 30 < length bytes)
    (λ h pairs places b n.
    h places (subst (λ (t : List Pair). ArePlaces t places) (same_block (IsBelowInternal g.K.KeyOrder.cmp) bytes pairs c.in_ok-block.block.pairs b c.in_ok-block.ensures.found) n))
    c.in-Err.ensures.refused
