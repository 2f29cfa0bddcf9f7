use Rattle.std.proofs.Common.{◌^◌, ◌<◌, List, length, option_copied, subst}
use Rattle.std.proofs.lemmas.Result.{err_from_is_err_and}
use Rattle.ikey.specs.Entries.{Pair}
use Rattle.block.specs.Block.{IsBlock}
use Rattle.block.specs.Bounds.{AreBetween}
use Rattle.block.proofs.Between.{refuses_more}
use Rattle.block.proofs.BlockLaws.{same_block}
use Rattle.block.proofs.sorted_block.Block.open_between.Goals as goal

pub returns-in_err-block-clause-refused : goal.returns-in_err-block-clause-refused
returns-in_err-block-clause-refused g c =
    let below = g.O.EntryOrder.below in
    let bytes = c.args.bytes.items in
    let p = err_from_is_err_and c.from_residual.result c.from_residual.ensures.1 in
    rw (p.1, p.2) (refuses_more ((pairs : List Pair) → IsBlock below bytes pairs → ⊥)
    ((pairs : List Pair) → IsBlock below bytes pairs → AreBetween below (option_copied c.args.bounds.floor) c.args.bounds.most.now pairs → ⊥) (2 ^ 30 < length bytes) c.in_err-block.field-0.0
    (λ none pairs is between. none pairs is) c.in_err-block.ensures.refused)

pub returns-then-not-lies_between-clause-refused : goal.returns-then-not-lies_between-clause-refused
returns-then-not-lies_between-clause-refused g c pairs is between =
    let below = g.O.EntryOrder.below in
    c.if-not-lies_between.ensures (subst (λ (ps : List Pair). AreBetween below (option_copied c.args.bounds.floor) c.args.bounds.most.now ps)
    (same_block below c.args.bytes.items pairs c.in_ok-block.block.pairs is c.in_ok-block.ensures.found) between)
