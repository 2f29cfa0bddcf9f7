use Rattle.std.proofs.Common.{sym, ◌∙◌, ap, subst, ℕ, List, Option, length, ◌<◌, ◌^◌}
use Rattle.std.proofs.lemmas.Result.{err_from_is_err_and}
use Rattle.block.proofs.BlockLaws.{same_block}
use Rattle.block.specs.Block.{IsBlock}
use Rattle.ikey.specs.Below.{IsBelowPlain}
use Rattle.ikey.specs.Entries.{Pair}
use Rattle.table.specs.Frame.{NamesFilter}
use Rattle.table.specs.Views.{pairs_of}
use Rattle.table.specs.declared.handle.Handle.{Handle}
use Rattle.table.proofs.Steps.{block_refuses}
use Rattle.table.proofs.metaindex.named_filter.Goals as goal

pub returns-in_err-open-clause-refused : goal.returns-in_err-open-clause-refused
returns-in_err-open-clause-refused c =
    let p = err_from_is_err_and c.from_residual.result c.from_residual.ensures.1 in
    let bytes : List ℕ = c.args.bytes.items in
    rw (p.1, p.2) (block_refuses _ ((pairs : List Pair) → IsBlock IsBelowPlain bytes pairs → ⊥) ((pairs : List Pair) (filter : Option Handle) → IsBlock IsBelowPlain bytes pairs → NamesFilter pairs filter → ⊥) (2 ^ 30 < length bytes)
    (λ h pairs filter b n. h pairs b) c.in_err-open.ensures.refused)

pub returns-clause-refused : goal.returns-clause-refused
returns-clause-refused c = λ pairs filter b n.
    let same = same_block IsBelowPlain c.args.bytes.items pairs c.in_ok-open.field-0.pairs b c.in_ok-open.ensures.found ∙ sym c.in_ok-pairs.ensures ∙ ap pairs_of (sym c.deref.ensures.value) in
    c.in-Err.ensures.refused filter (subst (λ (t : List Pair). NamesFilter t filter) same n)
