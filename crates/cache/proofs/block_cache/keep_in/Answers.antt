use Rattle.std.proofs.Common.{◌==◌, ◌&&◌, ◌∙◌, Bool, refl, ap}
use Rattle.cache.specs.Blocks.{IsOf, is_at, kept_block}
use Rattle.cache.proofs.Used.{block_is, put-map}
use Rattle.cache.specs.declared.slot.Slot.{Slot}
use Rattle.cache.proofs.Keeping.{within_or, put_or, put_is}
use Rattle.cache.proofs.block_cache.keep_in.Goals as goal

same : Slot → Slot → Bool
same a b = (a.file == b.file) && (a.index == b.index)

pub returns-clause-kept : goal.returns-clause-kept
unfolding same
returns-clause-kept g c =
    let slot : Slot = record { file = c.args.file; index = c.args.index } in
    within_or _ c.push-pushed.new.self.entries c.args.blocks.now.entries _ (λ k. IsOf k c.args.file c.args.index c.args.block.now.value.pairs)
    (put_or same c.args.blocks.now c.push-pushed.new.self slot _ c.push-pushed.result c.push-pushed.ensures.entries c.push-pushed.ensures.err)
    (λ e put.
    let is = put_is (λ k. k.file) (λ k. k.index) (λ v. v.value.pairs) c.args.file c.args.index same c.args.blocks.now slot _ (λ j. refl) refl refl e put in
    (is.0, is.1, is.2 ∙ ap (λ b. b.pairs) c.in-Ok.ensures.cases))

pub returns-clause-order : goal.returns-clause-order
unfolding same
returns-clause-order g c =
    let slot : Slot = record { file = c.args.file; index = c.args.index } in
    put-map _ (same slot) (λ kept. is_at kept c.args.file c.args.index) (λ e. refl) same c.args.blocks.now slot _
    (kept_block c.args.file c.args.index c.args.block.now.value.pairs) (λ j. refl)
    (λ e put.
    let is = put_is (λ k. k.file) (λ k. k.index) (λ v. v.value.pairs) c.args.file c.args.index same c.args.blocks.now slot _ (λ j. refl) refl refl e put in
    block_is _ c.args.file c.args.index c.args.block.now.value.pairs (is.0, is.1, is.2 ∙ ap (λ b. b.pairs) c.in-Ok.ensures.cases))
    c.push-pushed.new.self c.push-pushed.result c.push-pushed.ensures.entries c.push-pushed.ensures.err
