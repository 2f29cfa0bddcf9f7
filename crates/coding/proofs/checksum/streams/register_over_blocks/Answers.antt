use Rattle.std.proofs.Common.{ℕ, ◌+◌, List, flat_map, drop, get_or, sym, ap, ◌∙◌, arith}
use Rattle.std.proofs.lemmas.List.{at_drop_more, at_drop_all, nil_from_length}
use Rattle.coding.specs.Checksum.{register_after}
use Rattle.coding.specs.Streams.{register_of}
use Rattle.coding.proofs.Registers.{register_after-append}
use Rattle.coding.proofs.checksum.streams.register_over_blocks.Goals as goal

pub returns-in_default : goal.returns-in_default
unfolding register_after
returns-in_default c =
    ap (λ (blocks : List (List ℕ)). register_after c.args.start (flat_map (λ (block : List ℕ). block) blocks)) (sym (nil_from_length c.args.blocks.now c.in_default.ensures.cases))

pub loop-block-init : goal.loop-block-init
loop-block-init c =
    let over = λ (blocks : List (List ℕ)). register_after c.args.start (flat_map (λ (block : List ℕ). block) blocks) in
    let more = flat_map (λ (block : List ℕ). block) c.in-Some.more.now in
    rw c.begun_with-streams.ensures (sym (register_after-append c.args.start c.in-Some.first.now more) ∙ sym (ap over c.in-Some.ensures.cases.0))

pub loop-block-preserved : goal.loop-block-preserved
loop-block-preserved c =
    let register = register_of c.loop-block.streams in
    let over = λ (blocks : List (List ℕ)). register_after register (flat_map (λ (block : List ℕ). block) blocks) in
    let more = c.in-Some.more.now in
    let i = c.loop-block.block-index in
    let left = flat_map (λ (block : List ℕ). block) (drop (i + 1) more) in
    rw c.advanced_by-streams.ensures (sym (register_after-append register (get_or more i _) left) ∙ sym (at_drop_more over more i _ (omega arith)) ∙ c.loop-block.invariant)

pub returns : goal.returns
unfolding register_after
returns c =
    let over = λ (blocks : List (List ℕ)). register_after (register_of c.loop-block.streams) (flat_map (λ (block : List ℕ). block) blocks) in
    c.register.ensures ∙ sym (at_drop_all over c.in-Some.more.now c.loop-block.block-index (omega arith)) ∙ c.loop-block.invariant
