use Rattle.std.proofs.Common.{sym, ◌∙◌, inl, inr}
use Rattle.std.specs.Option.{option_copied}
use Rattle.ikey.specs.KeyViews.{key_of}
use Rattle.cursor.specs.Searches.{below_bound}
use Rattle.cursor.proofs.Looking.{looks_end, looks_skip, looks_clear, looks_replace}
use Rattle.cursor.proofs.scanning.look_back.Goals as goal

pub returns-then-is_other-clause-looks : goal.returns-then-is_other-clause-looks
returns-then-is_other-clause-looks g c =
    let other = rw c.as_slice.ensures.value at c.if-is_other.ensures in
    looks_end c.args.bytes.now (key_of c.in_ok-key.key) c.in_ok-key.ensures.key c.args.sequence c.args.value.now (below_bound g.K.KeyOrder.cmp (option_copied c.args.bound)) c.args.has.now c.args.found.now.key.items c.args.found.now.value.items other.0 other.1

pub returns-then-key-sequence-clause-looks : goal.returns-then-key-sequence-clause-looks
returns-then-key-sequence-clause-looks g c =
    looks_skip c.args.bytes.now (key_of c.in_ok-key.key) c.in_ok-key.ensures.key c.args.sequence c.args.value.now (below_bound g.K.KeyOrder.cmp (option_copied c.args.bound)) c.args.has.now c.args.found.now.key.items c.args.found.now.value.items
    (λ t. c.if-is_other.ensures t ∙ c.as_slice.ensures.value) (inl c.if-key-sequence.true)

pub returns-then-not-is_below-clause-looks : goal.returns-then-not-is_below-clause-looks
returns-then-not-is_below-clause-looks g c =
    looks_skip c.args.bytes.now (key_of c.in_ok-key.key) c.in_ok-key.ensures.key c.args.sequence c.args.value.now (below_bound g.K.KeyOrder.cmp (option_copied c.args.bound)) c.args.has.now c.args.found.now.key.items c.args.found.now.value.items
    (λ t. c.if-is_other.ensures t ∙ c.as_slice.ensures.value) (inr (sym c.is_below.ensures ∙ c.if-not-is_below.true))

pub returns-in-Delete-clause-looks : goal.returns-in-Delete-clause-looks
returns-in-Delete-clause-looks g c =
    looks_clear c.args.bytes.now (key_of c.in_ok-key.key) c.in_ok-key.ensures.key c.args.sequence c.args.value.now (below_bound g.K.KeyOrder.cmp (option_copied c.args.bound)) c.args.has.now c.args.found.now.key.items c.args.found.now.value.items
    (λ t. c.if-is_other.ensures t ∙ c.as_slice.ensures.value) c.if-key-sequence.false (sym c.is_below.ensures ∙ c.if-not-is_below.false) c.in-Delete.is c.args.found.now.key.items c.args.found.now.value.items

pub returns-in_ok-copy_to-in-Put-2-clause-looks : goal.returns-in_ok-copy_to-in-Put-2-clause-looks
returns-in_ok-copy_to-in-Put-2-clause-looks g c =
    looks_replace c.args.bytes.now (key_of c.in_ok-key.key) c.in_ok-key.ensures.key c.args.sequence c.args.value.now (below_bound g.K.KeyOrder.cmp (option_copied c.args.bound)) c.args.has.now c.args.found.now.key.items c.args.found.now.value.items
    (λ t. c.if-is_other.ensures t ∙ c.as_slice.ensures.value) c.if-key-sequence.false (sym c.is_below.ensures ∙ c.if-not-is_below.false) c.in-Put.is c.copy_to.new.buffer.items c.copy_to-in-Put.new.buffer.items
    c.in_ok-copy_to-in-Put.ensures.ok c.in_ok-copy_to-in-Put-2.ensures.ok
