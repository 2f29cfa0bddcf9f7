use Rattle.std.proofs.Common.{sym, ◌∙◌, arith}
use Rattle.std.proofs.lemmas.List.{at_drop_more, at_drop_all}
use Rattle.coding.specs.Checksum.{register_after}
use Rattle.coding.proofs.checksum.register_over_bytes.Goals as goal

pub loop-byte-preserved : goal.loop-byte-preserved
unfolding register_after
loop-byte-preserved c =
    rw c.register_over_byte-register.ensures (sym (at_drop_more (register_after c.loop-byte.register) c.args.bytes.now c.loop-byte.byte-index 0 (omega arith)) ∙ c.loop-byte.invariant)

pub returns : goal.returns
unfolding register_after
returns c = sym (at_drop_all (register_after c.loop-byte.register) c.args.bytes.now c.loop-byte.byte-index (omega arith)) ∙ c.loop-byte.invariant
