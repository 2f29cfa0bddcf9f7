use Rattle.std.proofs.Common.{sym, ap, bit_xor}
use Rattle.coding.proofs.Registers.{register_after-append}
use Rattle.coding.proofs.checksum.crc32c.Goals as goal

pub returns : goal.returns
returns c = rw (c.register_over.ensures, c.register_over-register.ensures) (ap (λ r. bit_xor r 0xFFFF_FFFF) (sym (register_after-append 0xFFFF_FFFF c.args.front.now c.args.back.now)))
