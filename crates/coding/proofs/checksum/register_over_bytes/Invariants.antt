use Rattle.std.proofs.Common.{◌≡◌, drop}
use Rattle.coding.specs.Checksum.{register_after}
use Rattle.coding.proofs.checksum.register_over_bytes.Given as goal

-- the bytes that are left lead from here to where all of them lead
abbrev pub invariant-loop-byte : goal.invariant-loop-byte
invariant-loop-byte l = register_after l.register (drop l.byte-index l.bytes) ≡ register_after l.start l.bytes
