use Rattle.std.proofs.Common.{List, ℕ, ◌*◌, ◌/◌, length, ap, ◌∙◌, sym, flat_map, drop}
use Rattle.std.specs.Simd.{first_chunks}
use Rattle.coding.specs.Checksum.{register_after}
use Rattle.coding.proofs.Registers.{register_after-append}
use Rattle.coding.proofs.Blocks.{chunks_joined}
use Rattle.coding.proofs.checksum.register_over.Goals as goal

pub returns : goal.returns
returns c =
    let start = c.args.start in
    let bytes = c.args.bytes.now in
    let count = length bytes / 16 in
    let blocks = flat_map (λ (block : List ℕ). block) (first_chunks 16 count bytes) in
    rw (c.register_over_bytes.ensures, c.register_over_blocks.ensures, c.as_chunks.ensures.front, c.as_chunks.ensures.back)
    (sym (register_after-append start blocks (drop (count * 16) bytes)) ∙ ap (register_after start) (chunks_joined 16 count bytes))
