use Rattle.std.proofs.Common.{ℕ, List, ap, ◌∙◌, get_or, arith}
use Rattle.coding.proofs.Words.{by_tables_32}
use Rattle.coding.proofs.checksum.streams.shifted_by_32.Goals as goal

pub returns : goal.returns
returns c =
    let byte = λ (k : ℕ). ap (λ (bytes : List ℕ). get_or bytes k 0) c.to_le_bytes.ensures in
    by_tables_32 c.args.register c.from.result c.from-2.result c.from-3.result c.from-4.result (omega arith)
    (c.from.ensures ∙ byte 0 ∙ omega arith) (c.from-2.ensures ∙ byte 1 ∙ omega arith) (c.from-3.ensures ∙ byte 2 ∙ omega arith) (c.from-4.ensures ∙ byte 3 ∙ omega arith)
