use Rattle.std.proofs.Common.{◌≡◌, ◌+◌, ◌≤◌, ◌∙◌, ap, arith, length, take, drop}
use Rattle.std.proofs.lemmas.List.{take_rest}
use Rattle.std.specs.Int.{w64, from_le_bytes}
use Rattle.block.proofs.Words.{word_is}
use Rattle.block.proofs.entry.word_at.Goals as goal

pub returns : goal.returns
returns c =
    let bytes = c.args.bytes.now in
    let start = c.args.start in
    let behind = c.in_ok-get.ensures.lookup.0 in
    let front = c.in_ok-front.ensures.cases in
    let eight : c.in_ok-front.front.now ≡ take 8 (drop start bytes) = front.0 ∙ ap (take 8) (behind.2 ∙ take_rest bytes start) in
    let fits : start + 8 ≤ length bytes = omega (arith, front.2, behind.3) in
    record { word = (fits, word_is bytes start c.from_le_bytes.result (λ i. omega (arith, c.type_inv.bytes i)) fits (c.from_le_bytes.ensures ∙ ap (from_le_bytes w64) eight)) }
