use Rattle.std.proofs.Common.{sym, ap, ◌∙◌, arith}
use Rattle.block.specs.Places.{Placed, last_of}
use Rattle.block.specs.Reading.{Contents}
use Rattle.table_access.proofs.Testing.{last_test}
use Rattle.table_access.proofs.ends.ends_right.Goals as goal

pub returns : goal.returns
returns g c =
    let cursor = rw c.new-cursor.ensures at c.in_ok-last.ensures.ok in
    let shared = c.in_ok-clone.ensures.cases in
    let at = c.if-index-last.false in
    let last = c.in-Some.ensures in
    last_test c.last.new.self c.key.result.now c.args.placed.now.table.largest c.args.index c.args.count c.args.block.now.value.pairs (ap (λ (p : Placed). p.pairs) cursor ∙ ap (λ (b : Contents). b.pairs) shared)
    (ap (λ (p : Placed). p.place) cursor ∙ ap (λ (b : Contents). last_of b.pairs) shared) (sym c.stands.ensures ∙ c.if-not-stands.false) c.key.ensures (omega (arith, at, last.0, last.1)) c.same_bytes.result
    (rw c.as_slice.ensures at c.same_bytes.ensures)
