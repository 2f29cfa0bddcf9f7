use Rattle.std.proofs.Common.{sym, ◌∙◌, arith}
use Rattle.std.proofs.lemmas.Result.{err_from_is_err_and}
use Rattle.coding.proofs.Refusals.{refuses_whole}
use Rattle.coding.specs.Spelling.{BeginsNone}
use Rattle.edits.specs.Edit.{IsLong, IsSequence}
use Rattle.edits.proofs.Spellings.{free_long}
use Rattle.edits.proofs.spelling.sequence_at.Goals as goal

pub returns-in_err-n-clause-refused : goal.returns-in_err-n-clause-refused
returns-in_err-n-clause-refused c =
    let p = err_from_is_err_and c.from_residual.result c.from_residual.ensures.1 in
    rw (p.1, p.2) (refuses_whole (BeginsNone IsLong c.args.bytes.now) (BeginsNone IsSequence c.args.bytes.now) c.in_err-n.field-0.0 (λ none value rest b. none value rest (b.0, (b.1.0, omega (arith, b.1.1)), b.2)) c.in_err-n.ensures.refused)

pub returns-then-n-ge-SEQUENCE_END-clause-refused : goal.returns-then-n-ge-SEQUENCE_END-clause-refused
returns-then-n-ge-SEQUENCE_END-clause-refused c = λ value rest b.
    let h = c.in_ok-n.ensures.found in
    let s = free_long h.0 b.0 c.in_ok-n.rest.now rest c.in_ok-n.n value h.1 (b.1.0, omega (arith, b.1.1)) (sym h.2 ∙ b.2) in
    omega (arith, s.0, b.1.1)
