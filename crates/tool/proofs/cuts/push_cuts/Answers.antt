use Rattle.std.proofs.Common.{◌++◌, List, ℕ, ap, ◌∙◌, string_bytes}
use Rattle.tool.specs.Mends.{cut_line_of}
use Rattle.tool.proofs.Texts.{push_line}
use Rattle.tool.proofs.cuts.push_cuts.Goals as goal

pub loop-cut-preserved : goal.loop-cut-preserved
loop-cut-preserved c =
    push_line cut_line_of c.args.cuts.now c.loop-cut.cut-index c.cut-item.result (string_bytes c.args.text.now) (string_bytes c.loop-cut.text) (string_bytes c.push_str.new.self) (string_bytes c.in_ok-cut_line.field-0)
    c.loop-cut-test.true c.loop-cut.invariant (c.in_ok-cut_line.ensures ∙ ap cut_line_of c.cut-item.is) (c.in_ok-push_str.ensures.bytes ∙ ap (λ (t : List ℕ). string_bytes c.loop-cut.text ++ t) c.as_str.ensures.value)
