use Rattle.std.proofs.Common.{◌++◌, List, ℕ, ap, ◌∙◌, string_bytes}
use Rattle.tool.specs.Statistics.{level_line_of}
use Rattle.tool.proofs.Texts.{push_line}
use Rattle.tool.proofs.counts.push_levels.Goals as goal

pub loop-level-preserved : goal.loop-level-preserved
loop-level-preserved c =
    push_line (level_line_of c.args.json) c.args.uses.now c.loop-level.level-index _ (string_bytes c.args.text.now) (string_bytes c.loop-level.text) (string_bytes c.push_str.new.self) (string_bytes c.in_ok-level_line.field-0)
    c.loop-level-test.true c.loop-level.invariant c.in_ok-level_line.ensures (c.in_ok-push_str.ensures.bytes ∙ ap (λ (t : List ℕ). string_bytes c.loop-level.text ++ t) c.as_str.ensures.value)
