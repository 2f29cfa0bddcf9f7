use Rattle.std.proofs.Common.{◌++◌, List, ℕ, ap, ◌∙◌, string_bytes}
use Rattle.tool.specs.Statistics.{log_length_line_of}
use Rattle.tool.proofs.Texts.{push_line}
use Rattle.tool.proofs.counts.push_logs.Goals as goal

pub loop-log-preserved : goal.loop-log-preserved
loop-log-preserved c =
    push_line (log_length_line_of c.args.json) c.args.logs.now c.loop-log.log-index _ (string_bytes c.args.text.now) (string_bytes c.loop-log.text) (string_bytes c.push_str.new.self) (string_bytes c.in_ok-log_line.field-0)
    c.loop-log-test.true c.loop-log.invariant c.in_ok-log_line.ensures (c.in_ok-push_str.ensures.bytes ∙ ap (λ (t : List ℕ). string_bytes c.loop-log.text ++ t) c.as_str.ensures.value)
