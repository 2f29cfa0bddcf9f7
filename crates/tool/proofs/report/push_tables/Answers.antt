use Rattle.std.proofs.Common.{◌++◌, List, ℕ, ap, ◌∙◌, string_bytes}
use Rattle.tool.specs.Reports.{table_line_of}
use Rattle.tool.proofs.Texts.{push_line}
use Rattle.tool.proofs.report.push_tables.Goals as goal

pub loop-table-preserved : goal.loop-table-preserved
loop-table-preserved c =
    push_line table_line_of c.args.tables.now c.loop-table.table-index _ (string_bytes c.args.text.now) (string_bytes c.loop-table.text) (string_bytes c.push_str.new.self) (string_bytes c.in_ok-table_line.field-0)
    c.loop-table-test.true c.loop-table.invariant c.in_ok-table_line.ensures (c.in_ok-push_str.ensures.bytes ∙ ap (λ (t : List ℕ). string_bytes c.loop-table.text ++ t) c.as_str.ensures.value)
