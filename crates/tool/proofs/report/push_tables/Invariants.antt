use Rattle.std.proofs.Common.{◌≡◌, ◌++◌, take, string_bytes}
use Rattle.tool.specs.Reports.{texts, table_line_of}
use Rattle.tool.proofs.report.push_tables.Given as goal

-- the lines so far stand behind the text
abbrev pub invariant-loop-table : goal.invariant-loop-table
invariant-loop-table l = string_bytes l.text ≡ string_bytes l.fn.text ++ texts table_line_of (take l.table-index l.tables)
