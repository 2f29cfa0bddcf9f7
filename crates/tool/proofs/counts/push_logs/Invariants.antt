use Rattle.std.proofs.Common.{◌≡◌, ◌++◌, take, string_bytes}
use Rattle.tool.specs.Reports.{texts}
use Rattle.tool.specs.Statistics.{log_length_line_of}
use Rattle.tool.proofs.counts.push_logs.Given as goal

-- the lines so far stand behind the text
abbrev pub invariant-loop-log : goal.invariant-loop-log
invariant-loop-log l = string_bytes l.text ≡ string_bytes l.fn.text ++ texts (log_length_line_of l.json) (take l.log-index l.logs)
