use Rattle.std.proofs.Common.{◌≡◌, ◌++◌, take, string_bytes}
use Rattle.tool.specs.Reports.{texts}
use Rattle.tool.specs.Statistics.{level_line_of}
use Rattle.tool.proofs.counts.push_levels.Given as goal

-- the lines so far stand behind the text
abbrev pub invariant-loop-level : goal.invariant-loop-level
invariant-loop-level l = string_bytes l.text ≡ string_bytes l.fn.text ++ texts (level_line_of l.json) (take l.level-index l.uses)
