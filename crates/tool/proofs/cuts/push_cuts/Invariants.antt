use Rattle.std.proofs.Common.{◌≡◌, ◌++◌, take, string_bytes}
use Rattle.tool.specs.Mends.{cut_line_of}
use Rattle.tool.specs.Reports.{texts}
use Rattle.tool.proofs.cuts.push_cuts.Given as goal

-- the lines so far stand behind the text
abbrev pub invariant-loop-cut : goal.invariant-loop-cut
invariant-loop-cut l = string_bytes l.text ≡ string_bytes l.fn.text ++ texts cut_line_of (take l.cut-index l.cuts)
