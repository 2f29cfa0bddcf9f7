use Rattle.std.proofs.Common.{◌≡◌, ◌++◌, ℕ, List, take}
use Rattle.std.specs.Io.KnownBytes.{Appends}
use Rattle.tool.specs.EntryLines.{entry_line_of}
use Rattle.tool.specs.Reports.{texts}
use Rattle.tool.proofs.inspect.print_entries.Given as goal

-- what is written and what waits are the lines so far
abbrev pub invariant-loop-entry : goal.invariant-loop-entry
invariant-loop-entry g l =
    (shown : List ℕ) × Appends (g.W.Write.contents l.fn.writer) (g.W.Write.contents l.writer) shown × (shown ++ l.text.items ≡ texts (entry_line_of l.notation l.origin) (take l.entry-index l.entries))
