use Rattle.std.proofs.Common.{◌++◌, ◌+◌, List, ℕ, ap, sym, ◌∙◌, take}
use Rattle.tool.specs.EntryLines.{entry_line_of}
use Rattle.tool.specs.Reports.{texts}
use Rattle.tool.proofs.Texts.{texts-more, shows_more}
use Rattle.tool.proofs.inspect.print_entries.Goals as goal

pub loop-entry-preserved : goal.loop-entry-preserved
loop-entry-preserved g c =
    let line = entry_line_of c.args.notation c.args.origin in
    let entry = c.entry-item.result in
    let so_far = texts line (take c.loop-entry.entry-index c.args.entries.now) in
    shows_more (g.W.Write.contents c.args.writer.now) (g.W.Write.contents c.loop-entry.writer) (g.W.Write.contents c.print_entry.new.writer) c.loop-entry.text.items c.print_entry.new.text.items (line entry) so_far
    (texts line (take (c.loop-entry.entry-index + 1) c.args.entries.now)) c.loop-entry.invariant c.in_ok-print_entry.ensures
    (ap (λ e. so_far ++ line e) c.entry-item.is ∙ sym (texts-more line c.args.entries.now c.loop-entry.entry-index entry c.loop-entry-test.true))
