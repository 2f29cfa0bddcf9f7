use Rattle.std.proofs.Common.{refl, sym}
use Rattle.format_tests.proofs.EntryRows.{rising-push}
use Rattle.format_tests.proofs.made_tables.entries_of.Goals as goal

pub loop-index-preserved : goal.loop-index-preserved
loop-index-preserved c = rw c.in_ok-push.ensures.items (rising-push c.loop-index.entries.items _ c.loop-index.index refl c.loop-index.invariant)
