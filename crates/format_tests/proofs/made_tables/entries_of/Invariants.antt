use Rattle.std.proofs.Common.{◌<◌}
use Rattle.std.specs.List.{AllByRecursion}
use Rattle.ikey.specs.declared.entry.Entry.{Entry}
use Rattle.memtable.specs.Newest.{AllDiffer}
use Rattle.format_tests.proofs.made_tables.entries_of.Given as goal

abbrev pub invariant-loop-index : goal.invariant-loop-index
invariant-loop-index l = AllDiffer l.entries.items × AllByRecursion (λ (entry : Entry). entry.sequence < l.index) l.entries.items
