use Rattle.table_access.proofs.Views.{view_of_seen}
use Rattle.table_access.proofs.memory_laws.seen_entries_have_the_view.Goals as goal

pub returns : goal.returns
returns c = λ cmp inserts sequence view h. view_of_seen cmp inserts sequence view h
