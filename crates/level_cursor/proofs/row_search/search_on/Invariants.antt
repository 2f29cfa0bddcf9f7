use Rattle.table_access.specs.Tables.{seen}
use Rattle.level_cursor.proofs.Searching.{IsSearching}
use Rattle.level_cursor.proofs.row_search.search_on.Given as goal

abbrev pub invariant-loop-index : goal.invariant-loop-index
invariant-loop-index g l = IsSearching g.K.KeyOrder.cmp l.aim (seen (g.S.Store.facts l.initial.source.store) l.initial.source.tables l.initial.source.blocks) (seen (g.S.Store.facts l.source.store) l.source.tables l.source.blocks) l.row l.start l.index
