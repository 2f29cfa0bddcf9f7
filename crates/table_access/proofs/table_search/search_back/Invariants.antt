use Rattle.table_access.specs.Tables.{seen}
use Rattle.table_access.proofs.Searching.{IsSearchingBack}
use Rattle.table_access.proofs.table_search.search_back.Given as goal

abbrev pub invariant-loop-step : goal.invariant-loop-step
invariant-loop-step g l = IsSearchingBack g.K.KeyOrder.cmp (seen (g.S.Store.facts l.initial.source.store) l.initial.source.tables l.initial.source.blocks)
    (seen (g.S.Store.facts l.source.store) l.source.tables l.source.blocks) l.placed l.table.frame l.end l.step
