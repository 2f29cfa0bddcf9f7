use Rattle.table_access.specs.TablePlaces.{Passed}
use Rattle.table_access.specs.Tables.{seen}
use Rattle.table_access.proofs.Coming.{IsComing}
use Rattle.table_access.proofs.table_search.search_on.Given as goal

abbrev pub invariant-loop-index : goal.invariant-loop-index
invariant-loop-index g l = IsComing g.K.KeyOrder.cmp (Passed g.K.KeyOrder.cmp l.aim) (seen (g.S.Store.facts l.initial.source.store) l.initial.source.tables l.initial.source.blocks)
    (seen (g.S.Store.facts l.source.store) l.source.tables l.source.blocks) l.placed l.table.frame l.start l.index
