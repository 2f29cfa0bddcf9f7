use Rattle.std.proofs.Common.{◌-◌}
use Rattle.ikey.specs.Orders.{order_of}
use Rattle.table_access.specs.Tables.{seen}
use Rattle.version_get.proofs.Turns.{IsTurned}
use Rattle.version_get.proofs.get.value_in_tables.Given as goal

-- the tables at the places so far have been searched
abbrev pub invariant-loop-from : goal.invariant-loop-from
invariant-loop-from g l = IsTurned (order_of g.K.KeyOrder.name g.K.KeyOrder.cmp) (seen (g.S.Store.facts l.initial.source.store) l.initial.source.tables l.initial.source.blocks)
    (seen (g.S.Store.facts l.source.store) l.source.tables l.source.blocks) l.version.tables l.key l.sequence l.target.items l.from

abbrev pub decreases-loop-from : goal.decreases-loop-from
decreases-loop-from g l = l.end - l.from
