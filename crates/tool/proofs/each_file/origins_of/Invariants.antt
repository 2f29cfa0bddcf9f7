use Rattle.std.proofs.Common.{◌≡◌, ◌++◌, map, take}
use Rattle.edits.specs.declared.field.PlacedTable.{PlacedTable}
use Rattle.recover.specs.declared.overview.LogLength.{LogLength}
use Rattle.recover.specs.declared.origins.Origin.TheVariants.{Table, Log}
use Rattle.tool.proofs.each_file.origins_of.Given as goal

-- those of the tables so far
abbrev pub invariant-loop-placed : goal.invariant-loop-placed
invariant-loop-placed l = l.origins.items ≡ map (λ (placed : PlacedTable). Table placed.level placed.table.number) (take l.placed-index l.overview.layout.tables.items)

-- those of all tables, and of the logs so far
abbrev pub invariant-loop-log : goal.invariant-loop-log
invariant-loop-log l =
    l.origins.items ≡ map (λ (placed : PlacedTable). Table placed.level placed.table.number) l.overview.layout.tables.items ++ map (λ (log : LogLength). Log log.number) (take l.log-index l.overview.logs.items)
