use Rattle.std.proofs.Common.{◌≡◌, ◌++◌, map, take}
use Rattle.recover.specs.declared.report.TableSummary.{TableSummary}
use Rattle.recover.specs.declared.report.LogSummary.{LogSummary}
use Rattle.recover.specs.declared.origins.Origin.TheVariants.{Table, Log}
use Rattle.tool.proofs.inspect.origins_of.Given as goal

-- those of the tables so far
abbrev pub invariant-loop-table : goal.invariant-loop-table
invariant-loop-table l = l.origins.items ≡ map (λ (table : TableSummary). Table table.level table.number) (take l.table-index l.summary.tables.items)

-- those of all tables, and of the logs so far
abbrev pub invariant-loop-log : goal.invariant-loop-log
invariant-loop-log l =
    l.origins.items ≡ map (λ (table : TableSummary). Table table.level table.number) l.summary.tables.items ++ map (λ (log : LogSummary). Log log.number) (take l.log-index l.summary.logs.items)
