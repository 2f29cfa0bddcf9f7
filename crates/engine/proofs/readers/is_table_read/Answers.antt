use Rattle.std.proofs.Common.{◌∙◌}
use Rattle.std.specs.Map.{values_of}
use Rattle.db_cursor.specs.Scans.{tables_of}
use Rattle.versions.specs.Levels.{HasNumber}
use Rattle.engine.proofs.InUse.{any_turn, none_end, none_more}
use Rattle.engine.proofs.readers.is_table_read.Goals as goal

pub returns-then-has_table : goal.returns-then-has_table
returns-then-has_table g c =
    any_turn (λ scan. HasNumber c.args.number (tables_of scan)) (values_of c.args.iterators.now.entries) c.loop-scan.yielded _ _ _ c.next.result (c.into_iter-scan-iterator.ensures.into_iter_gives ∙ c.values-scan-items.ensures.rest) c.loop-scan.yielded_by c.in-Some.scan c.in-Some.is c.next.ensures.steps
    c.if-has_table.ensures

pub loop-scan-preserved : goal.loop-scan-preserved
loop-scan-preserved g c = none_more (λ scan. HasNumber c.args.number (tables_of scan)) c.loop-scan.yielded c.in-Some.scan c.loop-scan.invariant c.if-has_table.ensures

pub returns : goal.returns
returns g c =
    none_end (λ scan. HasNumber c.args.number (tables_of scan)) (values_of c.args.iterators.now.entries) c.loop-scan.yielded _ _ _ c.next.result (c.into_iter-scan-iterator.ensures.into_iter_gives ∙ c.values-scan-items.ensures.rest) c.loop-scan.yielded_by c.in-None.is c.next.ensures.steps
    c.loop-scan.invariant
