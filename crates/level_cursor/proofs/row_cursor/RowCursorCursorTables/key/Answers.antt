use Rattle.cursor.specs.Merging.{listed}
use Rattle.std.proofs.Common.{Some, refl}
use Rattle.level_cursor.specs.Rows.{rows_tables}
use Rattle.level_cursor.proofs.Moving.{entry_here}
use Rattle.table_access.specs.Tables.{seen}
use Rattle.level_cursor.proofs.row_cursor.RowCursorCursorTables.key.Goals as goal

pub returns : goal.returns
returns g c = λ at index entry lists place_is entry_is.
    let p = entry_here g.K.KeyOrder.cmp (seen (g.S.Store.facts c.args.source.now.store) c.args.source.now.tables c.args.source.now.blocks) (rows_tables c.args.self.now) c.args.self.now.here c.in-Some.here at index entry c.in-Some.is lists place_is entry_is in
    c.key.ensures (listed p.0 (Some p.1)) p.1 entry p.2 refl p.3
