use Rattle.std.proofs.Common.{subst}
use Rattle.db_cursor.specs.Places.{ListsSource}
use Rattle.db_cursor.specs.Whole.{whole}
use Rattle.db_cursor.proofs.source_cursor.SourceCursorCursorSources.key.Goals as goal

pub returns-in-Memory : goal.returns-in-Memory
returns-in-Memory g c = λ at index entry h place is.
    let s = c.args.source.now in
    c.key.ensures at index entry (subst (λ cursor. ListsSource g.K.KeyOrder.cmp cursor (whole (g.S.Store.facts s.tables.store) s.tables.tables s.tables.blocks s.memory) at) c.in-Memory.is h) place is

pub returns-in-Row : goal.returns-in-Row
returns-in-Row g c = λ at index entry h place is.
    let s = c.args.source.now in
    c.key-in-Row.ensures at index entry (subst (λ cursor. ListsSource g.K.KeyOrder.cmp cursor (whole (g.S.Store.facts s.tables.store) s.tables.tables s.tables.blocks s.memory) at) c.in-Row.is h) place is
