use Rattle.std.proofs.Common.{refl, sym, subst}
use Rattle.db_cursor.proofs.SourceSteps.{StaysSource, stays_memory, stays_row}
use Rattle.db_cursor.specs.declared.source_cursor.SourceCursor.TheVariants.{Memory, Row}
use Rattle.table_access.specs.Tables.{seen}
use Rattle.table_access.proofs.Standing.{nothing_called}
use Rattle.db_cursor.proofs.source_cursor.SourceCursorCursorSources.next.Goals as goal

pub returns-in-Memory-clause-stays : goal.returns-in-Memory-clause-stays
returns-in-Memory-clause-stays g c =
    subst (λ cursor. StaysSource g.K.KeyOrder.cmp (λ tables. seen (g.S.Store.facts tables.store) tables.tables tables.blocks) (λ source. source.tables) (λ source. source.memory) cursor (Memory c.next.new.self) c.args.source.now (record c.args.source.now { memory = c.next.new.source })) (sym c.in-Memory.is)
    (stays_memory g.K.KeyOrder.cmp (λ tables. seen (g.S.Store.facts tables.store) tables.tables tables.blocks) (λ source. source.tables) (λ source. source.memory) c.in-Memory.cursor c.next.new.self c.args.source.now (record c.args.source.now { memory = c.next.new.source }) refl
    c.next.ensures.stays)

pub returns-in-Row-clause-stays : goal.returns-in-Row-clause-stays
returns-in-Row-clause-stays g c =
    subst (λ cursor. StaysSource g.K.KeyOrder.cmp (λ tables. seen (g.S.Store.facts tables.store) tables.tables tables.blocks) (λ source. source.tables) (λ source. source.memory) cursor (Row c.next-in-Row.new.self) c.args.source.now (record c.args.source.now { tables = c.next-in-Row.new.source })) (sym c.in-Row.is)
    (stays_row g.K.KeyOrder.cmp (λ tables. seen (g.S.Store.facts tables.store) tables.tables tables.blocks) (λ source. source.tables) (λ source. source.memory) c.in-Row.cursor c.next-in-Row.new.self c.args.source.now (record c.args.source.now { tables = c.next-in-Row.new.source }) refl
    c.next-in-Row.ensures.stays)

pub returns-in-Memory-clause-still : goal.returns-in-Memory-clause-still
returns-in-Memory-clause-still g c = nothing_called (g.S.Store.facts c.args.source.now.tables.store) c.next.result

pub returns-in-Row-clause-refused : goal.returns-in-Row-clause-refused
returns-in-Row-clause-refused g c = rw c.in-Row.is c.next-in-Row.ensures.refused
