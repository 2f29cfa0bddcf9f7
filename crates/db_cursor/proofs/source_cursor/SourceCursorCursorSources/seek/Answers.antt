use Rattle.std.proofs.Common.{refl, sym, subst}
use Rattle.db_cursor.proofs.SourceSteps.{StaysSource, stays_memory, stays_row}
use Rattle.db_cursor.specs.declared.source_cursor.SourceCursor.TheVariants.{Memory, Row}
use Rattle.table_access.specs.Tables.{seen}
use Rattle.table_access.proofs.Standing.{nothing_called}
use Rattle.cursor.specs.Cuts.{TornAt, key_cut}
use Rattle.cursor.specs.Moves.{Refuses}
use Rattle.ikey.specs.Keys.{Key, IsKey}
use Rattle.std.specs.Prelude.{IfErr}
use Rattle.db_cursor.specs.Places.{LimitedSource, ListsSource, TornSource}
use Rattle.db_cursor.specs.Whole.{whole}
use Rattle.db_cursor.proofs.source_cursor.SourceCursorCursorSources.seek.Goals as goal

pub returns-in-Memory-clause-stays : goal.returns-in-Memory-clause-stays
returns-in-Memory-clause-stays g c =
    subst (λ cursor. StaysSource g.K.KeyOrder.cmp (λ tables. seen (g.S.Store.facts tables.store) tables.tables tables.blocks) (λ source. source.tables) (λ source. source.memory) cursor (Memory c.seek.new.self) c.args.source.now (record c.args.source.now { memory = c.seek.new.source })) (sym c.in-Memory.is)
    (stays_memory g.K.KeyOrder.cmp (λ tables. seen (g.S.Store.facts tables.store) tables.tables tables.blocks) (λ source. source.tables) (λ source. source.memory) c.in-Memory.cursor c.seek.new.self c.args.source.now (record c.args.source.now { memory = c.seek.new.source }) refl
    c.seek.ensures.stays)

pub returns-in-Row-clause-stays : goal.returns-in-Row-clause-stays
returns-in-Row-clause-stays g c =
    subst (λ cursor. StaysSource g.K.KeyOrder.cmp (λ tables. seen (g.S.Store.facts tables.store) tables.tables tables.blocks) (λ source. source.tables) (λ source. source.memory) cursor (Row c.seek-in-Row.new.self) c.args.source.now (record c.args.source.now { tables = c.seek-in-Row.new.source })) (sym c.in-Row.is)
    (stays_row g.K.KeyOrder.cmp (λ tables. seen (g.S.Store.facts tables.store) tables.tables tables.blocks) (λ source. source.tables) (λ source. source.memory) c.in-Row.cursor c.seek-in-Row.new.self c.args.source.now (record c.args.source.now { tables = c.seek-in-Row.new.source }) refl
    c.seek-in-Row.ensures.stays)

pub returns-in-Memory-clause-still : goal.returns-in-Memory-clause-still
returns-in-Memory-clause-still g c = nothing_called (g.S.Store.facts c.args.source.now.tables.store) c.seek.result

pub returns-in-Row-clause-refused : goal.returns-in-Row-clause-refused
returns-in-Row-clause-refused g c = subst (λ cursor. IfErr c.seek-in-Row.result (λ e. Refuses e (g.S.Store.facts c.args.source.now.tables.store) (g.S.Store.facts c.seek-in-Row.new.source.store)
    ((key : Key) → IsKey c.args.target.now key → TornAt (λ cursor source at. ListsSource g.K.KeyOrder.cmp cursor (whole (g.S.Store.facts source.tables.store) source.tables.tables source.tables.blocks source.memory) at) (λ cursor source cut. TornSource g.K.KeyOrder.cmp cursor (whole (g.S.Store.facts source.tables.store) source.tables.tables source.tables.blocks source.memory) cut) (key_cut key) cursor c.args.source.now)
    (LimitedSource g.K.KeyOrder.cmp cursor (whole (g.S.Store.facts c.args.source.now.tables.store) c.args.source.now.tables.tables c.args.source.now.tables.blocks c.args.source.now.memory)))) (sym c.in-Row.is) c.seek-in-Row.ensures.refused
