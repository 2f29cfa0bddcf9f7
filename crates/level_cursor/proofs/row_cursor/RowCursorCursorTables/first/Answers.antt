use Rattle.std.proofs.Common.{None, inl}
use Rattle.std.proofs.lemmas.Result.{err_from_is_err_and}
use Rattle.cursor.specs.Cuts.{Front}
use Rattle.level_cursor.specs.Rows.{rows_tables}
use Rattle.level_cursor.proofs.Cutting.{first_ends}
use Rattle.level_cursor.proofs.Keeping.{found_kept, found_limited, found_torn, found_within, refused_as, searched, still_limited, still_torn, unmoved}
use Rattle.table_access.specs.Tables.{seen}
use Rattle.level_cursor.proofs.Moving.{first_moved, row_carried}
use Rattle.level_cursor.proofs.row_cursor.RowCursorCursorTables.first.Goals as goal

pub returns-in_err-self-clause-moves : goal.returns-in_err-self-clause-moves
returns-in_err-self-clause-moves g c =
    let p = err_from_is_err_and c.from_residual.result c.from_residual.ensures.1 in
    rw p.1 (λ t at h. unmoved g.K.KeyOrder.cmp (rows_tables c.args.self.now) (seen (g.S.Store.facts c.args.source.now.store) c.args.source.now.tables c.args.source.now.blocks) (seen (g.S.Store.facts c.search_on.new.source.store) c.search_on.new.source.tables c.search_on.new.source.blocks) c.args.self.now.here at c.search_on.ensures.carries t h)

pub returns-in_err-self-clause-stays : goal.returns-in_err-self-clause-stays
returns-in_err-self-clause-stays g c = record {
  reads = c.search_on.ensures.carries.reads;
  left = searched g.K.KeyOrder.cmp (rows_tables c.args.self.now) _ c.args.self.now.here (seen (g.S.Store.facts c.args.source.now.store) c.args.source.now.tables c.args.source.now.blocks) (seen (g.S.Store.facts c.search_on.new.source.store) c.search_on.new.source.tables c.search_on.new.source.blocks) c.row.ensures c.search_on.ensures.carries;
  others = λ t other. row_carried g.K.KeyOrder.cmp (rows_tables other) other.here (seen (g.S.Store.facts c.args.source.now.store) c.args.source.now.tables c.args.source.now.blocks) (seen (g.S.Store.facts c.search_on.new.source.store) c.search_on.new.source.tables c.search_on.new.source.blocks) c.search_on.ensures.carries t;
  same = λ s t k. k;
  limit = λ t l. still_limited g.K.KeyOrder.cmp (rows_tables c.args.self.now) (seen (g.S.Store.facts c.args.source.now.store) c.args.source.now.tables c.args.source.now.blocks) (seen (g.S.Store.facts c.search_on.new.source.store) c.search_on.new.source.tables c.search_on.new.source.blocks) c.args.self.now.here c.search_on.ensures.carries t l;
  tear = λ t cut l. still_torn g.K.KeyOrder.cmp (rows_tables c.args.self.now) (seen (g.S.Store.facts c.args.source.now.store) c.args.source.now.tables c.args.source.now.blocks) (seen (g.S.Store.facts c.search_on.new.source.store) c.search_on.new.source.tables c.search_on.new.source.blocks) c.args.self.now.here cut c.search_on.ensures.carries t l;
  within = λ number o. o;
}

pub returns-in_err-self-clause-still : goal.returns-in_err-self-clause-still
returns-in_err-self-clause-still g c =
    let p = err_from_is_err_and c.from_residual.result c.from_residual.ensures.1 in
    rw (p.1, p.2) c.in_err-self.ensures.still

pub returns-in_err-self-clause-refused : goal.returns-in_err-self-clause-refused
returns-in_err-self-clause-refused g c =
    let p = err_from_is_err_and c.from_residual.result c.from_residual.ensures.1 in
    rw (p.1, p.2) (refused_as c.in_err-self.field-0.0 _ _ _ _ _ _ (λ none at h. inl (none h.lists None Front h.tables tt (first_ends g.K.KeyOrder.cmp (seen (g.S.Store.facts c.args.source.now.store) c.args.source.now.tables c.args.source.now.blocks) (rows_tables c.args.self.now) h.lists h.tables))) (λ one. inl one) (rw c.row.ensures at c.in_err-self.ensures.refused))

pub returns-clause-moves : goal.returns-clause-moves
returns-clause-moves g c = λ t at h. first_moved g.K.KeyOrder.cmp (seen (g.S.Store.facts c.args.source.now.store) c.args.source.now.tables c.args.source.now.blocks) (seen (g.S.Store.facts c.search_on.new.source.store) c.search_on.new.source.tables c.search_on.new.source.blocks) (rows_tables c.args.self.now) c.args.self.now.here c.in_ok-self.field-0 at c.search_on.ensures.carries t h ((rw c.row.ensures at c.in_ok-self.ensures.found) t h.lists h.tables None tt)

pub returns-clause-stays : goal.returns-clause-stays
returns-clause-stays g c = record {
  reads = c.search_on.ensures.carries.reads;
  left = searched g.K.KeyOrder.cmp (rows_tables c.args.self.now) _ c.args.self.now.here (seen (g.S.Store.facts c.args.source.now.store) c.args.source.now.tables c.args.source.now.blocks) (seen (g.S.Store.facts c.search_on.new.source.store) c.search_on.new.source.tables c.search_on.new.source.blocks) c.row.ensures c.search_on.ensures.carries;
  others = λ t other. row_carried g.K.KeyOrder.cmp (rows_tables other) other.here (seen (g.S.Store.facts c.args.source.now.store) c.args.source.now.tables c.args.source.now.blocks) (seen (g.S.Store.facts c.search_on.new.source.store) c.search_on.new.source.tables c.search_on.new.source.blocks) c.search_on.ensures.carries t;
  same = λ s t k. found_kept g.K.KeyOrder.cmp (rows_tables c.args.self.now) (seen (g.S.Store.facts c.args.source.now.store) c.args.source.now.tables c.args.source.now.blocks) (seen (g.S.Store.facts c.search_on.new.source.store) c.search_on.new.source.tables c.search_on.new.source.blocks) (seen (g.S.Store.facts s.store) s.tables s.blocks) (seen (g.S.Store.facts t.store) t.tables t.blocks) c.args.self.now.here c.in_ok-self.field-0 (rw c.row.ensures at c.in_ok-self.ensures.opened) k;
  limit = λ t l. found_limited g.K.KeyOrder.cmp (rows_tables c.args.self.now) (seen (g.S.Store.facts c.args.source.now.store) c.args.source.now.tables c.args.source.now.blocks) (seen (g.S.Store.facts c.search_on.new.source.store) c.search_on.new.source.tables c.search_on.new.source.blocks) c.args.self.now.here c.in_ok-self.field-0 (rw c.row.ensures at c.in_ok-self.ensures.opened) c.search_on.ensures.carries t l;
  tear = λ t cut l. found_torn g.K.KeyOrder.cmp (rows_tables c.args.self.now) (seen (g.S.Store.facts c.args.source.now.store) c.args.source.now.tables c.args.source.now.blocks) (seen (g.S.Store.facts c.search_on.new.source.store) c.search_on.new.source.tables c.search_on.new.source.blocks) c.args.self.now.here c.in_ok-self.field-0 cut (rw c.row.ensures at c.in_ok-self.ensures.opened) c.search_on.ensures.carries t l;
  within = λ number o. found_within g.K.KeyOrder.cmp (rows_tables c.args.self.now) (seen (g.S.Store.facts c.args.source.now.store) c.args.source.now.tables c.args.source.now.blocks) (seen (g.S.Store.facts c.search_on.new.source.store) c.search_on.new.source.tables c.search_on.new.source.blocks) c.args.self.now.here c.in_ok-self.field-0 (rw c.row.ensures at c.in_ok-self.ensures.opened) number o;
}

pub returns-clause-still : goal.returns-clause-still
returns-clause-still g c = c.in_ok-self.ensures.still
