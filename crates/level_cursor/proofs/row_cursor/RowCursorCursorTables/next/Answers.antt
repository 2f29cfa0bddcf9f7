use Rattle.std.proofs.Common.{None, inl, inr, ◌∙◌}
use Rattle.std.proofs.lemmas.Result.{err_from_is_err_and}
use Rattle.cursor.proofs.Turns.{still_later}
use Rattle.cursor.specs.Cuts.{next_cut}
use Rattle.level_cursor.specs.Rows.{rows_tables}
use Rattle.level_cursor.proofs.Cutting.{search_next, step_next}
use Rattle.level_cursor.proofs.Having.{carried_lists}
use Rattle.level_cursor.proofs.Keeping.{found_kept, found_limited, found_torn, found_within, refused_as, searched, step_kept, step_limited, step_torn, step_within, stepped, unmoved}
use Rattle.level_cursor.proofs.Moving.{next_here, next_moved, row_carried, stayed}
use Rattle.level_cursor.proofs.Refusing.{limited_before, refused_later, torn_before}
use Rattle.table_access.specs.Tables.{seen}
use Rattle.table_access.specs.TableLaws.{carries_both}
use Rattle.level_cursor.proofs.row_cursor.RowCursorCursorTables.next.Goals as goal

pub returns-in_err-start-clause-moves : goal.returns-in_err-start-clause-moves
returns-in_err-start-clause-moves g c =
    let p = err_from_is_err_and c.from_residual.result c.from_residual.ensures.1 in
    rw p.1 (λ t at h. stayed g.K.KeyOrder.cmp (seen (g.S.Store.facts c.args.source.now.store) c.args.source.now.tables c.args.source.now.blocks) (seen (g.S.Store.facts c.step_on.new.source.store) c.step_on.new.source.tables c.step_on.new.source.blocks) (rows_tables c.args.self.now) c.args.self.now.here c.step_on.new.here at c.step_on.ensures.carries t h (c.in_err-start.ensures.steps t h.lists at.place h.place))

pub returns-in_err-start-clause-stays : goal.returns-in_err-start-clause-stays
returns-in_err-start-clause-stays g c = record {
  reads = c.step_on.ensures.carries.reads;
  left = stepped g.K.KeyOrder.cmp (rows_tables c.args.self.now) c.args.self.now.here (seen (g.S.Store.facts c.args.source.now.store) c.args.source.now.tables c.args.source.now.blocks) (seen (g.S.Store.facts c.step_on.new.source.store) c.step_on.new.source.tables c.step_on.new.source.blocks) c.step_on.ensures.carries;
  others = λ t other. row_carried g.K.KeyOrder.cmp (rows_tables other) other.here (seen (g.S.Store.facts c.args.source.now.store) c.args.source.now.tables c.args.source.now.blocks) (seen (g.S.Store.facts c.step_on.new.source.store) c.step_on.new.source.tables c.step_on.new.source.blocks) c.step_on.ensures.carries t;
  same = λ s t k. step_kept g.K.KeyOrder.cmp (rows_tables c.args.self.now) (seen (g.S.Store.facts s.store) s.tables s.blocks) (seen (g.S.Store.facts t.store) t.tables t.blocks) c.args.self.now.here c.step_on.new.here c.step_on.ensures.same k;
  limit = λ t l. step_limited g.K.KeyOrder.cmp (rows_tables c.args.self.now) (seen (g.S.Store.facts c.args.source.now.store) c.args.source.now.tables c.args.source.now.blocks) (seen (g.S.Store.facts c.step_on.new.source.store) c.step_on.new.source.tables c.step_on.new.source.blocks) c.args.self.now.here c.step_on.new.here c.step_on.ensures.same c.step_on.ensures.carries t l;
  tear = λ t cut l. step_torn g.K.KeyOrder.cmp (rows_tables c.args.self.now) (seen (g.S.Store.facts c.args.source.now.store) c.args.source.now.tables c.args.source.now.blocks) (seen (g.S.Store.facts c.step_on.new.source.store) c.step_on.new.source.tables c.step_on.new.source.blocks) c.args.self.now.here c.step_on.new.here cut c.step_on.ensures.same c.step_on.ensures.carries t l;
  within = λ number o. step_within g.K.KeyOrder.cmp (rows_tables c.args.self.now) c.args.self.now.here c.step_on.new.here c.step_on.ensures.same number o;
}

pub returns-in_err-start-clause-still : goal.returns-in_err-start-clause-still
returns-in_err-start-clause-still g c =
    let p = err_from_is_err_and c.from_residual.result c.from_residual.ensures.1 in
    rw (p.1, p.2) c.in_err-start.ensures.still

pub returns-in_err-start-clause-refused : goal.returns-in_err-start-clause-refused
returns-in_err-start-clause-refused g c =
    let p = err_from_is_err_and c.from_residual.result c.from_residual.ensures.1 in
    rw (p.1, p.2) (refused_as c.in_err-start.field-0.0 _ _ _ _ _ _ (λ none at h. inr (step_next g.K.KeyOrder.cmp (seen (g.S.Store.facts c.args.source.now.store) c.args.source.now.tables c.args.source.now.blocks) (rows_tables c.args.self.now) g.met.K.KeyOrder.total c.args.self.now.here at h (none h.lists at.place h.place))) (λ long. inr long) c.in_err-start.ensures.refused)

pub returns-in-None-clause-moves : goal.returns-in-None-clause-moves
returns-in-None-clause-moves g c = λ t at h. next_here g.K.KeyOrder.cmp (seen (g.S.Store.facts c.args.source.now.store) c.args.source.now.tables c.args.source.now.blocks) (seen (g.S.Store.facts c.step_on.new.source.store) c.step_on.new.source.tables c.step_on.new.source.blocks) (rows_tables c.args.self.now) c.args.self.now.here c.step_on.new.here at c.step_on.ensures.carries t h ((rw c.in-None.is at c.in_ok-start.ensures.steps) t h.lists at.place h.place)

pub returns-in-None-clause-stays : goal.returns-in-None-clause-stays
returns-in-None-clause-stays g c = record {
  reads = c.step_on.ensures.carries.reads;
  left = stepped g.K.KeyOrder.cmp (rows_tables c.args.self.now) c.args.self.now.here (seen (g.S.Store.facts c.args.source.now.store) c.args.source.now.tables c.args.source.now.blocks) (seen (g.S.Store.facts c.step_on.new.source.store) c.step_on.new.source.tables c.step_on.new.source.blocks) c.step_on.ensures.carries;
  others = λ t other. row_carried g.K.KeyOrder.cmp (rows_tables other) other.here (seen (g.S.Store.facts c.args.source.now.store) c.args.source.now.tables c.args.source.now.blocks) (seen (g.S.Store.facts c.step_on.new.source.store) c.step_on.new.source.tables c.step_on.new.source.blocks) c.step_on.ensures.carries t;
  same = λ s t k. step_kept g.K.KeyOrder.cmp (rows_tables c.args.self.now) (seen (g.S.Store.facts s.store) s.tables s.blocks) (seen (g.S.Store.facts t.store) t.tables t.blocks) c.args.self.now.here c.step_on.new.here c.step_on.ensures.same k;
  limit = λ t l. step_limited g.K.KeyOrder.cmp (rows_tables c.args.self.now) (seen (g.S.Store.facts c.args.source.now.store) c.args.source.now.tables c.args.source.now.blocks) (seen (g.S.Store.facts c.step_on.new.source.store) c.step_on.new.source.tables c.step_on.new.source.blocks) c.args.self.now.here c.step_on.new.here c.step_on.ensures.same c.step_on.ensures.carries t l;
  tear = λ t cut l. step_torn g.K.KeyOrder.cmp (rows_tables c.args.self.now) (seen (g.S.Store.facts c.args.source.now.store) c.args.source.now.tables c.args.source.now.blocks) (seen (g.S.Store.facts c.step_on.new.source.store) c.step_on.new.source.tables c.step_on.new.source.blocks) c.args.self.now.here c.step_on.new.here cut c.step_on.ensures.same c.step_on.ensures.carries t l;
  within = λ number o. step_within g.K.KeyOrder.cmp (rows_tables c.args.self.now) c.args.self.now.here c.step_on.new.here c.step_on.ensures.same number o;
}

pub returns-in-None-clause-still : goal.returns-in-None-clause-still
returns-in-None-clause-still g c = c.in_ok-start.ensures.still

pub returns-in_err-self-clause-moves : goal.returns-in_err-self-clause-moves
returns-in_err-self-clause-moves g c =
    let p = err_from_is_err_and c.from_residual-in_err-self.result c.from_residual-in_err-self.ensures.1 in
    rw p.1 (λ t at h. unmoved g.K.KeyOrder.cmp (rows_tables c.args.self.now) (seen (g.S.Store.facts c.step_on.new.source.store) c.step_on.new.source.tables c.step_on.new.source.blocks) (seen (g.S.Store.facts c.search_on.new.source.store) c.search_on.new.source.tables c.search_on.new.source.blocks) c.step_on.new.here at c.search_on.ensures.carries t (stayed g.K.KeyOrder.cmp (seen (g.S.Store.facts c.args.source.now.store) c.args.source.now.tables c.args.source.now.blocks) (seen (g.S.Store.facts c.step_on.new.source.store) c.step_on.new.source.tables c.step_on.new.source.blocks) (rows_tables c.args.self.now) c.args.self.now.here c.step_on.new.here at c.step_on.ensures.carries (c.search_on.ensures.carries.reads.faithful t) h ((rw c.in-Some.is at c.in_ok-start.ensures.steps) (c.search_on.ensures.carries.reads.faithful t) h.lists at.place h.place).0))

pub returns-in_err-self-clause-stays : goal.returns-in_err-self-clause-stays
returns-in_err-self-clause-stays g c = record {
  reads = (carries_both g.K.KeyOrder.cmp (seen (g.S.Store.facts c.args.source.now.store) c.args.source.now.tables c.args.source.now.blocks) (seen (g.S.Store.facts c.step_on.new.source.store) c.step_on.new.source.tables c.step_on.new.source.blocks) (seen (g.S.Store.facts c.search_on.new.source.store) c.search_on.new.source.tables c.search_on.new.source.blocks) (stepped g.K.KeyOrder.cmp (rows_tables c.args.self.now) c.args.self.now.here (seen (g.S.Store.facts c.args.source.now.store) c.args.source.now.tables c.args.source.now.blocks) (seen (g.S.Store.facts c.step_on.new.source.store) c.step_on.new.source.tables c.step_on.new.source.blocks) c.step_on.ensures.carries) (searched g.K.KeyOrder.cmp (rows_tables c.args.self.now) _ c.args.self.now.here (seen (g.S.Store.facts c.step_on.new.source.store) c.step_on.new.source.tables c.step_on.new.source.blocks) (seen (g.S.Store.facts c.search_on.new.source.store) c.search_on.new.source.tables c.search_on.new.source.blocks) c.row.ensures c.search_on.ensures.carries)).reads;
  left = carries_both g.K.KeyOrder.cmp (seen (g.S.Store.facts c.args.source.now.store) c.args.source.now.tables c.args.source.now.blocks) (seen (g.S.Store.facts c.step_on.new.source.store) c.step_on.new.source.tables c.step_on.new.source.blocks) (seen (g.S.Store.facts c.search_on.new.source.store) c.search_on.new.source.tables c.search_on.new.source.blocks) (stepped g.K.KeyOrder.cmp (rows_tables c.args.self.now) c.args.self.now.here (seen (g.S.Store.facts c.args.source.now.store) c.args.source.now.tables c.args.source.now.blocks) (seen (g.S.Store.facts c.step_on.new.source.store) c.step_on.new.source.tables c.step_on.new.source.blocks) c.step_on.ensures.carries) (searched g.K.KeyOrder.cmp (rows_tables c.args.self.now) _ c.args.self.now.here (seen (g.S.Store.facts c.step_on.new.source.store) c.step_on.new.source.tables c.step_on.new.source.blocks) (seen (g.S.Store.facts c.search_on.new.source.store) c.search_on.new.source.tables c.search_on.new.source.blocks) c.row.ensures c.search_on.ensures.carries);
  others = λ t other. row_carried g.K.KeyOrder.cmp (rows_tables other) other.here (seen (g.S.Store.facts c.args.source.now.store) c.args.source.now.tables c.args.source.now.blocks) (seen (g.S.Store.facts c.search_on.new.source.store) c.search_on.new.source.tables c.search_on.new.source.blocks) (carries_both g.K.KeyOrder.cmp (seen (g.S.Store.facts c.args.source.now.store) c.args.source.now.tables c.args.source.now.blocks) (seen (g.S.Store.facts c.step_on.new.source.store) c.step_on.new.source.tables c.step_on.new.source.blocks) (seen (g.S.Store.facts c.search_on.new.source.store) c.search_on.new.source.tables c.search_on.new.source.blocks) (stepped g.K.KeyOrder.cmp (rows_tables c.args.self.now) c.args.self.now.here (seen (g.S.Store.facts c.args.source.now.store) c.args.source.now.tables c.args.source.now.blocks) (seen (g.S.Store.facts c.step_on.new.source.store) c.step_on.new.source.tables c.step_on.new.source.blocks) c.step_on.ensures.carries) (searched g.K.KeyOrder.cmp (rows_tables c.args.self.now) _ c.args.self.now.here (seen (g.S.Store.facts c.step_on.new.source.store) c.step_on.new.source.tables c.step_on.new.source.blocks) (seen (g.S.Store.facts c.search_on.new.source.store) c.search_on.new.source.tables c.search_on.new.source.blocks) c.row.ensures c.search_on.ensures.carries)) t;
  same = λ s t k. step_kept g.K.KeyOrder.cmp (rows_tables c.args.self.now) (seen (g.S.Store.facts s.store) s.tables s.blocks) (seen (g.S.Store.facts t.store) t.tables t.blocks) c.args.self.now.here c.step_on.new.here c.step_on.ensures.same k;
  limit = λ t l. step_limited g.K.KeyOrder.cmp (rows_tables c.args.self.now) (seen (g.S.Store.facts c.args.source.now.store) c.args.source.now.tables c.args.source.now.blocks) (seen (g.S.Store.facts c.search_on.new.source.store) c.search_on.new.source.tables c.search_on.new.source.blocks) c.args.self.now.here c.step_on.new.here c.step_on.ensures.same (carries_both g.K.KeyOrder.cmp (seen (g.S.Store.facts c.args.source.now.store) c.args.source.now.tables c.args.source.now.blocks) (seen (g.S.Store.facts c.step_on.new.source.store) c.step_on.new.source.tables c.step_on.new.source.blocks) (seen (g.S.Store.facts c.search_on.new.source.store) c.search_on.new.source.tables c.search_on.new.source.blocks) (stepped g.K.KeyOrder.cmp (rows_tables c.args.self.now) c.args.self.now.here (seen (g.S.Store.facts c.args.source.now.store) c.args.source.now.tables c.args.source.now.blocks) (seen (g.S.Store.facts c.step_on.new.source.store) c.step_on.new.source.tables c.step_on.new.source.blocks) c.step_on.ensures.carries) (searched g.K.KeyOrder.cmp (rows_tables c.args.self.now) _ c.args.self.now.here (seen (g.S.Store.facts c.step_on.new.source.store) c.step_on.new.source.tables c.step_on.new.source.blocks) (seen (g.S.Store.facts c.search_on.new.source.store) c.search_on.new.source.tables c.search_on.new.source.blocks) c.row.ensures c.search_on.ensures.carries)) t l;
  tear = λ t cut l. step_torn g.K.KeyOrder.cmp (rows_tables c.args.self.now) (seen (g.S.Store.facts c.args.source.now.store) c.args.source.now.tables c.args.source.now.blocks) (seen (g.S.Store.facts c.search_on.new.source.store) c.search_on.new.source.tables c.search_on.new.source.blocks) c.args.self.now.here c.step_on.new.here cut c.step_on.ensures.same (carries_both g.K.KeyOrder.cmp (seen (g.S.Store.facts c.args.source.now.store) c.args.source.now.tables c.args.source.now.blocks) (seen (g.S.Store.facts c.step_on.new.source.store) c.step_on.new.source.tables c.step_on.new.source.blocks) (seen (g.S.Store.facts c.search_on.new.source.store) c.search_on.new.source.tables c.search_on.new.source.blocks) (stepped g.K.KeyOrder.cmp (rows_tables c.args.self.now) c.args.self.now.here (seen (g.S.Store.facts c.args.source.now.store) c.args.source.now.tables c.args.source.now.blocks) (seen (g.S.Store.facts c.step_on.new.source.store) c.step_on.new.source.tables c.step_on.new.source.blocks) c.step_on.ensures.carries) (searched g.K.KeyOrder.cmp (rows_tables c.args.self.now) _ c.args.self.now.here (seen (g.S.Store.facts c.step_on.new.source.store) c.step_on.new.source.tables c.step_on.new.source.blocks) (seen (g.S.Store.facts c.search_on.new.source.store) c.search_on.new.source.tables c.search_on.new.source.blocks) c.row.ensures c.search_on.ensures.carries)) t l;
  within = λ number o. step_within g.K.KeyOrder.cmp (rows_tables c.args.self.now) c.args.self.now.here c.step_on.new.here c.step_on.ensures.same number o;
}

pub returns-in_err-self-clause-still : goal.returns-in_err-self-clause-still
returns-in_err-self-clause-still g c =
    let p = err_from_is_err_and c.from_residual-in_err-self.result c.from_residual-in_err-self.ensures.1 in
    rw (p.1, p.2) (still_later _ (g.S.Store.facts c.args.source.now.store) (g.S.Store.facts c.step_on.new.source.store) (g.S.Store.facts c.search_on.new.source.store) c.in_ok-start.ensures.still c.in_err-self.ensures.still)

pub returns-in_err-self-clause-refused : goal.returns-in_err-self-clause-refused
returns-in_err-self-clause-refused g c =
    let p = err_from_is_err_and c.from_residual-in_err-self.result c.from_residual-in_err-self.ensures.1 in
    rw (p.1, p.2)
    (refused_later c.in_err-self.field-0.0 _ _ _ _ _ _ _ c.step_on.ensures.carries.reads c.search_on.ensures.carries.reads (λ t none at h. inl (torn_before g.K.KeyOrder.cmp (seen (g.S.Store.facts c.args.source.now.store) c.args.source.now.tables c.args.source.now.blocks) (seen (g.S.Store.facts c.step_on.new.source.store) c.step_on.new.source.tables c.step_on.new.source.blocks) (rows_tables c.args.self.now) (next_cut at) c.step_on.ensures.carries t (none h.lists None (next_cut at) (carried_lists g.K.KeyOrder.cmp (seen (g.S.Store.facts c.args.source.now.store) c.args.source.now.tables c.args.source.now.blocks) (seen (g.S.Store.facts c.step_on.new.source.store) c.step_on.new.source.tables c.step_on.new.source.blocks) (rows_tables c.args.self.now) h.lists c.step_on.ensures.carries t h.tables) tt (search_next g.K.KeyOrder.cmp (seen (g.S.Store.facts c.args.source.now.store) c.args.source.now.tables c.args.source.now.blocks) (rows_tables c.args.self.now) g.met.K.KeyOrder.total c.args.self.now.here at h c.in-Some.start ((rw c.in-Some.is at c.in_ok-start.ensures.steps) t h.lists at.place h.place).2))))
    (λ t one. inr (inl (limited_before g.K.KeyOrder.cmp (seen (g.S.Store.facts c.args.source.now.store) c.args.source.now.tables c.args.source.now.blocks) (seen (g.S.Store.facts c.step_on.new.source.store) c.step_on.new.source.tables c.step_on.new.source.blocks) (rows_tables c.args.self.now) c.step_on.ensures.carries t one))) (rw c.row.ensures at c.in_err-self.ensures.refused))

pub returns-clause-moves : goal.returns-clause-moves
returns-clause-moves g c = λ t at h.
    let step = (rw c.in-Some.is at c.in_ok-start.ensures.steps) (c.search_on.ensures.carries.reads.faithful t) h.lists at.place h.place in
    next_moved g.K.KeyOrder.cmp (seen (g.S.Store.facts c.args.source.now.store) c.args.source.now.tables c.args.source.now.blocks) (seen (g.S.Store.facts c.search_on.new.source.store) c.search_on.new.source.tables c.search_on.new.source.blocks) (rows_tables c.args.self.now) c.args.self.now.here c.in_ok-self.field-0 at (carries_both g.K.KeyOrder.cmp (seen (g.S.Store.facts c.args.source.now.store) c.args.source.now.tables c.args.source.now.blocks) (seen (g.S.Store.facts c.step_on.new.source.store) c.step_on.new.source.tables c.step_on.new.source.blocks) (seen (g.S.Store.facts c.search_on.new.source.store) c.search_on.new.source.tables c.search_on.new.source.blocks) (stepped g.K.KeyOrder.cmp (rows_tables c.args.self.now) c.args.self.now.here (seen (g.S.Store.facts c.args.source.now.store) c.args.source.now.tables c.args.source.now.blocks) (seen (g.S.Store.facts c.step_on.new.source.store) c.step_on.new.source.tables c.step_on.new.source.blocks) c.step_on.ensures.carries) (searched g.K.KeyOrder.cmp (rows_tables c.args.self.now) _ c.args.self.now.here (seen (g.S.Store.facts c.step_on.new.source.store) c.step_on.new.source.tables c.step_on.new.source.blocks) (seen (g.S.Store.facts c.search_on.new.source.store) c.search_on.new.source.tables c.search_on.new.source.blocks) c.row.ensures c.search_on.ensures.carries)) t h c.in-Some.start step.2 ((rw c.row.ensures at c.in_ok-self.ensures.found) t h.lists (carried_lists g.K.KeyOrder.cmp (seen (g.S.Store.facts c.args.source.now.store) c.args.source.now.tables c.args.source.now.blocks) (seen (g.S.Store.facts c.step_on.new.source.store) c.step_on.new.source.tables c.step_on.new.source.blocks) (rows_tables c.args.self.now) h.lists c.step_on.ensures.carries (c.search_on.ensures.carries.reads.faithful t) h.tables) None tt)

pub returns-clause-stays : goal.returns-clause-stays
returns-clause-stays g c = record {
  reads = (carries_both g.K.KeyOrder.cmp (seen (g.S.Store.facts c.args.source.now.store) c.args.source.now.tables c.args.source.now.blocks) (seen (g.S.Store.facts c.step_on.new.source.store) c.step_on.new.source.tables c.step_on.new.source.blocks) (seen (g.S.Store.facts c.search_on.new.source.store) c.search_on.new.source.tables c.search_on.new.source.blocks) (stepped g.K.KeyOrder.cmp (rows_tables c.args.self.now) c.args.self.now.here (seen (g.S.Store.facts c.args.source.now.store) c.args.source.now.tables c.args.source.now.blocks) (seen (g.S.Store.facts c.step_on.new.source.store) c.step_on.new.source.tables c.step_on.new.source.blocks) c.step_on.ensures.carries) (searched g.K.KeyOrder.cmp (rows_tables c.args.self.now) _ c.args.self.now.here (seen (g.S.Store.facts c.step_on.new.source.store) c.step_on.new.source.tables c.step_on.new.source.blocks) (seen (g.S.Store.facts c.search_on.new.source.store) c.search_on.new.source.tables c.search_on.new.source.blocks) c.row.ensures c.search_on.ensures.carries)).reads;
  left = carries_both g.K.KeyOrder.cmp (seen (g.S.Store.facts c.args.source.now.store) c.args.source.now.tables c.args.source.now.blocks) (seen (g.S.Store.facts c.step_on.new.source.store) c.step_on.new.source.tables c.step_on.new.source.blocks) (seen (g.S.Store.facts c.search_on.new.source.store) c.search_on.new.source.tables c.search_on.new.source.blocks) (stepped g.K.KeyOrder.cmp (rows_tables c.args.self.now) c.args.self.now.here (seen (g.S.Store.facts c.args.source.now.store) c.args.source.now.tables c.args.source.now.blocks) (seen (g.S.Store.facts c.step_on.new.source.store) c.step_on.new.source.tables c.step_on.new.source.blocks) c.step_on.ensures.carries) (searched g.K.KeyOrder.cmp (rows_tables c.args.self.now) _ c.args.self.now.here (seen (g.S.Store.facts c.step_on.new.source.store) c.step_on.new.source.tables c.step_on.new.source.blocks) (seen (g.S.Store.facts c.search_on.new.source.store) c.search_on.new.source.tables c.search_on.new.source.blocks) c.row.ensures c.search_on.ensures.carries);
  others = λ t other. row_carried g.K.KeyOrder.cmp (rows_tables other) other.here (seen (g.S.Store.facts c.args.source.now.store) c.args.source.now.tables c.args.source.now.blocks) (seen (g.S.Store.facts c.search_on.new.source.store) c.search_on.new.source.tables c.search_on.new.source.blocks) (carries_both g.K.KeyOrder.cmp (seen (g.S.Store.facts c.args.source.now.store) c.args.source.now.tables c.args.source.now.blocks) (seen (g.S.Store.facts c.step_on.new.source.store) c.step_on.new.source.tables c.step_on.new.source.blocks) (seen (g.S.Store.facts c.search_on.new.source.store) c.search_on.new.source.tables c.search_on.new.source.blocks) (stepped g.K.KeyOrder.cmp (rows_tables c.args.self.now) c.args.self.now.here (seen (g.S.Store.facts c.args.source.now.store) c.args.source.now.tables c.args.source.now.blocks) (seen (g.S.Store.facts c.step_on.new.source.store) c.step_on.new.source.tables c.step_on.new.source.blocks) c.step_on.ensures.carries) (searched g.K.KeyOrder.cmp (rows_tables c.args.self.now) _ c.args.self.now.here (seen (g.S.Store.facts c.step_on.new.source.store) c.step_on.new.source.tables c.step_on.new.source.blocks) (seen (g.S.Store.facts c.search_on.new.source.store) c.search_on.new.source.tables c.search_on.new.source.blocks) c.row.ensures c.search_on.ensures.carries)) t;
  same = λ s t k. found_kept g.K.KeyOrder.cmp (rows_tables c.args.self.now) (seen (g.S.Store.facts c.step_on.new.source.store) c.step_on.new.source.tables c.step_on.new.source.blocks) (seen (g.S.Store.facts c.search_on.new.source.store) c.search_on.new.source.tables c.search_on.new.source.blocks) (seen (g.S.Store.facts s.store) s.tables s.blocks) (seen (g.S.Store.facts t.store) t.tables t.blocks) c.args.self.now.here c.in_ok-self.field-0 (rw c.row.ensures at c.in_ok-self.ensures.opened) k;
  limit = λ t l. step_limited g.K.KeyOrder.cmp (rows_tables c.args.self.now) (seen (g.S.Store.facts c.args.source.now.store) c.args.source.now.tables c.args.source.now.blocks) (seen (g.S.Store.facts c.step_on.new.source.store) c.step_on.new.source.tables c.step_on.new.source.blocks) c.args.self.now.here c.step_on.new.here c.step_on.ensures.same c.step_on.ensures.carries (c.search_on.ensures.carries.reads.faithful t) (found_limited g.K.KeyOrder.cmp (rows_tables c.args.self.now) (seen (g.S.Store.facts c.step_on.new.source.store) c.step_on.new.source.tables c.step_on.new.source.blocks) (seen (g.S.Store.facts c.search_on.new.source.store) c.search_on.new.source.tables c.search_on.new.source.blocks) c.step_on.new.here c.in_ok-self.field-0 (rw c.row.ensures at c.in_ok-self.ensures.opened) c.search_on.ensures.carries t l);
  tear = λ t cut l. step_torn g.K.KeyOrder.cmp (rows_tables c.args.self.now) (seen (g.S.Store.facts c.args.source.now.store) c.args.source.now.tables c.args.source.now.blocks) (seen (g.S.Store.facts c.step_on.new.source.store) c.step_on.new.source.tables c.step_on.new.source.blocks) c.args.self.now.here c.step_on.new.here cut c.step_on.ensures.same c.step_on.ensures.carries (c.search_on.ensures.carries.reads.faithful t) (found_torn g.K.KeyOrder.cmp (rows_tables c.args.self.now) (seen (g.S.Store.facts c.step_on.new.source.store) c.step_on.new.source.tables c.step_on.new.source.blocks) (seen (g.S.Store.facts c.search_on.new.source.store) c.search_on.new.source.tables c.search_on.new.source.blocks) c.step_on.new.here c.in_ok-self.field-0 cut (rw c.row.ensures at c.in_ok-self.ensures.opened) c.search_on.ensures.carries t l);
  within = λ number o. step_within g.K.KeyOrder.cmp (rows_tables c.args.self.now) c.args.self.now.here c.step_on.new.here c.step_on.ensures.same number (found_within g.K.KeyOrder.cmp (rows_tables c.args.self.now) (seen (g.S.Store.facts c.step_on.new.source.store) c.step_on.new.source.tables c.step_on.new.source.blocks) (seen (g.S.Store.facts c.search_on.new.source.store) c.search_on.new.source.tables c.search_on.new.source.blocks) c.step_on.new.here c.in_ok-self.field-0 (rw c.row.ensures at c.in_ok-self.ensures.opened) number o);
}

pub returns-clause-still : goal.returns-clause-still
returns-clause-still g c = c.in_ok-self.ensures.still ∙ c.in_ok-start.ensures.still
