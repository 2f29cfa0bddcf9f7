use Rattle.std.proofs.Common.{◌≡◌, ◌≢◌, ℕ, List, Option, Some, None, Err, Result, length, refl, sym, ap, subst, ◌∙◌, arith, rules}
use Rattle.std.proofs.lemmas.Bool.Decides.{nat_tests}
use Rattle.std.proofs.lemmas.Result.{err_from_is_err_and}
use Rattle.coding.specs.declared.error.DbError.{DbError}
use Rattle.coding.specs.declared.error.DbError.TheVariants as error
use Rattle.edits.specs.declared.field.PlacedTable.{PlacedTable}
use Rattle.ikey.specs.Orders.{order_of}
use Rattle.ikey.specs.Sources.{IsAnswer}
use Rattle.cursor.specs.Moves.{Refuses}
use Rattle.memtables.specs.Memories.{logged_in}
use Rattle.version_get.specs.Gets.{HasNoTablesOf, IsOneTooLong, SaysOfEach}
use Rattle.db_cursor.proofs.ScanSteps.{scan_kept}
use Rattle.table_access.specs.Tables.{seen}
use Rattle.versions.specs.Levels.{HasNumber}
use Rattle.versions.specs.Levels.{Placement}
use Rattle.machine.specs.Access.{Gets}
use Rattle.engine.specs.Applied.{IsReadBy}
use Rattle.engine.specs.internal.Leading.{LeadsOpen}
use Rattle.engine.specs.Follows.{value_answer}
use Rattle.engine.specs.OpenDb.{open_db}
use Rattle.db_cursor.specs.Whole.{seen_of}
use Rattle.engine.specs.internal.Gathering.{Gathers}
use Rattle.engine.specs.Outcomes.{DbOutcome, MayRefuseGet}
use Rattle.engine.specs.Reads.{sequence_at}
use Rattle.engine.proofs.Getting.{gathers_of, found_at, missing_at, tables_read, tables_failed, reads_itself, reads_leave, caused_ok, caused_err, outcome_ok, outcome_err, reads_seen, reads_nothing, reads_behind, none_of}
use Rattle.engine.proofs.Steps.{same_counts, stays_open, got_broken, got_unseen, got_value, got_refused, memory_value, no_tables_value}
use Rattle.engine.proofs.state.DbState.get.Goals as goal

pub returns-then-self-clause-step : goal.returns-then-self-clause-step
returns-then-self-clause-step g c ids =
    let order = order_of g.K.KeyOrder.name g.K.KeyOrder.cmp in
    let source = seen_of g.S.Store.facts c.args.source.now in
    let db = open_db c.args.source.now.memory c.args.self.now in
    stays_open order source ids db _ (λ m s. got_broken order source ids db m c.args.key.now c.args.snapshot s c.if-self.true)

pub returns-in_err-sequence-clause-step : goal.returns-in_err-sequence-clause-step
returns-in_err-sequence-clause-step g c ids =
    let order = order_of g.K.KeyOrder.name g.K.KeyOrder.cmp in
    let source = seen_of g.S.Store.facts c.args.source.now in
    let db = open_db c.args.source.now.memory c.args.self.now in
    let e = c.in_err-sequence.field-0.0 in
    let gone = missing_at (sequence_at db c.args.snapshot) e c.in_err-sequence.ensures in
    let is : c.from_residual.result ≡ Err e = search rules in
    subst (λ (r : Result (Option (List ℕ)) DbError). LeadsOpen order source source ids db db (λ m n. Gets m c.args.key.now c.args.snapshot (value_answer r) n)) (sym (is ∙ ap (λ (x : DbError). Err x) gone.1))
    (stays_open order source ids db _ (λ m s. got_unseen order source ids db m c.args.key.now c.args.snapshot s c.if-self.false gone.0))

pub returns-in_err-value-clause-step : goal.returns-in_err-value-clause-step
returns-in_err-value-clause-step g c ids =
    let order = order_of g.K.KeyOrder.name g.K.KeyOrder.cmp in
    let source = seen_of g.S.Store.facts c.args.source.now in
    let db = open_db c.args.source.now.memory c.args.self.now in
    let at = found_at (sequence_at db c.args.snapshot) c.in_ok-sequence.sequence c.in_ok-sequence.ensures in
    let memory : c.from_residual-in_err-value.result ≡ Err error.OutOfMemory = search rules in
    subst (λ (r : Result (Option (List ℕ)) DbError). LeadsOpen order source source ids db db (λ m n. Gets m c.args.key.now c.args.snapshot (value_answer r) n)) (sym memory)
    (stays_open order source ids db _ (λ m s. got_refused order source ids db m c.args.key.now c.args.snapshot s c.if-self.false c.in_ok-sequence.sequence at m error.OutOfMemory (same_counts m _) refl))

pub returns-in_err-value-clause-outcome : goal.returns-in_err-value-clause-outcome
returns-in_err-value-clause-outcome g c =
    let facts = g.S.Store.facts c.args.source.now.tables.store in
    let db = open_db c.args.source.now.memory c.args.self.now in
    let memory : c.from_residual-in_err-value.result ≡ Err error.OutOfMemory = search rules in
    subst (λ (r : Result (Option (List ℕ)) DbError). DbOutcome MayRefuseGet facts facts db db r) (sym memory)
    (outcome_err {T = Option (List ℕ)} facts facts db error.OutOfMemory (Unit {0}) (Unit {0}) (reads_itself facts) tt refl)

pub returns-in-Some-clause-step : goal.returns-in-Some-clause-step
returns-in-Some-clause-step g c ids =
    let order = order_of g.K.KeyOrder.name g.K.KeyOrder.cmp in
    let source = seen_of g.S.Store.facts c.args.source.now in
    let db = open_db c.args.source.now.memory c.args.self.now in
    let at = found_at (sequence_at db c.args.snapshot) c.in_ok-sequence.sequence c.in_ok-sequence.ensures in
    let a : IsAnswer (logged_in db.memory) c.in_ok-sequence.sequence c.args.key.now (Some c.in-Some.value) =
    subst (λ (o : Option (Option (List ℕ))). IsAnswer (logged_in db.memory) c.in_ok-sequence.sequence c.args.key.now o) c.in-Some.is c.in_ok-value.ensures in
    stays_open order source ids db _ (λ m s. got_value order source ids db m c.args.key.now c.args.snapshot s c.if-self.false c.in_ok-sequence.sequence at m c.in-Some.value (same_counts m _) refl
    (memory_value order source ids db m c.args.key.now c.args.snapshot s c.if-self.false c.in_ok-sequence.sequence at c.newest_in_front.ensures c.unseen_in_front.ensures c.same_view.ensures c.in-Some.value a))

pub returns-in-Some-clause-read : goal.returns-in-Some-clause-read
returns-in-Some-clause-read g c =
    let db = open_db c.args.source.now.memory c.args.self.now in
    let a : IsAnswer (logged_in db.memory) c.in_ok-sequence.sequence c.args.key.now (Some c.in-Some.value) =
    subst (λ (o : Option (Option (List ℕ))). IsAnswer (logged_in db.memory) c.in_ok-sequence.sequence c.args.key.now o) c.in-Some.is c.in_ok-value.ensures in
    (c.in_ok-sequence.sequence, found_at (sequence_at db c.args.snapshot) c.in_ok-sequence.sequence c.in_ok-sequence.ensures, reads_seen db c.in_ok-sequence.sequence c.args.key.now c.in-Some.value a)

pub returns-in-Some-clause-outcome : goal.returns-in-Some-clause-outcome
returns-in-Some-clause-outcome g c =
    let facts = g.S.Store.facts c.args.source.now.tables.store in
    outcome_ok facts facts (open_db c.args.source.now.memory c.args.self.now) c.in-Some.value (reads_itself facts)

pub returns-then-is_empty-clause-step : goal.returns-then-is_empty-clause-step
returns-then-is_empty-clause-step g c ids =
    let order = order_of g.K.KeyOrder.name g.K.KeyOrder.cmp in
    let source = seen_of g.S.Store.facts c.args.source.now in
    let db = open_db c.args.source.now.memory c.args.self.now in
    let at = found_at (sequence_at db c.args.snapshot) c.in_ok-sequence.sequence c.in_ok-sequence.ensures in
    let unseen : IsAnswer (logged_in db.memory) c.in_ok-sequence.sequence c.args.key.now None =
    subst (λ (o : Option (Option (List ℕ))). IsAnswer (logged_in db.memory) c.in_ok-sequence.sequence c.args.key.now o) c.in_default.is c.in_ok-value.ensures in
    let short : length c.tables.result.now ≡ 0 = grind (arith, nat_tests, c.if-is_empty.ensures) in
    let same : c.tables.result.now ≡ c.args.self.now.version.value.tables = c.tables.ensures.is ∙ ap (λ (v : Placement). v.tables) c.deref.ensures in
    stays_open order source ids db _ (λ m s. got_value order source ids db m c.args.key.now c.args.snapshot s c.if-self.false c.in_ok-sequence.sequence at m None (same_counts m _) refl
    (no_tables_value order source ids db m c.args.key.now c.args.snapshot s c.if-self.false c.in_ok-sequence.sequence at c.newest_in_front.ensures c.unseen_in_front.ensures c.same_view.ensures c.version_of_directory.ensures
    g.met.K.KeyOrder.total g.met.K.KeyOrder.exact unseen (sym same ∙ none_of c.tables.result.now short)))

pub returns-then-is_empty-clause-read : goal.returns-then-is_empty-clause-read
returns-then-is_empty-clause-read g c =
    let db = open_db c.args.source.now.memory c.args.self.now in
    let unseen : IsAnswer (logged_in db.memory) c.in_ok-sequence.sequence c.args.key.now None =
    subst (λ (o : Option (Option (List ℕ))). IsAnswer (logged_in db.memory) c.in_ok-sequence.sequence c.args.key.now o) c.in_default.is c.in_ok-value.ensures in
    (c.in_ok-sequence.sequence, found_at (sequence_at db c.args.snapshot) c.in_ok-sequence.sequence c.in_ok-sequence.ensures, reads_nothing db c.in_ok-sequence.sequence c.args.key.now unseen)

pub returns-then-is_empty-clause-outcome : goal.returns-then-is_empty-clause-outcome
returns-then-is_empty-clause-outcome g c =
    let facts = g.S.Store.facts c.args.source.now.tables.store in
    outcome_ok facts facts (open_db c.args.source.now.memory c.args.self.now) None (reads_itself facts)

pub returns-in_err-value-2-clause-step : goal.returns-in_err-value-2-clause-step
returns-in_err-value-2-clause-step g c ids =
    let p = err_from_is_err_and c.from_residual-in_err-value-2.result c.from_residual-in_err-value-2.ensures.1 in
    let order = order_of g.K.KeyOrder.name g.K.KeyOrder.cmp in
    let source = seen_of g.S.Store.facts c.args.source.now in
    let new = seen (g.S.Store.facts c.value_in_tables.new.source.store) c.value_in_tables.new.source.tables c.value_in_tables.new.source.blocks in
    let db = open_db c.args.source.now.memory c.args.self.now in
    let at = found_at (sequence_at db c.args.snapshot) c.in_ok-sequence.sequence c.in_ok-sequence.ensures in
    let refused = subst (λ (v : Placement). Refuses c.in_err-value-2.field-0.0 source.facts new.facts (HasNoTablesOf order source v.tables) (IsOneTooLong order source v.tables)) c.deref-2.ensures c.in_err-value-2.ensures.refused in
    rw (p.1, p.2) (tables_failed order (λ scan. scan_kept order.cmp scan) c.version_of_directory.ensures g.met.K.KeyOrder.total g.met.K.KeyOrder.exact source new ids db c.args.key.now c.args.snapshot c.in_ok-sequence.sequence c.in_ok-sequence.sequence
    c.if-self.false at (λ below. refl) c.value_in_tables.ensures.carries (gathers_of db source new (subst (λ (v : Placement). Gathers (λ number. HasNumber number v.tables) source new) c.deref-2.ensures c.value_in_tables.ensures.carries.gathered)) c.in_err-value-2.field-0.0 refused)

pub returns-in_err-value-2-clause-outcome : goal.returns-in_err-value-2-clause-outcome
returns-in_err-value-2-clause-outcome g c =
    let p = err_from_is_err_and c.from_residual-in_err-value-2.result c.from_residual-in_err-value-2.ensures.1 in
    let order = order_of g.K.KeyOrder.name g.K.KeyOrder.cmp in
    let source = seen_of g.S.Store.facts c.args.source.now in
    let tables = c.deref-2.result.now.tables in
    rw (p.1, p.2) (outcome_err {T = Option (List ℕ)} source.facts (g.S.Store.facts c.value_in_tables.new.source.store) (open_db c.args.source.now.memory c.args.self.now) c.in_err-value-2.field-0.0
    (HasNoTablesOf order source tables) (IsOneTooLong order source tables) c.value_in_tables.ensures.carries.reads c.in_err-value-2.ensures.refused c.in_err-value-2.ensures.still)

pub returns-in_err-value-2-clause-caused : goal.returns-in_err-value-2-clause-caused
returns-in_err-value-2-clause-caused g c =
    let p = err_from_is_err_and c.from_residual-in_err-value-2.result c.from_residual-in_err-value-2.ensures.1 in
    let order = order_of g.K.KeyOrder.name g.K.KeyOrder.cmp in
    let source = seen_of g.S.Store.facts c.args.source.now in
    let tables = c.deref-2.result.now.tables in
    let db = open_db c.args.source.now.memory c.args.self.now in
    rw (p.1, p.2) (caused_err (Option (List ℕ)) db c.args.snapshot c.in_ok-sequence.sequence c.args.source.now.tables.store c.value_in_tables.new.source.store c.in_err-value-2.field-0.0
    source.facts (g.S.Store.facts c.value_in_tables.new.source.store) (HasNoTablesOf order source tables) (IsOneTooLong order source tables)
    c.if-self.false (found_at (sequence_at db c.args.snapshot) c.in_ok-sequence.sequence c.in_ok-sequence.ensures) c.in_err-value-2.ensures.refused)

pub returns-in_err-value-2-clause-leaves : goal.returns-in_err-value-2-clause-leaves
returns-in_err-value-2-clause-leaves g c = reads_leave (g.S.Store.facts c.args.source.now.tables.store) (g.S.Store.facts c.value_in_tables.new.source.store) c.value_in_tables.ensures.carries.reads

pub returns-in_err-value-2-clause-read : goal.returns-in_err-value-2-clause-read
returns-in_err-value-2-clause-read g c =
    let p = err_from_is_err_and c.from_residual-in_err-value-2.result c.from_residual-in_err-value-2.ensures.1 in
    subst (λ (r : Result (Option (List ℕ)) DbError). IsReadBy c.args.key.now c.args.snapshot (open_db c.args.source.now.memory c.args.self.now) r) (sym p.1) tt

pub returns-in-Some-2-clause-step : goal.returns-in-Some-2-clause-step
returns-in-Some-2-clause-step g c ids =
    let order = order_of g.K.KeyOrder.name g.K.KeyOrder.cmp in
    let source = seen_of g.S.Store.facts c.args.source.now in
    let new = seen (g.S.Store.facts c.value_in_tables.new.source.store) c.value_in_tables.new.source.tables c.value_in_tables.new.source.blocks in
    let db = open_db c.args.source.now.memory c.args.self.now in
    let at = found_at (sequence_at db c.args.snapshot) c.in_ok-sequence.sequence c.in_ok-sequence.ensures in
    let unseen : IsAnswer (logged_in db.memory) c.in_ok-sequence.sequence c.args.key.now None =
    subst (λ (o : Option (Option (List ℕ))). IsAnswer (logged_in db.memory) c.in_ok-sequence.sequence c.args.key.now o) c.in_default.is c.in_ok-value.ensures in
    let says = subst (λ (v : Placement). SaysOfEach order source new v.tables c.args.key.now c.at_most-below.result c.in_ok-value-2.field-0) c.deref-2.ensures c.in_ok-value-2.ensures.may in
    tables_read order (λ scan. scan_kept order.cmp scan) c.version_of_directory.ensures g.met.K.KeyOrder.total g.met.K.KeyOrder.exact source new ids db c.args.key.now c.args.snapshot c.in_ok-sequence.sequence c.at_most-below.result
    c.if-self.false at (λ below. c.at_most-below.ensures.kept (omega (arith, below, c.last.ensures.is))) c.value_in_tables.ensures.carries (gathers_of db source new (subst (λ (v : Placement). Gathers (λ number. HasNumber number v.tables) source new) c.deref-2.ensures c.value_in_tables.ensures.carries.gathered))
    c.newest_in_front.ensures c.unseen_in_front.ensures c.same_view.ensures unseen (Some c.in-Some-2.value) (subst (λ (o : Option (Option (List ℕ))). SaysOfEach order source new db.tables c.args.key.now c.at_most-below.result o) c.in-Some-2.is says)

pub returns-in-Some-2-clause-outcome : goal.returns-in-Some-2-clause-outcome
returns-in-Some-2-clause-outcome g c =
    outcome_ok (g.S.Store.facts c.args.source.now.tables.store) (g.S.Store.facts c.value_in_tables.new.source.store) (open_db c.args.source.now.memory c.args.self.now) c.in-Some-2.value c.value_in_tables.ensures.carries.reads

pub returns-in-Some-2-clause-caused : goal.returns-in-Some-2-clause-caused
returns-in-Some-2-clause-caused g c =
    let db = open_db c.args.source.now.memory c.args.self.now in
    caused_ok db c.args.snapshot c.in_ok-sequence.sequence c.args.source.now.tables.store c.value_in_tables.new.source.store c.in-Some-2.value c.if-self.false (found_at (sequence_at db c.args.snapshot) c.in_ok-sequence.sequence c.in_ok-sequence.ensures)

pub returns-in-Some-2-clause-leaves : goal.returns-in-Some-2-clause-leaves
returns-in-Some-2-clause-leaves g c = reads_leave (g.S.Store.facts c.args.source.now.tables.store) (g.S.Store.facts c.value_in_tables.new.source.store) c.value_in_tables.ensures.carries.reads

pub returns-in-Some-2-clause-read : goal.returns-in-Some-2-clause-read
returns-in-Some-2-clause-read g c =
    let db = open_db c.args.source.now.memory c.args.self.now in
    let unseen : IsAnswer (logged_in db.memory) c.in_ok-sequence.sequence c.args.key.now None =
    subst (λ (o : Option (Option (List ℕ))). IsAnswer (logged_in db.memory) c.in_ok-sequence.sequence c.args.key.now o) c.in_default.is c.in_ok-value.ensures in
    let long : length c.tables.result.now ≢ 0 = grind (arith, nat_tests, c.if-is_empty.ensures) in
    let same : c.tables.result.now ≡ c.args.self.now.version.value.tables = c.tables.ensures.is ∙ ap (λ (v : Placement). v.tables) c.deref.ensures in (
      c.in_ok-sequence.sequence,
      found_at (sequence_at db c.args.snapshot) c.in_ok-sequence.sequence c.in_ok-sequence.ensures,
      reads_behind db c.in_ok-sequence.sequence c.args.key.now c.in-Some-2.value unseen (λ none. long (ap (λ (ps : List PlacedTable). length ps) (same ∙ none))),
    )

pub returns-in-None-clause-step : goal.returns-in-None-clause-step
returns-in-None-clause-step g c ids =
    let order = order_of g.K.KeyOrder.name g.K.KeyOrder.cmp in
    let source = seen_of g.S.Store.facts c.args.source.now in
    let new = seen (g.S.Store.facts c.value_in_tables.new.source.store) c.value_in_tables.new.source.tables c.value_in_tables.new.source.blocks in
    let db = open_db c.args.source.now.memory c.args.self.now in
    let at = found_at (sequence_at db c.args.snapshot) c.in_ok-sequence.sequence c.in_ok-sequence.ensures in
    let unseen : IsAnswer (logged_in db.memory) c.in_ok-sequence.sequence c.args.key.now None =
    subst (λ (o : Option (Option (List ℕ))). IsAnswer (logged_in db.memory) c.in_ok-sequence.sequence c.args.key.now o) c.in_default.is c.in_ok-value.ensures in
    let says = subst (λ (v : Placement). SaysOfEach order source new v.tables c.args.key.now c.at_most-below.result c.in_ok-value-2.field-0) c.deref-2.ensures c.in_ok-value-2.ensures.may in
    tables_read order (λ scan. scan_kept order.cmp scan) c.version_of_directory.ensures g.met.K.KeyOrder.total g.met.K.KeyOrder.exact source new ids db c.args.key.now c.args.snapshot c.in_ok-sequence.sequence c.at_most-below.result
    c.if-self.false at (λ below. c.at_most-below.ensures.kept (omega (arith, below, c.last.ensures.is))) c.value_in_tables.ensures.carries (gathers_of db source new (subst (λ (v : Placement). Gathers (λ number. HasNumber number v.tables) source new) c.deref-2.ensures c.value_in_tables.ensures.carries.gathered))
    c.newest_in_front.ensures c.unseen_in_front.ensures c.same_view.ensures unseen None (subst (λ (o : Option (Option (List ℕ))). SaysOfEach order source new db.tables c.args.key.now c.at_most-below.result o) c.in-None.is says)

pub returns-in-None-clause-outcome : goal.returns-in-None-clause-outcome
returns-in-None-clause-outcome g c =
    outcome_ok (g.S.Store.facts c.args.source.now.tables.store) (g.S.Store.facts c.value_in_tables.new.source.store) (open_db c.args.source.now.memory c.args.self.now) None c.value_in_tables.ensures.carries.reads

pub returns-in-None-clause-caused : goal.returns-in-None-clause-caused
returns-in-None-clause-caused g c =
    let db = open_db c.args.source.now.memory c.args.self.now in
    caused_ok db c.args.snapshot c.in_ok-sequence.sequence c.args.source.now.tables.store c.value_in_tables.new.source.store None c.if-self.false (found_at (sequence_at db c.args.snapshot) c.in_ok-sequence.sequence c.in_ok-sequence.ensures)

pub returns-in-None-clause-leaves : goal.returns-in-None-clause-leaves
returns-in-None-clause-leaves g c = reads_leave (g.S.Store.facts c.args.source.now.tables.store) (g.S.Store.facts c.value_in_tables.new.source.store) c.value_in_tables.ensures.carries.reads

pub returns-in-None-clause-read : goal.returns-in-None-clause-read
returns-in-None-clause-read g c =
    let db = open_db c.args.source.now.memory c.args.self.now in
    let unseen : IsAnswer (logged_in db.memory) c.in_ok-sequence.sequence c.args.key.now None =
    subst (λ (o : Option (Option (List ℕ))). IsAnswer (logged_in db.memory) c.in_ok-sequence.sequence c.args.key.now o) c.in_default.is c.in_ok-value.ensures in
    let long : length c.tables.result.now ≢ 0 = grind (arith, nat_tests, c.if-is_empty.ensures) in
    let same : c.tables.result.now ≡ c.args.self.now.version.value.tables = c.tables.ensures.is ∙ ap (λ (v : Placement). v.tables) c.deref.ensures in (
      c.in_ok-sequence.sequence,
      found_at (sequence_at db c.args.snapshot) c.in_ok-sequence.sequence c.in_ok-sequence.ensures,
      reads_behind db c.in_ok-sequence.sequence c.args.key.now None unseen (λ none. long (ap (λ (ps : List PlacedTable). length ps) (same ∙ none))),
    )

pub value_in_tables-requires : goal.value_in_tables-requires
value_in_tables-requires g c = omega (arith, c.at_most-below.ensures.within, c.last.ensures.is, c.last.ensures.fits)

pub returns-in_err-value-2-clause-gathered : goal.returns-in_err-value-2-clause-gathered
returns-in_err-value-2-clause-gathered g c =
    let source = seen_of g.S.Store.facts c.args.source.now in
    let new = seen (g.S.Store.facts c.value_in_tables.new.source.store) c.value_in_tables.new.source.tables c.value_in_tables.new.source.blocks in
    subst (λ (v : Placement). Gathers (λ number. HasNumber number v.tables) source new) c.deref-2.ensures c.value_in_tables.ensures.carries.gathered

pub returns-in-Some-2-clause-gathered : goal.returns-in-Some-2-clause-gathered
returns-in-Some-2-clause-gathered g c =
    let source = seen_of g.S.Store.facts c.args.source.now in
    let new = seen (g.S.Store.facts c.value_in_tables.new.source.store) c.value_in_tables.new.source.tables c.value_in_tables.new.source.blocks in
    subst (λ (v : Placement). Gathers (λ number. HasNumber number v.tables) source new) c.deref-2.ensures c.value_in_tables.ensures.carries.gathered

pub returns-in-None-clause-gathered : goal.returns-in-None-clause-gathered
returns-in-None-clause-gathered g c =
    let source = seen_of g.S.Store.facts c.args.source.now in
    let new = seen (g.S.Store.facts c.value_in_tables.new.source.store) c.value_in_tables.new.source.tables c.value_in_tables.new.source.blocks in
    subst (λ (v : Placement). Gathers (λ number. HasNumber number v.tables) source new) c.deref-2.ensures c.value_in_tables.ensures.carries.gathered
