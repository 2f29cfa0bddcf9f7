use Rattle.std.proofs.Common.{◌≡◌, ◌+◌, ◌*◌, List, [], Result, Ok, Err, sym, ap, subst, ◌∙◌, arith, rules}
use Rattle.coding.specs.declared.error.DbError.{DbError}
use Rattle.coding.specs.declared.error.DbError.TheVariants.{OutOfMemory}
use Rattle.ikey.specs.Orders.{order_of}
use Rattle.edits.specs.declared.field.PlacedTable.{PlacedTable}
use Rattle.versions.specs.Levels.{Placement}
use Rattle.versions.specs.Plans.{IsWholePlan}
use Rattle.engine.specs.declared.ids.Ids.{Ids}
use Rattle.engine.specs.Finishing.{CompactOutcome}
use Rattle.engine.specs.internal.JobsToEnd.{beyond}
use Rattle.engine.specs.internal.Leading.{LeadsOpen}
use Rattle.engine.specs.OpenDb.{open_db}
use Rattle.db_cursor.specs.Whole.{seen_of}
use Rattle.machine.specs.Machine.{entry_count}
use Rattle.machine.specs.Upkeep.{most_drawn}
use Rattle.engine.specs.internal.Pieces.{IsPiece, MayRefusePiece}
use Rattle.engine.proofs.Emptied.{all_last, beyond_most, memory_left, none_there, on_ok}
use Rattle.engine.proofs.Finishing.{outcome_all, outcome_done, outcome_then, serves_then, stays_done, stays_full, then_bound, within_bound}
use Rattle.engine.proofs.WorkAnswers.{of_none, of_some}
use Rattle.engine.proofs.Flags.{piece_flag}
use Rattle.engine.proofs.NeededEnds.{needed_behind, needed_none}
use Rattle.engine.proofs.Breaking.{breaks_as, breaks_then, handed_on, unbroken}
use Rattle.engine.proofs.StopSteps.{keeps_then}
use Rattle.engine.specs.Stands.{no_ids}
use Rattle.engine.proofs.state.DbState.compact_everything.Goals as goal

pub returns-in_err-run_job_to_end-clause-step : goal.returns-in_err-run_job_to_end-clause-step
returns-in_err-run_job_to_end-clause-step g c ids =
    let order = order_of g.K.KeyOrder.name g.K.KeyOrder.cmp in
    let old = seen_of g.S.Store.facts c.args.source.now in
    let before = open_db c.args.source.now.memory c.args.self.now in
    let new = seen_of g.S.Store.facts c.run_job_to_end.new.source in
    let after = open_db c.run_job_to_end.new.source.memory c.run_job_to_end.new.self in
    let e = c.in_err-run_job_to_end.field-0.0 in
    let said : c.from_residual.result ≡ Err e = search rules in
    subst (λ (r : Result _ DbError). LeadsOpen order old new ids before after (λ m n. IsPiece m (most_drawn m) r n)) (sym said)
    (within_bound order old new ids before after (λ k. k + 1) (λ k. 4 + 2 * k) (Err e) (λ k. omega arith) (c.in_err-run_job_to_end.ensures.step ids))

pub returns-in_err-run_job_to_end-clause-outcome : goal.returns-in_err-run_job_to_end-clause-outcome
returns-in_err-run_job_to_end-clause-outcome g c =
    let facts = g.S.Store.facts in
    let e = c.in_err-run_job_to_end.field-0.0 in
    let said : c.from_residual.result ≡ Err e = search rules in
    subst (λ (r : Result _ DbError). CompactOutcome MayRefusePiece (facts c.args.source.now.tables.store) (facts c.run_job_to_end.new.source.tables.store) (open_db c.args.source.now.memory c.args.self.now) (open_db c.run_job_to_end.new.source.memory c.run_job_to_end.new.self) r)
    (sym said) c.in_err-run_job_to_end.ensures.outcome

pub returns-in_err-write_memory-clause-step : goal.returns-in_err-write_memory-clause-step
returns-in_err-write_memory-clause-step g c ids =
    let order = order_of g.K.KeyOrder.name g.K.KeyOrder.cmp in
    let old = seen_of g.S.Store.facts c.args.source.now in
    let before = open_db c.args.source.now.memory c.args.self.now in
    let mid = seen_of g.S.Store.facts c.run_job_to_end.new.source in
    let between = open_db c.run_job_to_end.new.source.memory c.run_job_to_end.new.self in
    let new = seen_of g.S.Store.facts c.write_memory.new.source in
    let after = open_db c.write_memory.new.source.memory c.write_memory.new.self in
    let e = c.in_err-write_memory.field-0.0 in
    let said : c.from_residual-in_err-write_memory.result ≡ Err e = search rules in
    subst (λ (r : Result _ DbError). LeadsOpen order old new ids before after (λ m n. IsPiece m (most_drawn m) r n)) (sym said)
    (within_bound order old new ids before after (λ k. (k + 0) + 3) (λ k. 4 + 2 * k) (Err e) (λ k. omega arith)
    (then_bound order old mid new ids before between after (λ k. k + 0) (λ k. 3) (tt {0}) (Err e) (c.in_ok-run_job_to_end.ensures.step ids) (c.in_err-write_memory.ensures.step ids)))

pub returns-in_err-write_memory-clause-outcome : goal.returns-in_err-write_memory-clause-outcome
returns-in_err-write_memory-clause-outcome g c =
    let facts = g.S.Store.facts in
    let old = facts c.args.source.now.tables.store in
    let mid = facts c.run_job_to_end.new.source.tables.store in
    let new = facts c.write_memory.new.source.tables.store in
    let before = open_db c.args.source.now.memory c.args.self.now in
    let between = open_db c.run_job_to_end.new.source.memory c.run_job_to_end.new.self in
    let after = open_db c.write_memory.new.source.memory c.write_memory.new.self in
    let e = c.in_err-write_memory.field-0.0 in
    let said : c.from_residual-in_err-write_memory.result ≡ Err e = search rules in
    subst (λ (r : Result _ DbError). CompactOutcome MayRefusePiece old new before after r) (sym said)
    (outcome_then MayRefusePiece old mid new before between after (Err e) c.requires.whole c.in_ok-run_job_to_end.ensures.serves c.in_err-write_memory.ensures.outcome)

pub returns-in_err-plan-clause-step : goal.returns-in_err-plan-clause-step
returns-in_err-plan-clause-step g c ids =
    let order = order_of g.K.KeyOrder.name g.K.KeyOrder.cmp in
    let old = seen_of g.S.Store.facts c.args.source.now in
    let before = open_db c.args.source.now.memory c.args.self.now in
    let mid = seen_of g.S.Store.facts c.run_job_to_end.new.source in
    let first = open_db c.run_job_to_end.new.source.memory c.run_job_to_end.new.self in
    let later = seen_of g.S.Store.facts c.write_memory.new.source in
    let second = open_db c.write_memory.new.source.memory c.write_memory.new.self in
    let said : c.from_residual-in_err-plan.result ≡ Err OutOfMemory = search rules in
    subst (λ (r : Result _ DbError). LeadsOpen order old later ids before second (λ m n. IsPiece m (most_drawn m) r n)) (sym said)
    (within_bound order old later ids before second (λ k. (k + 0) + 3 + 0) (λ k. 4 + 2 * k) (Err OutOfMemory) (λ k. omega arith)
    (then_bound order old later later ids before second second (λ k. (k + 0) + 3) (λ k. 0) (tt {0}) (Err OutOfMemory) (then_bound order old mid later ids before first second (λ k. k + 0) (λ k. 3) (tt {0}) (Ok (tt {0})) (c.in_ok-run_job_to_end.ensures.step ids) (c.in_ok-write_memory.ensures.step ids)) (stays_full order later ids second (λ k. 0))))

pub returns-in_err-plan-clause-outcome : goal.returns-in_err-plan-clause-outcome
returns-in_err-plan-clause-outcome g c =
    let facts = g.S.Store.facts in
    let old = facts c.args.source.now.tables.store in
    let mid = facts c.run_job_to_end.new.source.tables.store in
    let later = facts c.write_memory.new.source.tables.store in
    let before = open_db c.args.source.now.memory c.args.self.now in
    let first = open_db c.run_job_to_end.new.source.memory c.run_job_to_end.new.self in
    let second = open_db c.write_memory.new.source.memory c.write_memory.new.self in
    let serves = serves_then old mid later before first second c.in_ok-run_job_to_end.ensures.serves c.in_ok-write_memory.ensures.serves in
    let said : c.from_residual-in_err-plan.result ≡ Err OutOfMemory = search rules in
    subst (λ (r : Result _ DbError). CompactOutcome MayRefusePiece old later before second r) (sym said) (outcome_all old later before second c.requires.whole serves)

pub returns-in_default-clause-step : goal.returns-in_default-clause-step
returns-in_default-clause-step g c ids =
    let order = order_of g.K.KeyOrder.name g.K.KeyOrder.cmp in
    let old = seen_of g.S.Store.facts c.args.source.now in
    let before = open_db c.args.source.now.memory c.args.self.now in
    let mid = seen_of g.S.Store.facts c.run_job_to_end.new.source in
    let first = open_db c.run_job_to_end.new.source.memory c.run_job_to_end.new.self in
    let later = seen_of g.S.Store.facts c.write_memory.new.source in
    let second = open_db c.write_memory.new.source.memory c.write_memory.new.self in
    within_bound order old later ids before second (λ k. (k + 0) + 3) (λ k. 4 + 2 * k) (Ok (tt {0})) (λ k. omega arith) (then_bound order old mid later ids before first second (λ k. k + 0) (λ k. 3) (tt {0}) (Ok (tt {0})) (c.in_ok-run_job_to_end.ensures.step ids) (c.in_ok-write_memory.ensures.step ids))

pub returns-in_default-clause-outcome : goal.returns-in_default-clause-outcome
returns-in_default-clause-outcome g c =
    let facts = g.S.Store.facts in
    let old = facts c.args.source.now.tables.store in
    let mid = facts c.run_job_to_end.new.source.tables.store in
    let later = facts c.write_memory.new.source.tables.store in
    let before = open_db c.args.source.now.memory c.args.self.now in
    let first = open_db c.run_job_to_end.new.source.memory c.run_job_to_end.new.self in
    let second = open_db c.write_memory.new.source.memory c.write_memory.new.self in
    let serves = serves_then old mid later before first second c.in_ok-run_job_to_end.ensures.serves c.in_ok-write_memory.ensures.serves in
    outcome_done MayRefusePiece old later before second (tt {0}) c.requires.whole serves

pub returns-clause-step : goal.returns-clause-step
returns-clause-step g c ids =
    let order = order_of g.K.KeyOrder.name g.K.KeyOrder.cmp in
    let old = seen_of g.S.Store.facts c.args.source.now in
    let before = open_db c.args.source.now.memory c.args.self.now in
    let mid = seen_of g.S.Store.facts c.run_job_to_end.new.source in
    let first = open_db c.run_job_to_end.new.source.memory c.run_job_to_end.new.self in
    let later = seen_of g.S.Store.facts c.write_memory.new.source in
    let second = open_db c.write_memory.new.source.memory c.write_memory.new.self in
    let new = seen_of g.S.Store.facts c.run_job.new.source in
    let after = open_db c.run_job.new.source.memory c.run_job.new.self in
    let r = c.run_job.result in
    within_bound order old new ids before after (λ k. (k + 0) + 3 + (k + beyond r)) (λ k. 4 + 2 * k) r (λ k. (let most = beyond_most r in omega (arith, most)))
    (then_bound order old later new ids before second after (λ k. (k + 0) + 3) (λ k. k + beyond r) (tt {0}) r (then_bound order old mid later ids before first second (λ k. k + 0) (λ k. 3) (tt {0}) (Ok (tt {0})) (c.in_ok-run_job_to_end.ensures.step ids) (c.in_ok-write_memory.ensures.step ids)) (c.run_job.ensures.step ids))

pub returns-clause-outcome : goal.returns-clause-outcome
returns-clause-outcome g c =
    let facts = g.S.Store.facts in
    let old = facts c.args.source.now.tables.store in
    let mid = facts c.run_job_to_end.new.source.tables.store in
    let later = facts c.write_memory.new.source.tables.store in
    let before = open_db c.args.source.now.memory c.args.self.now in
    let first = open_db c.run_job_to_end.new.source.memory c.run_job_to_end.new.self in
    let second = open_db c.write_memory.new.source.memory c.write_memory.new.self in
    let serves = serves_then old mid later before first second c.in_ok-run_job_to_end.ensures.serves c.in_ok-write_memory.ensures.serves in
    outcome_then MayRefusePiece old later (facts c.run_job.new.source.tables.store) before second (open_db c.run_job.new.source.memory c.run_job.new.self) c.run_job.result c.requires.whole serves c.run_job.ensures.outcome

pub returns-in_default-clause-compacted : goal.returns-in_default-clause-compacted
returns-in_default-clause-compacted g c =
    let tables = c.write_memory.new.self.version.value.tables in
    let tables_are : c.deref.result.now.tables ≡ tables = ap (λ (p : Placement). p.tables) c.deref.ensures in
    let none = of_none (c.deref.result.now.tables ≡ []) (IsWholePlan c.deref.result.now.tables) c.in_ok-plan.field-0 c.in_default.is c.in_ok-plan.ensures in
    record { memory = c.in_ok-write_memory.ensures.written; levels = none_there tables (sym tables_are ∙ none) }

pub returns-clause-compacted : goal.returns-clause-compacted
returns-clause-compacted g c =
    let tables = c.write_memory.new.self.version.value.tables in
    let plan = c.in-Some.plan in
    let tables_are : c.deref.result.now.tables ≡ tables = ap (λ (p : Placement). p.tables) c.deref.ensures in
    let planned = of_some (c.deref.result.now.tables ≡ []) (IsWholePlan c.deref.result.now.tables) c.in_ok-plan.field-0 plan c.in-Some.is c.in_ok-plan.ensures in
    on_ok c.run_job.result (λ h. record {
      memory = memory_left (open_db c.write_memory.new.source.memory c.write_memory.new.self) (open_db c.run_job.new.source.memory c.run_job.new.self) c.run_job.ensures.memory c.in_ok-write_memory.ensures.written;
      levels = all_last tables c.run_job.new.self.version.value.tables plan (subst (λ (ts : List PlacedTable). IsWholePlan ts plan) tables_are planned) h;
    }) c.run_job.ensures.done

pub returns-in_default-clause-needed : goal.returns-in_default-clause-needed
returns-in_default-clause-needed g c =
    let order = order_of g.K.KeyOrder.name g.K.KeyOrder.cmp in
    let old = seen_of g.S.Store.facts c.args.source.now in
    let before = open_db c.args.source.now.memory c.args.self.now in
    let mid = seen_of g.S.Store.facts c.run_job_to_end.new.source in
    let first = open_db c.run_job_to_end.new.source.memory c.run_job_to_end.new.self in
    let later = seen_of g.S.Store.facts c.write_memory.new.source in
    let second = open_db c.write_memory.new.source.memory c.write_memory.new.self in
    let tables_are : c.deref.result.now.tables ≡ second.tables = ap (λ (p : Placement). p.tables) c.deref.ensures in
    let none = of_none (c.deref.result.now.tables ≡ []) (IsWholePlan c.deref.result.now.tables) c.in_ok-plan.field-0 c.in_default.is c.in_ok-plan.ensures in
    let written = c.in_ok-write_memory.ensures in
    needed_behind order old mid later before first second c.in_ok-run_job_to_end.ensures.step (λ m n h. piece_flag m n _ _ h) written.step
    (needed_behind order mid later later first second second written.step (λ m n h. piece_flag m n _ _ h) (λ ids. stays_done order later ids second (λ e. 0) (tt {0})) (needed_none order later second written.serves.whole (sym tables_are ∙ none)))

pub returns-clause-needed : goal.returns-clause-needed
returns-clause-needed g c =
    let order = order_of g.K.KeyOrder.name g.K.KeyOrder.cmp in
    let old = seen_of g.S.Store.facts c.args.source.now in
    let before = open_db c.args.source.now.memory c.args.self.now in
    let mid = seen_of g.S.Store.facts c.run_job_to_end.new.source in
    let first = open_db c.run_job_to_end.new.source.memory c.run_job_to_end.new.self in
    let later = seen_of g.S.Store.facts c.write_memory.new.source in
    let second = open_db c.write_memory.new.source.memory c.write_memory.new.self in
    let new = seen_of g.S.Store.facts c.run_job.new.source in
    let after = open_db c.run_job.new.source.memory c.run_job.new.self in
    let plan = c.in-Some.plan in
    let tables_are : c.deref.result.now.tables ≡ second.tables = ap (λ (p : Placement). p.tables) c.deref.ensures in
    let planned = of_some (c.deref.result.now.tables ≡ []) (IsWholePlan c.deref.result.now.tables) c.in_ok-plan.field-0 plan c.in-Some.is c.in_ok-plan.ensures in
    let written = c.in_ok-write_memory.ensures.step in
    let behind : (ids : Ids) → LeadsOpen order old later ids before second (λ m n. IsPiece m (entry_count m + 0 + 3) (Ok (tt {0})) n) =
    λ ids. then_bound order old mid later ids before first second (λ k. k + 0) (λ k. 3) (tt {0}) (Ok (tt {0})) (c.in_ok-run_job_to_end.ensures.step ids) (written ids) in
    on_ok c.run_job.result (λ ends. needed_behind order old later new before second after behind (λ m n h. piece_flag m n _ _ h) c.run_job.ensures.step (ends (subst (λ (ts : List PlacedTable). IsWholePlan ts plan) tables_are planned))) c.run_job.ensures.needed

pub returns-in_err-run_job_to_end-clause-breaks : goal.returns-in_err-run_job_to_end-clause-breaks
returns-in_err-run_job_to_end-clause-breaks g c = breaks_as (g.S.Store.facts c.args.source.now.tables.store) (g.S.Store.facts c.run_job_to_end.new.source.tables.store) c.run_job_to_end.new.self.broken (λ is. handed_on c.in_err-run_job_to_end.field-0.0 c.from_residual.result (search rules) is) c.in_err-run_job_to_end.ensures.breaks

pub returns-in_err-write_memory-clause-breaks : goal.returns-in_err-write_memory-clause-breaks
returns-in_err-write_memory-clause-breaks g c = breaks_then (g.S.Store.facts c.args.source.now.tables.store) (g.S.Store.facts c.run_job_to_end.new.source.tables.store) (g.S.Store.facts c.write_memory.new.source.tables.store) c.write_memory.new.self.broken c.in_ok-run_job_to_end.ensures.serves.unwritten (λ is. handed_on c.in_err-write_memory.field-0.0 c.from_residual-in_err-write_memory.result (search rules) is) c.in_err-write_memory.ensures.breaks

pub returns-in_err-plan-clause-breaks : goal.returns-in_err-plan-clause-breaks
returns-in_err-plan-clause-breaks g c = unbroken (g.S.Store.facts c.args.source.now.tables.store) (g.S.Store.facts c.write_memory.new.source.tables.store) c.write_memory.new.self.broken c.in_ok-write_memory.ensures.serves.whole (c.in_ok-write_memory.ensures.serves.unwritten ∙ c.in_ok-run_job_to_end.ensures.serves.unwritten)

pub returns-in_default-clause-breaks : goal.returns-in_default-clause-breaks
returns-in_default-clause-breaks g c = unbroken (g.S.Store.facts c.args.source.now.tables.store) (g.S.Store.facts c.write_memory.new.source.tables.store) c.write_memory.new.self.broken c.in_ok-write_memory.ensures.serves.whole (c.in_ok-write_memory.ensures.serves.unwritten ∙ c.in_ok-run_job_to_end.ensures.serves.unwritten)

pub returns-clause-breaks : goal.returns-clause-breaks
returns-clause-breaks g c = breaks_then (g.S.Store.facts c.args.source.now.tables.store) (g.S.Store.facts c.write_memory.new.source.tables.store) (g.S.Store.facts c.run_job.new.source.tables.store) c.run_job.new.self.broken (c.in_ok-write_memory.ensures.serves.unwritten ∙ c.in_ok-run_job_to_end.ensures.serves.unwritten) (λ is. is) c.run_job.ensures.breaks

-- ---- what a process crash leaves

pub returns-in_err-run_job_to_end-clause-stops : goal.returns-in_err-run_job_to_end-clause-stops
returns-in_err-run_job_to_end-clause-stops g c = c.in_err-run_job_to_end.ensures.stops

pub returns-in_err-write_memory-clause-stops : goal.returns-in_err-write_memory-clause-stops
returns-in_err-write_memory-clause-stops g c =
    keeps_then (order_of g.K.KeyOrder.name g.K.KeyOrder.cmp) (seen_of g.S.Store.facts c.args.source.now) (seen_of g.S.Store.facts c.run_job_to_end.new.source) (seen_of g.S.Store.facts c.write_memory.new.source) (open_db c.args.source.now.memory c.args.self.now) (open_db c.run_job_to_end.new.source.memory c.run_job_to_end.new.self) (λ m. entry_count m + 0) (tt {0})
    c.in_ok-run_job_to_end.ensures.step (c.in_err-write_memory.ensures.step no_ids).faithful
    c.in_ok-run_job_to_end.ensures.stops c.in_err-write_memory.ensures.stops

pub returns-in_err-plan-clause-stops : goal.returns-in_err-plan-clause-stops
returns-in_err-plan-clause-stops g c =
    keeps_then (order_of g.K.KeyOrder.name g.K.KeyOrder.cmp) (seen_of g.S.Store.facts c.args.source.now) (seen_of g.S.Store.facts c.run_job_to_end.new.source) (seen_of g.S.Store.facts c.write_memory.new.source) (open_db c.args.source.now.memory c.args.self.now) (open_db c.run_job_to_end.new.source.memory c.run_job_to_end.new.self) (λ m. entry_count m + 0) (tt {0})
    c.in_ok-run_job_to_end.ensures.step (c.in_ok-write_memory.ensures.step no_ids).faithful
    c.in_ok-run_job_to_end.ensures.stops c.in_ok-write_memory.ensures.stops

pub returns-in_default-clause-stops : goal.returns-in_default-clause-stops
returns-in_default-clause-stops g c =
    keeps_then (order_of g.K.KeyOrder.name g.K.KeyOrder.cmp) (seen_of g.S.Store.facts c.args.source.now) (seen_of g.S.Store.facts c.run_job_to_end.new.source) (seen_of g.S.Store.facts c.write_memory.new.source) (open_db c.args.source.now.memory c.args.self.now) (open_db c.run_job_to_end.new.source.memory c.run_job_to_end.new.self) (λ m. entry_count m + 0) (tt {0})
    c.in_ok-run_job_to_end.ensures.step (c.in_ok-write_memory.ensures.step no_ids).faithful
    c.in_ok-run_job_to_end.ensures.stops c.in_ok-write_memory.ensures.stops

pub returns-clause-stops : goal.returns-clause-stops
returns-clause-stops g c =
    let back = (c.run_job.ensures.step no_ids).faithful in
    let later = (c.in_ok-write_memory.ensures.step no_ids).faithful in
    keeps_then (order_of g.K.KeyOrder.name g.K.KeyOrder.cmp) (seen_of g.S.Store.facts c.args.source.now) (seen_of g.S.Store.facts c.run_job_to_end.new.source) (seen_of g.S.Store.facts c.run_job.new.source) (open_db c.args.source.now.memory c.args.self.now) (open_db c.run_job_to_end.new.source.memory c.run_job_to_end.new.self) (λ m. entry_count m + 0) (tt {0}) c.in_ok-run_job_to_end.ensures.step (λ f. later (back f)) c.in_ok-run_job_to_end.ensures.stops
    (keeps_then (order_of g.K.KeyOrder.name g.K.KeyOrder.cmp) (seen_of g.S.Store.facts c.run_job_to_end.new.source) (seen_of g.S.Store.facts c.write_memory.new.source) (seen_of g.S.Store.facts c.run_job.new.source) (open_db c.run_job_to_end.new.source.memory c.run_job_to_end.new.self) (open_db c.write_memory.new.source.memory c.write_memory.new.self) (λ m. 3) (tt {0}) c.in_ok-write_memory.ensures.step back c.in_ok-write_memory.ensures.stops c.run_job.ensures.stops)
