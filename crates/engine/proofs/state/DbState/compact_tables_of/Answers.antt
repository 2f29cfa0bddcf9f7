use Rattle.std.proofs.Common.{◌≡◌, ◌+◌, ◌*◌, List, [], Result, Ok, Err, sym, ap, subst, arith, rules}
use Rattle.coding.specs.declared.error.DbError.{DbError}
use Rattle.coding.specs.declared.error.DbError.TheVariants.{OutOfMemory}
use Rattle.ikey.specs.Orders.{order_of}
use Rattle.edits.specs.declared.field.PlacedTable.{PlacedTable}
use Rattle.versions.specs.Levels.{Placement, tables_at}
use Rattle.versions.specs.Plans.{IsLevelPlan, IsPlanOf}
use Rattle.memtables.specs.PlaceLaws.{left_onward}
use Rattle.engine.specs.Finishing.{CompactOutcome}
use Rattle.engine.specs.internal.JobsToEnd.{beyond}
use Rattle.engine.specs.internal.Leading.{LeadsOpen}
use Rattle.engine.specs.OpenDb.{open_db}
use Rattle.db_cursor.specs.Whole.{seen_of}
use Rattle.machine.specs.Upkeep.{most_drawn}
use Rattle.engine.specs.internal.Pieces.{IsPiece, MayRefusePiece}
use Rattle.engine.proofs.Emptied.{beyond_most, both_ok, level_emptied, level_moved, level_unmoved, on_ok}
use Rattle.engine.proofs.Finishing.{outcome_all, outcome_done, outcome_then, stays_full, then_bound, within_bound}
use Rattle.engine.proofs.Flags.{piece_flag}
use Rattle.engine.proofs.NeededEnds.{merges_level, merges_none}
use Rattle.engine.proofs.WorkAnswers.{of_none, of_some}
use Rattle.engine.proofs.Breaking.{breaks_as, breaks_then, handed_on, serves_breaks}
use Rattle.engine.proofs.StopSteps.{keeps_then}
use Rattle.engine.specs.Stands.{no_ids}
use Rattle.machine.specs.Machine.{entry_count}
use Rattle.engine.proofs.state.DbState.compact_tables_of.Goals as goal

pub returns-in_err-run_job_to_end-clause-step : goal.returns-in_err-run_job_to_end-clause-step
returns-in_err-run_job_to_end-clause-step g c ids =
    let order = order_of g.K.KeyOrder.name g.K.KeyOrder.cmp in
    let old = seen_of g.S.Store.facts c.args.source.now in
    let before = open_db c.args.source.now.memory c.args.self.now in
    let new = seen_of g.S.Store.facts c.run_job_to_end.new.source in
    let after = open_db c.run_job_to_end.new.source.memory c.run_job_to_end.new.self in
    let e = c.in_err-run_job_to_end.field-0.0 in
    let said : c.from_residual.result ≡ Err e = search rules in
    subst (λ (r : Result _ DbError). LeadsOpen order old new ids before after (λ m n. IsPiece m (most_drawn m) r n)) (sym said)
    (within_bound order old new ids before after (λ k. k + 1) (λ k. 4 + 2 * k) (Err e) (λ k. omega arith) (c.in_err-run_job_to_end.ensures.step ids))

pub returns-in_err-run_job_to_end-clause-outcome : goal.returns-in_err-run_job_to_end-clause-outcome
returns-in_err-run_job_to_end-clause-outcome g c =
    let facts = g.S.Store.facts in
    let e = c.in_err-run_job_to_end.field-0.0 in
    let said : c.from_residual.result ≡ Err e = search rules in
    subst (λ (r : Result _ DbError). CompactOutcome MayRefusePiece (facts c.args.source.now.tables.store) (facts c.run_job_to_end.new.source.tables.store) (open_db c.args.source.now.memory c.args.self.now) (open_db c.run_job_to_end.new.source.memory c.run_job_to_end.new.self) r)
    (sym said) c.in_err-run_job_to_end.ensures.outcome

pub returns-in_err-plan-clause-step : goal.returns-in_err-plan-clause-step
returns-in_err-plan-clause-step g c ids =
    let order = order_of g.K.KeyOrder.name g.K.KeyOrder.cmp in
    let old = seen_of g.S.Store.facts c.args.source.now in
    let before = open_db c.args.source.now.memory c.args.self.now in
    let later = seen_of g.S.Store.facts c.run_job_to_end.new.source in
    let second = open_db c.run_job_to_end.new.source.memory c.run_job_to_end.new.self in
    let said : c.from_residual-in_err-plan.result ≡ Err OutOfMemory = search rules in
    subst (λ (r : Result _ DbError). LeadsOpen order old later ids before second (λ m n. IsPiece m (most_drawn m) r n)) (sym said)
    (within_bound order old later ids before second (λ k. k + 0 + 0) (λ k. 4 + 2 * k) (Err OutOfMemory) (λ k. omega arith)
    (then_bound order old later later ids before second second (λ k. k + 0) (λ k. 0) (tt {0}) (Err OutOfMemory) (c.in_ok-run_job_to_end.ensures.step ids) (stays_full order later ids second (λ k. 0))))

pub returns-in_err-plan-clause-outcome : goal.returns-in_err-plan-clause-outcome
returns-in_err-plan-clause-outcome g c =
    let facts = g.S.Store.facts in
    let old = facts c.args.source.now.tables.store in
    let later = facts c.run_job_to_end.new.source.tables.store in
    let before = open_db c.args.source.now.memory c.args.self.now in
    let second = open_db c.run_job_to_end.new.source.memory c.run_job_to_end.new.self in
    let serves = c.in_ok-run_job_to_end.ensures.serves in
    let said : c.from_residual-in_err-plan.result ≡ Err OutOfMemory = search rules in
    subst (λ (r : Result _ DbError). CompactOutcome MayRefusePiece old later before second r) (sym said) (outcome_all old later before second c.requires.whole serves)

pub returns-in_default-clause-step : goal.returns-in_default-clause-step
returns-in_default-clause-step g c ids =
    let order = order_of g.K.KeyOrder.name g.K.KeyOrder.cmp in
    let old = seen_of g.S.Store.facts c.args.source.now in
    let before = open_db c.args.source.now.memory c.args.self.now in
    let later = seen_of g.S.Store.facts c.run_job_to_end.new.source in
    let second = open_db c.run_job_to_end.new.source.memory c.run_job_to_end.new.self in
    within_bound order old later ids before second (λ k. k + 0) (λ k. 4 + 2 * k) (Ok (tt {0})) (λ k. omega arith) (c.in_ok-run_job_to_end.ensures.step ids)

pub returns-in_default-clause-outcome : goal.returns-in_default-clause-outcome
returns-in_default-clause-outcome g c =
    let facts = g.S.Store.facts in
    let old = facts c.args.source.now.tables.store in
    let later = facts c.run_job_to_end.new.source.tables.store in
    let before = open_db c.args.source.now.memory c.args.self.now in
    let second = open_db c.run_job_to_end.new.source.memory c.run_job_to_end.new.self in
    let serves = c.in_ok-run_job_to_end.ensures.serves in
    outcome_done MayRefusePiece old later before second (tt {0}) c.requires.whole serves

pub returns-clause-step : goal.returns-clause-step
returns-clause-step g c ids =
    let order = order_of g.K.KeyOrder.name g.K.KeyOrder.cmp in
    let old = seen_of g.S.Store.facts c.args.source.now in
    let before = open_db c.args.source.now.memory c.args.self.now in
    let later = seen_of g.S.Store.facts c.run_job_to_end.new.source in
    let second = open_db c.run_job_to_end.new.source.memory c.run_job_to_end.new.self in
    let new = seen_of g.S.Store.facts c.run_job.new.source in
    let after = open_db c.run_job.new.source.memory c.run_job.new.self in
    let r = c.run_job.result in
    within_bound order old new ids before after (λ k. k + 0 + (k + beyond r)) (λ k. 4 + 2 * k) r (λ k. (let most = beyond_most r in omega (arith, most)))
    (then_bound order old later new ids before second after (λ k. k + 0) (λ k. k + beyond r) (tt {0}) r (c.in_ok-run_job_to_end.ensures.step ids) (c.run_job.ensures.step ids))

pub returns-clause-outcome : goal.returns-clause-outcome
returns-clause-outcome g c =
    let facts = g.S.Store.facts in
    let old = facts c.args.source.now.tables.store in
    let later = facts c.run_job_to_end.new.source.tables.store in
    let before = open_db c.args.source.now.memory c.args.self.now in
    let second = open_db c.run_job_to_end.new.source.memory c.run_job_to_end.new.self in
    let serves = c.in_ok-run_job_to_end.ensures.serves in
    outcome_then MayRefusePiece old later (facts c.run_job.new.source.tables.store) before second (open_db c.run_job.new.source.memory c.run_job.new.self) c.run_job.result c.requires.whole serves c.run_job.ensures.outcome

pub returns-in_default-clause-emptied : goal.returns-in_default-clause-emptied
returns-in_default-clause-emptied g c =
    let cmp = g.K.KeyOrder.cmp in
    let level = c.args.level in
    let tables = c.run_job_to_end.new.self.version.value.tables in
    let tables_are : c.deref.result.now.tables ≡ tables = ap (λ (p : Placement). p.tables) c.deref.ensures in
    subst (λ (ts : List PlacedTable). tables_at level ts ≡ []) tables_are
    (of_none (tables_at level c.deref.result.now.tables ≡ []) (IsLevelPlan cmp c.deref.result.now.tables level) c.in_ok-plan.field-0 c.in_default.is c.in_ok-plan.ensures)

pub returns-clause-emptied : goal.returns-clause-emptied
returns-clause-emptied g c =
    let cmp = g.K.KeyOrder.cmp in
    let level = c.args.level in
    let plan = c.in-Some.plan in
    let tables = c.run_job_to_end.new.self.version.value.tables in
    let tables_are : c.deref.result.now.tables ≡ tables = ap (λ (p : Placement). p.tables) c.deref.ensures in
    let planned = of_some (tables_at level c.deref.result.now.tables ≡ []) (IsLevelPlan cmp c.deref.result.now.tables level) c.in_ok-plan.field-0 plan c.in-Some.is c.in_ok-plan.ensures in
    on_ok c.run_job.result (λ h. level_emptied cmp tables c.run_job.new.self.version.value.tables level plan (subst (λ (ts : List PlacedTable). IsLevelPlan cmp ts level plan) tables_are planned) h) c.run_job.ensures.done

pub returns-in_default-clause-moves : goal.returns-in_default-clause-moves
returns-in_default-clause-moves g c =
    let r = c.in_ok-run_job_to_end.ensures in
    level_unmoved g.K.KeyOrder.cmp c.args.level (open_db c.args.source.now.memory c.args.self.now) (open_db c.run_job_to_end.new.source.memory c.run_job_to_end.new.self) r.done r.stays r.none (returns-in_default-clause-emptied g c)

pub returns-clause-moves : goal.returns-clause-moves
returns-clause-moves g c =
    let cmp = g.K.KeyOrder.cmp in
    let level = c.args.level in
    let plan = c.in-Some.plan in
    let before = open_db c.args.source.now.memory c.args.self.now in
    let after = open_db c.run_job.new.source.memory c.run_job.new.self in
    let tables = c.run_job_to_end.new.self.version.value.tables in
    let tables_are : c.deref.result.now.tables ≡ tables = ap (λ (p : Placement). p.tables) c.deref.ensures in
    let planned = of_some (tables_at level c.deref.result.now.tables ≡ []) (IsLevelPlan cmp c.deref.result.now.tables level) c.in_ok-plan.field-0 plan c.in-Some.is c.in_ok-plan.ensures in
    let r = c.in_ok-run_job_to_end.ensures in
    both_ok c.run_job.result (λ idle done. level_moved cmp level before after tables plan r.done r.stays idle (subst (λ (ts : List PlacedTable). IsLevelPlan cmp ts level plan) tables_are planned) done) c.run_job.ensures.none c.run_job.ensures.done

pub run_job-requires-clause-plan : goal.run_job-requires-clause-plan
run_job-requires-clause-plan g c =
    let cmp = g.K.KeyOrder.cmp in
    let level = c.args.level in
    let plan = c.in-Some.plan in
    let tables = c.run_job_to_end.new.self.version.value.tables in
    let tables_are : c.deref.result.now.tables ≡ tables = ap (λ (p : Placement). p.tables) c.deref.ensures in
    let planned = of_some (tables_at level c.deref.result.now.tables ≡ []) (IsLevelPlan cmp c.deref.result.now.tables level) c.in_ok-plan.field-0 plan c.in-Some.is c.in_ok-plan.ensures in
    subst (λ (ts : List PlacedTable). IsPlanOf cmp ts plan) tables_are ((c.plans_of_tables.ensures cmp c.deref.result.now plan).1 level c.requires.level planned)

pub returns-in_default-clause-merges : goal.returns-in_default-clause-merges
returns-in_default-clause-merges g c =
    let order = order_of g.K.KeyOrder.name g.K.KeyOrder.cmp in
    let old = seen_of g.S.Store.facts c.args.source.now in
    let mid = seen_of g.S.Store.facts c.run_job_to_end.new.source in
    let before = open_db c.args.source.now.memory c.args.self.now in
    let between = open_db c.run_job_to_end.new.source.memory c.run_job_to_end.new.self in
    let r = c.in_ok-run_job_to_end.ensures in
    merges_none order c.args.level old mid before between r.step (λ m n h. piece_flag m n _ _ h) r.merges (returns-in_default-clause-emptied g c)

pub returns-clause-merges : goal.returns-clause-merges
returns-clause-merges g c =
    let order = order_of g.K.KeyOrder.name g.K.KeyOrder.cmp in
    let cmp = g.K.KeyOrder.cmp in
    let level = c.args.level in
    let plan = c.in-Some.plan in
    let old = seen_of g.S.Store.facts c.args.source.now in
    let mid = seen_of g.S.Store.facts c.run_job_to_end.new.source in
    let new = seen_of g.S.Store.facts c.run_job.new.source in
    let before = open_db c.args.source.now.memory c.args.self.now in
    let between = open_db c.run_job_to_end.new.source.memory c.run_job_to_end.new.self in
    let after = open_db c.run_job.new.source.memory c.run_job.new.self in
    let tables_are : c.deref.result.now.tables ≡ between.tables = ap (λ (p : Placement). p.tables) c.deref.ensures in
    let planned = of_some (tables_at level c.deref.result.now.tables ≡ []) (IsLevelPlan cmp c.deref.result.now.tables level) c.in_ok-plan.field-0 plan c.in-Some.is c.in_ok-plan.ensures in
    let r = c.in_ok-run_job_to_end.ensures in
    on_ok c.run_job.result (λ merges. merges_level order level old mid new before between after plan r.step (λ m n h. piece_flag m n _ _ h) c.run_job.ensures.step r.merges (subst (λ (ts : List PlacedTable). IsLevelPlan cmp ts level plan) tables_are planned) merges) c.run_job.ensures.merges

pub returns-clause-memory : goal.returns-clause-memory
returns-clause-memory g c = left_onward c.args.source.now.memory c.run_job_to_end.new.source.memory c.run_job.new.source.memory c.in_ok-run_job_to_end.ensures.memory c.run_job.ensures.memory

pub returns-in_err-run_job_to_end-clause-breaks : goal.returns-in_err-run_job_to_end-clause-breaks
returns-in_err-run_job_to_end-clause-breaks g c = breaks_as (g.S.Store.facts c.args.source.now.tables.store) (g.S.Store.facts c.run_job_to_end.new.source.tables.store) c.run_job_to_end.new.self.broken (λ is. handed_on c.in_err-run_job_to_end.field-0.0 c.from_residual.result (search rules) is) c.in_err-run_job_to_end.ensures.breaks

pub returns-in_err-plan-clause-breaks : goal.returns-in_err-plan-clause-breaks
returns-in_err-plan-clause-breaks g c = serves_breaks (g.S.Store.facts c.args.source.now.tables.store) (g.S.Store.facts c.run_job_to_end.new.source.tables.store) (open_db c.args.source.now.memory c.args.self.now) (open_db c.run_job_to_end.new.source.memory c.run_job_to_end.new.self) c.in_ok-run_job_to_end.ensures.serves

pub returns-in_default-clause-breaks : goal.returns-in_default-clause-breaks
returns-in_default-clause-breaks g c = serves_breaks (g.S.Store.facts c.args.source.now.tables.store) (g.S.Store.facts c.run_job_to_end.new.source.tables.store) (open_db c.args.source.now.memory c.args.self.now) (open_db c.run_job_to_end.new.source.memory c.run_job_to_end.new.self) c.in_ok-run_job_to_end.ensures.serves

pub returns-clause-breaks : goal.returns-clause-breaks
returns-clause-breaks g c = breaks_then (g.S.Store.facts c.args.source.now.tables.store) (g.S.Store.facts c.run_job_to_end.new.source.tables.store) (g.S.Store.facts c.run_job.new.source.tables.store) c.run_job.new.self.broken c.in_ok-run_job_to_end.ensures.serves.unwritten (λ is. is) c.run_job.ensures.breaks

-- ---- what a process crash leaves

pub returns-in_err-run_job_to_end-clause-stops : goal.returns-in_err-run_job_to_end-clause-stops
returns-in_err-run_job_to_end-clause-stops g c = c.in_err-run_job_to_end.ensures.stops

pub returns-in_err-plan-clause-stops : goal.returns-in_err-plan-clause-stops
returns-in_err-plan-clause-stops g c = c.in_ok-run_job_to_end.ensures.stops

pub returns-in_default-clause-stops : goal.returns-in_default-clause-stops
returns-in_default-clause-stops g c = c.in_ok-run_job_to_end.ensures.stops

pub returns-clause-stops : goal.returns-clause-stops
returns-clause-stops g c =
    keeps_then (order_of g.K.KeyOrder.name g.K.KeyOrder.cmp) (seen_of g.S.Store.facts c.args.source.now) (seen_of g.S.Store.facts c.run_job_to_end.new.source) (seen_of g.S.Store.facts c.run_job.new.source) (open_db c.args.source.now.memory c.args.self.now) (open_db c.run_job_to_end.new.source.memory c.run_job_to_end.new.self) (λ m. entry_count m + 0) (tt {0})
    c.in_ok-run_job_to_end.ensures.step (c.run_job.ensures.step no_ids).faithful
    c.in_ok-run_job_to_end.ensures.stops c.run_job.ensures.stops
