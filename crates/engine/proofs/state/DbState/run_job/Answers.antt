use Rattle.std.proofs.Common.{◌≡◌, ◌+◌, Result, Err, sym, subst, arith, rules}
use Rattle.coding.specs.declared.error.DbError.{DbError}
use Rattle.ikey.specs.Orders.{order_of}
use Rattle.memtables.specs.PlaceLaws.{left_onward}
use Rattle.engine.specs.Finishing.{CompactOutcome}
use Rattle.engine.specs.internal.JobsToEnd.{EndsJob, beyond}
use Rattle.engine.specs.internal.Leading.{LeadsOpen}
use Rattle.engine.specs.OpenDb.{open_db}
use Rattle.db_cursor.specs.Whole.{seen_of}
use Rattle.engine.specs.internal.Pieces.{MayRefusePiece}
use Rattle.engine.proofs.Emptied.{done_of, on_ok}
use Rattle.engine.proofs.Finishing.{outcome_of, outcome_then, serves_begun, then_bound, within_bound}
use Rattle.engine.proofs.Flags.{piece_flag}
use Rattle.engine.proofs.NeededEnds.{merges_plan, needed_behind}
use Rattle.engine.proofs.Breaking.{breaks_then, unbroken}
use Rattle.engine.proofs.StopSteps.{keeps_read, keeps_then}
use Rattle.engine.specs.Stands.{no_ids}
use Rattle.engine.proofs.state.DbState.run_job.Goals as goal

pub returns-in_err-begin_job-clause-step : goal.returns-in_err-begin_job-clause-step
returns-in_err-begin_job-clause-step g c ids =
    let order = order_of g.K.KeyOrder.name g.K.KeyOrder.cmp in
    let old = seen_of g.S.Store.facts c.args.source.now in
    let before = open_db c.args.source.now.memory c.args.self.now in
    let new = seen_of g.S.Store.facts c.begin_job.new.source in
    let after = open_db c.begin_job.new.source.memory c.begin_job.new.self in
    let e = c.in_err-begin_job.field-0.0 in
    let said : c.from_residual.result ≡ Err e = search rules in
    subst (λ (r : Result _ DbError). LeadsOpen order old new ids before after (λ m n. EndsJob m r n)) (sym said)
    (within_bound order old new ids before after (λ k. 0) (λ k. k + 1) (Err e) (λ k. omega arith) (c.in_err-begin_job.ensures.step ids))

pub returns-in_err-begin_job-clause-outcome : goal.returns-in_err-begin_job-clause-outcome
returns-in_err-begin_job-clause-outcome g c =
    let facts = g.S.Store.facts in
    let old = facts c.args.source.now.tables.store in
    let new = facts c.begin_job.new.source.tables.store in
    let before = open_db c.args.source.now.memory c.args.self.now in
    let after = open_db c.begin_job.new.source.memory c.begin_job.new.self in
    let e = c.in_err-begin_job.field-0.0 in
    let said : c.from_residual.result ≡ Err e = search rules in
    let b = c.in_err-begin_job.ensures in
    subst (λ (r : Result _ DbError). CompactOutcome MayRefusePiece old new before after r) (sym said) (outcome_of old new before after e b.lock b.outcome)

pub returns-clause-step : goal.returns-clause-step
returns-clause-step g c ids =
    let order = order_of g.K.KeyOrder.name g.K.KeyOrder.cmp in
    let old = seen_of g.S.Store.facts c.args.source.now in
    let before = open_db c.args.source.now.memory c.args.self.now in
    let mid = seen_of g.S.Store.facts c.begin_job.new.source in
    let between = open_db c.begin_job.new.source.memory c.begin_job.new.self in
    let new = seen_of g.S.Store.facts c.run_job_to_end.new.source in
    let after = open_db c.run_job_to_end.new.source.memory c.run_job_to_end.new.self in
    let r = c.run_job_to_end.result in
    within_bound order old new ids before after (λ k. 0 + (k + beyond r)) (λ k. k + beyond r) r (λ k. omega arith)
    (then_bound order old mid new ids before between after (λ k. 0) (λ k. k + beyond r) (tt {0}) r (c.in_ok-begin_job.ensures.step ids) (c.run_job_to_end.ensures.step ids))

pub returns-clause-outcome : goal.returns-clause-outcome
returns-clause-outcome g c =
    let facts = g.S.Store.facts in
    let old = facts c.args.source.now.tables.store in
    let mid = facts c.begin_job.new.source.tables.store in
    let new = facts c.run_job_to_end.new.source.tables.store in
    let before = open_db c.args.source.now.memory c.args.self.now in
    let between = open_db c.begin_job.new.source.memory c.begin_job.new.self in
    let after = open_db c.run_job_to_end.new.source.memory c.run_job_to_end.new.self in
    let b = c.in_ok-begin_job.ensures in
    outcome_then MayRefusePiece old mid new before between after c.run_job_to_end.result c.requires.whole (serves_begun old mid before between b.stood b.fails b.outcome.denials b.lock b.whole b.same) c.run_job_to_end.ensures.outcome

pub returns-clause-memory : goal.returns-clause-memory
returns-clause-memory g c = left_onward c.args.source.now.memory c.begin_job.new.source.memory c.run_job_to_end.new.source.memory c.in_ok-begin_job.ensures.memory c.run_job_to_end.ensures.memory

pub returns-clause-done : goal.returns-clause-done
returns-clause-done g c =
    let b = c.in_ok-begin_job.ensures in
    done_of c.run_job_to_end.result c.begin_job.new.self.job c.args.plan c.args.self.now.version.value.tables c.begin_job.new.self.version.value.tables c.run_job_to_end.new.self.version.value.tables b.same.tables b.none c.run_job_to_end.ensures.done

pub returns-clause-needed : goal.returns-clause-needed
returns-clause-needed g c =
    let order = order_of g.K.KeyOrder.name g.K.KeyOrder.cmp in
    let old = seen_of g.S.Store.facts c.args.source.now in
    let before = open_db c.args.source.now.memory c.args.self.now in
    let mid = seen_of g.S.Store.facts c.begin_job.new.source in
    let between = open_db c.begin_job.new.source.memory c.begin_job.new.self in
    let new = seen_of g.S.Store.facts c.run_job_to_end.new.source in
    let after = open_db c.run_job_to_end.new.source.memory c.run_job_to_end.new.self in
    let b = c.in_ok-begin_job.ensures in
    on_ok c.run_job_to_end.result (λ ends whole. needed_behind order old mid new before between after b.step (λ m n h. piece_flag m n _ _ h) c.run_job_to_end.ensures.step (ends (b.all whole))) c.run_job_to_end.ensures.needed

pub returns-clause-merges : goal.returns-clause-merges
returns-clause-merges g c =
    let order = order_of g.K.KeyOrder.name g.K.KeyOrder.cmp in
    let old = seen_of g.S.Store.facts c.args.source.now in
    let before = open_db c.args.source.now.memory c.args.self.now in
    let mid = seen_of g.S.Store.facts c.begin_job.new.source in
    let between = open_db c.begin_job.new.source.memory c.begin_job.new.self in
    let new = seen_of g.S.Store.facts c.run_job_to_end.new.source in
    let after = open_db c.run_job_to_end.new.source.memory c.run_job_to_end.new.self in
    let b = c.in_ok-begin_job.ensures in
    let r = c.run_job_to_end.ensures in
    on_ok c.run_job_to_end.result (λ merges. merges_plan order c.args.plan old mid new before between after b.step (λ m n h. piece_flag m n _ _ h) r.step b.same.tables b.begun b.none b.live merges) r.merges

pub returns-in_err-begin_job-clause-breaks : goal.returns-in_err-begin_job-clause-breaks
returns-in_err-begin_job-clause-breaks g c = unbroken (g.S.Store.facts c.args.source.now.tables.store) (g.S.Store.facts c.begin_job.new.source.tables.store) c.begin_job.new.self.broken c.in_err-begin_job.ensures.whole c.in_err-begin_job.ensures.fails

pub returns-clause-breaks : goal.returns-clause-breaks
returns-clause-breaks g c = breaks_then (g.S.Store.facts c.args.source.now.tables.store) (g.S.Store.facts c.begin_job.new.source.tables.store) (g.S.Store.facts c.run_job_to_end.new.source.tables.store) c.run_job_to_end.new.self.broken c.in_ok-begin_job.ensures.fails (λ is. is) c.run_job_to_end.ensures.breaks

-- ---- what a process crash leaves

pub returns-in_err-begin_job-clause-stops : goal.returns-in_err-begin_job-clause-stops
returns-in_err-begin_job-clause-stops g c = keeps_read (order_of g.K.KeyOrder.name g.K.KeyOrder.cmp) (seen_of g.S.Store.facts c.args.source.now) (seen_of g.S.Store.facts c.begin_job.new.source) (open_db c.args.source.now.memory c.args.self.now) c.in_err-begin_job.ensures.calls c.in_err-begin_job.ensures.files c.in_err-begin_job.ensures.synced

pub returns-clause-stops : goal.returns-clause-stops
returns-clause-stops g c =
    keeps_then (order_of g.K.KeyOrder.name g.K.KeyOrder.cmp) (seen_of g.S.Store.facts c.args.source.now) (seen_of g.S.Store.facts c.begin_job.new.source) (seen_of g.S.Store.facts c.run_job_to_end.new.source) (open_db c.args.source.now.memory c.args.self.now) (open_db c.begin_job.new.source.memory c.begin_job.new.self) (λ m. 0) (tt {0})
    c.in_ok-begin_job.ensures.step (c.run_job_to_end.ensures.step no_ids).faithful
    (keeps_read (order_of g.K.KeyOrder.name g.K.KeyOrder.cmp) (seen_of g.S.Store.facts c.args.source.now) (seen_of g.S.Store.facts c.begin_job.new.source) (open_db c.args.source.now.memory c.args.self.now) c.in_ok-begin_job.ensures.calls c.in_ok-begin_job.ensures.files c.in_ok-begin_job.ensures.synced) c.run_job_to_end.ensures.stops
