use Rattle.std.proofs.Common.{◌≡◌, ◌+◌, max, Ok, Err, Result, sym, subst, ◌∙◌, arith, rules, refl}
use Rattle.coding.specs.declared.error.DbError.{DbError}
use Rattle.coding.specs.declared.error.DbError.TheVariants.{OutOfMemory}
use Rattle.ikey.specs.Orders.{order_of}
use Rattle.db_cursor.proofs.ScanSteps.{scan_kept}
use Rattle.versions.specs.Plans.{IsPicked}
use Rattle.engine.specs.declared.work.Progress.{Progress}
use Rattle.engine.specs.declared.work.Progress.TheVariants.{Worked, Idle}
use Rattle.engine.specs.internal.Leading.{LeadsOpen}
use Rattle.engine.specs.OpenDb.{open_db}
use Rattle.db_cursor.specs.Whole.{seen_of}
use Rattle.engine.specs.Outcomes.{DbOutcome}
use Rattle.engine.specs.Stands.{no_ids}
use Rattle.engine.specs.internal.Pieces.{IsPiece, MayRefusePiece}
use Rattle.engine.proofs.JobEnds.{outcome_behind}
use Rattle.engine.proofs.WorkAnswers.{begun_further, of_some, picked_for, then_piece}
use Rattle.engine.proofs.WorkEnds.{ends_full, ends_idle}
use Rattle.engine.proofs.WorkSteps.{piece_done, piece_failed, piece_within}
use Rattle.engine.proofs.Flags.{piece_flag}
use Rattle.engine.proofs.WithinBudget.{steps_begun}
use Rattle.engine.proofs.Breaking.{breaks_then, handed_on, unbroken}
use Rattle.engine.proofs.StopSteps.{keeps_none, keeps_read, keeps_then}
use Rattle.engine.proofs.state.DbState.compact.Goals as goal

pub returns-in_err-plan-clause-step : goal.returns-in_err-plan-clause-step
returns-in_err-plan-clause-step g c ids =
    let order = order_of g.K.KeyOrder.name g.K.KeyOrder.cmp in
    let source = seen_of g.S.Store.facts c.args.source.now in
    let db = open_db c.args.source.now.memory c.args.self.now in
    let said : c.from_residual.result ≡ Err OutOfMemory = search rules in
    subst (λ (r : Result Progress DbError). LeadsOpen order source source ids db db (λ m n. IsPiece m (max c.args.budget 1) r n)) (sym said)
    (ends_full order (λ scan. scan_kept order.cmp scan) c.sound_lasts.ensures source ids db (max c.args.budget 1) c.requires.whole)

pub returns-in_default-clause-step : goal.returns-in_default-clause-step
returns-in_default-clause-step g c ids =
    let order = order_of g.K.KeyOrder.name g.K.KeyOrder.cmp in
    ends_idle order (λ scan. scan_kept order.cmp scan) c.sound_lasts.ensures (seen_of g.S.Store.facts c.args.source.now) ids (open_db c.args.source.now.memory c.args.self.now) (max c.args.budget 1) Idle c.requires.whole

pub returns-in_err-begin_job-clause-step : goal.returns-in_err-begin_job-clause-step
returns-in_err-begin_job-clause-step g c ids =
    let order = order_of g.K.KeyOrder.name g.K.KeyOrder.cmp in
    let old = seen_of g.S.Store.facts c.args.source.now in
    let new = seen_of g.S.Store.facts c.begin_job.new.source in
    let before = open_db c.args.source.now.memory c.args.self.now in
    let after = open_db c.begin_job.new.source.memory c.begin_job.new.self in
    let e = c.in_err-begin_job.field-0.0 in
    let said : c.from_residual-in_err-begin_job.result ≡ Err e = search rules in
    subst (λ (r : Result Progress DbError). LeadsOpen order old new ids before after (λ m n. IsPiece m (max c.args.budget 1) r n)) (sym said)
    (piece_failed order old new ids before after (max c.args.budget 1) e (piece_within order old new ids before after 0 (max c.args.budget 1) (Err e) (omega arith) (c.in_err-begin_job.ensures.step ids)))

pub returns-in_err-step_job-clause-step : goal.returns-in_err-step_job-clause-step
returns-in_err-step_job-clause-step g c ids =
    let order = order_of g.K.KeyOrder.name g.K.KeyOrder.cmp in
    let old = seen_of g.S.Store.facts c.args.source.now in
    let mid = seen_of g.S.Store.facts c.begin_job.new.source in
    let new = seen_of g.S.Store.facts c.step_job.new.source in
    let before = open_db c.args.source.now.memory c.args.self.now in
    let between = open_db c.begin_job.new.source.memory c.begin_job.new.self in
    let after = open_db c.step_job.new.source.memory c.step_job.new.self in
    let most = max c.args.budget 1 in
    let e = c.in_err-step_job.field-0.0 in
    let said : c.from_residual-in_err-step_job.result ≡ Err e = search rules in
    subst (λ (r : Result Progress DbError). LeadsOpen order old new ids before after (λ m n. IsPiece m most r n)) (sym said)
    (piece_failed order old new ids before after most e (piece_within order old new ids before after (0 + most) most (Err e) (omega arith)
    (then_piece order old mid new ids before between after 0 most (tt {0}) (Err e) (c.in_ok-begin_job.ensures.step ids) (c.in_err-step_job.ensures.step ids))))

pub returns-in_err-step_job-clause-outcome : goal.returns-in_err-step_job-clause-outcome
returns-in_err-step_job-clause-outcome g c =
    let old = g.S.Store.facts c.args.source.now.tables.store in
    let mid = g.S.Store.facts c.begin_job.new.source.tables.store in
    let new = g.S.Store.facts c.step_job.new.source.tables.store in
    let before = open_db c.args.source.now.memory c.args.self.now in
    let between = open_db c.begin_job.new.source.memory c.begin_job.new.self in
    let after = open_db c.step_job.new.source.memory c.step_job.new.self in
    let e = c.in_err-step_job.field-0.0 in
    let said : c.from_residual-in_err-step_job.result ≡ Err e = search rules in
    let b = c.in_ok-begin_job.ensures in
    subst (λ (r : Result Progress DbError). DbOutcome MayRefusePiece old new before after r) (sym said)
    (outcome_behind old mid new before between after e (sym b.stood) b.outcome.denials b.same (b.whole ∙ sym c.requires.whole) c.in_err-step_job.ensures.outcome)

pub returns-clause-step : goal.returns-clause-step
returns-clause-step g c ids =
    let order = order_of g.K.KeyOrder.name g.K.KeyOrder.cmp in
    let old = seen_of g.S.Store.facts c.args.source.now in
    let mid = seen_of g.S.Store.facts c.begin_job.new.source in
    let new = seen_of g.S.Store.facts c.step_job.new.source in
    let before = open_db c.args.source.now.memory c.args.self.now in
    let between = open_db c.begin_job.new.source.memory c.begin_job.new.self in
    let after = open_db c.step_job.new.source.memory c.step_job.new.self in
    let most = max c.args.budget 1 in
    let done = c.in_ok-step_job.field-0 in
    piece_done order old new ids before after most done Worked (piece_within order old new ids before after (0 + most) most (Ok done) (omega arith)
    (then_piece order old mid new ids before between after 0 most (tt {0}) (Ok done) (c.in_ok-begin_job.ensures.step ids) (c.in_ok-step_job.ensures.step ids)))

pub returns-clause-begins : goal.returns-clause-begins
returns-clause-begins g c = λ done.
    let b = c.in_ok-begin_job.ensures in
    record {
      plan = c.in-Some.plan;
      picked = picked_for g.K.KeyOrder.cmp c.level0_files.result c.base_bytes.result c.args.options.now.level0_files c.args.options.now.base_bytes c.deref.result.now c.args.self.now.version.value c.in-Some.plan
          c.level0_files.ensures.is c.base_bytes.ensures.is c.deref.ensures
          (of_some _ (λ plan. IsPicked g.K.KeyOrder.cmp c.level0_files.result c.base_bytes.result c.deref.result.now plan) c.in_ok-plan.field-0 c.in-Some.plan c.in-Some.is c.in_ok-plan.ensures.picked);
      begun = begun_further c.args.budget c.in-Some.plan (open_db c.args.source.now.memory c.args.self.now) (open_db c.begin_job.new.source.memory c.begin_job.new.self) (open_db c.step_job.new.source.memory c.step_job.new.self) b.same.tables b.none b.live c.in_ok-step_job.ensures.on;
    }

pub returns-clause-few : goal.returns-clause-few
unfolding returns-clause-begins
returns-clause-few g c worked f =
    let order = order_of g.K.KeyOrder.name g.K.KeyOrder.cmp in
    let old = seen_of g.S.Store.facts c.args.source.now in
    let mid = seen_of g.S.Store.facts c.begin_job.new.source in
    let before = open_db c.args.source.now.memory c.args.self.now in
    let between = open_db c.begin_job.new.source.memory c.begin_job.new.self in
    let b = c.in_ok-begin_job.ensures in
    let a = c.in_ok-step_job.ensures in
    let new = seen_of g.S.Store.facts c.step_job.new.source in
    let after = open_db c.step_job.new.source.memory c.step_job.new.self in
    let still = (a.step no_ids).faithful f in
    steps_begun order c.args.options.now old mid new before between after (max c.args.budget 1) c.in-Some.plan b.step (λ m n h. piece_flag m n _ _ h) still b.whole b.same.tables (b.files still) c.requires.none b.none b.live (returns-clause-begins g c worked).picked (a.few f) a.merges

pub returns-in_err-plan-clause-breaks : goal.returns-in_err-plan-clause-breaks
returns-in_err-plan-clause-breaks g c = unbroken (g.S.Store.facts c.args.source.now.tables.store) (g.S.Store.facts c.args.source.now.tables.store) c.args.self.now.broken c.requires.whole refl

pub returns-in_default-clause-breaks : goal.returns-in_default-clause-breaks
returns-in_default-clause-breaks g c = unbroken (g.S.Store.facts c.args.source.now.tables.store) (g.S.Store.facts c.args.source.now.tables.store) c.args.self.now.broken c.requires.whole refl

pub returns-in_err-begin_job-clause-breaks : goal.returns-in_err-begin_job-clause-breaks
returns-in_err-begin_job-clause-breaks g c = unbroken (g.S.Store.facts c.args.source.now.tables.store) (g.S.Store.facts c.begin_job.new.source.tables.store) c.begin_job.new.self.broken c.in_err-begin_job.ensures.whole c.in_err-begin_job.ensures.fails

pub returns-in_err-step_job-clause-breaks : goal.returns-in_err-step_job-clause-breaks
returns-in_err-step_job-clause-breaks g c = breaks_then (g.S.Store.facts c.args.source.now.tables.store) (g.S.Store.facts c.begin_job.new.source.tables.store) (g.S.Store.facts c.step_job.new.source.tables.store) c.step_job.new.self.broken c.in_ok-begin_job.ensures.fails (λ is. handed_on c.in_err-step_job.field-0.0 c.from_residual-in_err-step_job.result (search rules) is) c.in_err-step_job.ensures.breaks

pub returns-clause-breaks : goal.returns-clause-breaks
returns-clause-breaks g c = unbroken (g.S.Store.facts c.args.source.now.tables.store) (g.S.Store.facts c.step_job.new.source.tables.store) c.step_job.new.self.broken c.in_ok-step_job.ensures.serves.whole (c.in_ok-step_job.ensures.serves.unwritten ∙ c.in_ok-begin_job.ensures.fails)

-- ---- what a process crash leaves

pub returns-in_err-plan-clause-stops : goal.returns-in_err-plan-clause-stops
returns-in_err-plan-clause-stops g c = keeps_none (order_of g.K.KeyOrder.name g.K.KeyOrder.cmp) (seen_of g.S.Store.facts c.args.source.now) (open_db c.args.source.now.memory c.args.self.now)

pub returns-in_default-clause-stops : goal.returns-in_default-clause-stops
returns-in_default-clause-stops g c = keeps_none (order_of g.K.KeyOrder.name g.K.KeyOrder.cmp) (seen_of g.S.Store.facts c.args.source.now) (open_db c.args.source.now.memory c.args.self.now)

pub returns-in_err-begin_job-clause-stops : goal.returns-in_err-begin_job-clause-stops
returns-in_err-begin_job-clause-stops g c = keeps_read (order_of g.K.KeyOrder.name g.K.KeyOrder.cmp) (seen_of g.S.Store.facts c.args.source.now) (seen_of g.S.Store.facts c.begin_job.new.source) (open_db c.args.source.now.memory c.args.self.now) c.in_err-begin_job.ensures.calls c.in_err-begin_job.ensures.files c.in_err-begin_job.ensures.synced

pub returns-in_err-step_job-clause-stops : goal.returns-in_err-step_job-clause-stops
returns-in_err-step_job-clause-stops g c =
    keeps_then (order_of g.K.KeyOrder.name g.K.KeyOrder.cmp) (seen_of g.S.Store.facts c.args.source.now) (seen_of g.S.Store.facts c.begin_job.new.source) (seen_of g.S.Store.facts c.step_job.new.source) (open_db c.args.source.now.memory c.args.self.now) (open_db c.begin_job.new.source.memory c.begin_job.new.self) (λ m. 0) (tt {0})
    c.in_ok-begin_job.ensures.step (c.in_err-step_job.ensures.step no_ids).faithful
    (keeps_read (order_of g.K.KeyOrder.name g.K.KeyOrder.cmp) (seen_of g.S.Store.facts c.args.source.now) (seen_of g.S.Store.facts c.begin_job.new.source) (open_db c.args.source.now.memory c.args.self.now) c.in_ok-begin_job.ensures.calls c.in_ok-begin_job.ensures.files c.in_ok-begin_job.ensures.synced) c.in_err-step_job.ensures.stops

pub returns-clause-stops : goal.returns-clause-stops
returns-clause-stops g c =
    keeps_then (order_of g.K.KeyOrder.name g.K.KeyOrder.cmp) (seen_of g.S.Store.facts c.args.source.now) (seen_of g.S.Store.facts c.begin_job.new.source) (seen_of g.S.Store.facts c.step_job.new.source) (open_db c.args.source.now.memory c.args.self.now) (open_db c.begin_job.new.source.memory c.begin_job.new.self) (λ m. 0) (tt {0})
    c.in_ok-begin_job.ensures.step (c.in_ok-step_job.ensures.step no_ids).faithful
    (keeps_read (order_of g.K.KeyOrder.name g.K.KeyOrder.cmp) (seen_of g.S.Store.facts c.args.source.now) (seen_of g.S.Store.facts c.begin_job.new.source) (open_db c.args.source.now.memory c.args.self.now) c.in_ok-begin_job.ensures.calls c.in_ok-begin_job.ensures.files c.in_ok-begin_job.ensures.synced) c.in_ok-step_job.ensures.stops
