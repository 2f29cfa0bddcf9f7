use Rattle.std.proofs.Common.{◌≡◌, max, Result, Err, sym, subst, rules}
use Rattle.coding.specs.declared.error.DbError.{DbError}
use Rattle.ikey.specs.Orders.{order_of}
use Rattle.engine.specs.declared.work.Progress.{Progress}
use Rattle.engine.specs.declared.work.Progress.TheVariants.{Worked}
use Rattle.engine.specs.internal.Leading.{LeadsOpen}
use Rattle.engine.specs.OpenDb.{open_db}
use Rattle.db_cursor.specs.Whole.{seen_of}
use Rattle.engine.specs.internal.Pieces.{IsPiece}
use Rattle.engine.proofs.WorkSteps.{piece_done, piece_failed}
use Rattle.engine.proofs.WithinBudget.{not_some, steps_itself}
use Rattle.engine.proofs.Breaking.{breaks_as, handed_on, serves_breaks}
use Rattle.engine.proofs.state.DbState.do_piece.Goals as goal

pub returns-in_err-step_job-clause-step : goal.returns-in_err-step_job-clause-step
returns-in_err-step_job-clause-step g c ids =
    let order = order_of g.K.KeyOrder.name g.K.KeyOrder.cmp in
    let old = seen_of g.S.Store.facts c.args.source.now in
    let new = seen_of g.S.Store.facts c.step_job.new.source in
    let before = open_db c.args.source.now.memory c.args.self.now in
    let after = open_db c.step_job.new.source.memory c.step_job.new.self in
    let e = c.in_err-step_job.field-0.0 in
    let is : c.from_residual.result ≡ Err e = search rules in
    subst (λ (r : Result Progress DbError). LeadsOpen order old new ids before after (λ m n. IsPiece m (max c.args.budget 1) r n)) (sym is) (piece_failed order old new ids before after (max c.args.budget 1) e (c.in_err-step_job.ensures.step ids))

pub returns-then-is_some-clause-step : goal.returns-then-is_some-clause-step
returns-then-is_some-clause-step g c ids =
    piece_done (order_of g.K.KeyOrder.name g.K.KeyOrder.cmp) (seen_of g.S.Store.facts c.args.source.now) (seen_of g.S.Store.facts c.step_job.new.source) ids (open_db c.args.source.now.memory c.args.self.now) (open_db c.step_job.new.source.memory c.step_job.new.self)
    (max c.args.budget 1) c.in_ok-step_job.field-0 Worked (c.in_ok-step_job.ensures.step ids)

pub returns-then-is_some-clause-within : goal.returns-then-is_some-clause-within
returns-then-is_some-clause-within g c worked which f =
    let old = seen_of g.S.Store.facts c.args.source.now in
    let new = seen_of g.S.Store.facts c.step_job.new.source in
    let before = open_db c.args.source.now.memory c.args.self.now in
    let after = open_db c.step_job.new.source.memory c.step_job.new.self in
    let a = c.in_ok-step_job.ensures in
    steps_itself (order_of g.K.KeyOrder.name g.K.KeyOrder.cmp) c.args.options.now old new before after (max c.args.budget 1) c.requires.whole (a.few f) a.merges

pub returns-then-is_some-clause-flushes : goal.returns-then-is_some-clause-flushes
returns-then-is_some-clause-flushes g c worked idle = absurd (not_some c.args.self.now.job idle (search rules))

pub returns-in_err-step_job-clause-breaks : goal.returns-in_err-step_job-clause-breaks
returns-in_err-step_job-clause-breaks g c = breaks_as (g.S.Store.facts c.args.source.now.tables.store) (g.S.Store.facts c.step_job.new.source.tables.store) c.step_job.new.self.broken (λ is. handed_on c.in_err-step_job.field-0.0 c.from_residual.result (search rules) is) c.in_err-step_job.ensures.breaks

pub returns-then-is_some-clause-breaks : goal.returns-then-is_some-clause-breaks
returns-then-is_some-clause-breaks g c = serves_breaks (g.S.Store.facts c.args.source.now.tables.store) (g.S.Store.facts c.step_job.new.source.tables.store) (open_db c.args.source.now.memory c.args.self.now) (open_db c.step_job.new.source.memory c.step_job.new.self) c.in_ok-step_job.ensures.serves

-- ---- what a process crash leaves

pub returns-in_err-step_job-clause-stops : goal.returns-in_err-step_job-clause-stops
returns-in_err-step_job-clause-stops g c = c.in_err-step_job.ensures.stops

pub returns-then-is_some-clause-stops : goal.returns-then-is_some-clause-stops
returns-then-is_some-clause-stops g c = c.in_ok-step_job.ensures.stops

pub returns-clause-stops : goal.returns-clause-stops
returns-clause-stops g c = c.do_unless_compacting.ensures.stops
