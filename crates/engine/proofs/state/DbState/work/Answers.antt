use Rattle.std.proofs.Common.{◌≡◌, ◌∷◌, ℕ, ◌+◌, ◌<◌, ◌∙◌, max, false, Result, Ok, Err, ap, inl, inr, refl, sym, subst, arith, rules}
use Rattle.coding.specs.declared.error.DbError.{DbError}
use Rattle.std.specs.Map.{values_of}
use Rattle.ikey.specs.Orders.{order_of}
use Rattle.engine.specs.declared.work.Progress.{Progress}
use Rattle.engine.specs.internal.Leading.{LeadsOpen}
use Rattle.engine.specs.OpenDb.{open_db}
use Rattle.engine.specs.InUse.{IsMemoryUsed}
use Rattle.memtables.specs.Memories.{older_at}
use Rattle.db_cursor.specs.Whole.{seen_of}
use Rattle.engine.specs.Stands.{no_ids}
use Rattle.machine.specs.Upkeep.{Works}
use Rattle.engine.specs.internal.Pieces.{refused_as}
use Rattle.engine.specs.Working.{LosesDead, work_answer}
use Rattle.engine.proofs.ExactFiles.{leaves_exactly}
use Rattle.engine.proofs.Flags.{piece_flag}
use Rattle.engine.proofs.FlushEnds.{flushes_behind}
use Rattle.engine.proofs.WorkAnswers.{caused_met, does_on, failures_rose, then_piece, then_refused, works, works_broken}
use Rattle.engine.proofs.WorkSteps.{piece_failed}
use Rattle.engine.proofs.WithinBudget.{at_ease_on, steps_behind, tables_stay}
use Rattle.engine.proofs.Breaking.{breaks_then, refused_io, unbroken}
use Rattle.engine.proofs.StopSteps.{keeps_none, keeps_then}
use Rattle.engine.proofs.state.DbState.work.Goals as goal

pub returns-then-self-clause-step : goal.returns-then-self-clause-step
returns-then-self-clause-step g c ids =
    works_broken (order_of g.K.KeyOrder.name g.K.KeyOrder.cmp) (seen_of g.S.Store.facts c.args.source.now) ids (open_db c.args.source.now.memory c.args.self.now) c.args.budget c.if-self.true

pub returns-in_err-complete-clause-step : goal.returns-in_err-complete-clause-step
returns-in_err-complete-clause-step g c ids =
    let order = order_of g.K.KeyOrder.name g.K.KeyOrder.cmp in
    let old = seen_of g.S.Store.facts c.args.source.now in
    let new = seen_of g.S.Store.facts c.clean.new.source in
    let before = open_db c.args.source.now.memory c.args.self.now in
    let after = open_db c.clean.new.source.memory c.args.self.now in
    let e = c.in_err-complete.field-0.0 in
    let is : c.from_residual.result ≡ Err e = search rules in
    subst (λ (r : Result Progress DbError). LeadsOpen order old new ids before after (λ m n. Works m c.args.budget (work_answer r) n)) (sym is)
    (works order old new ids before after c.args.budget 0 (Err e) (omega arith) c.if-self.false (piece_failed order old new ids before after 0 e (c.in_err-complete.ensures.step ids)))

pub returns-in_err-complete-clause-caused : goal.returns-in_err-complete-clause-caused
returns-in_err-complete-clause-caused g c =
    let is : c.from_residual.result ≡ Err c.in_err-complete.field-0.0 = search rules in
    caused_met (open_db c.args.source.now.memory c.args.self.now) c.args.source.now.tables.store c.clean.new.source.tables.store c.from_residual.result c.in_err-complete.field-0.0 is c.if-self.false c.in_err-complete.ensures.outcome.allowed

pub returns-in-Ok-clause-step : goal.returns-in-Ok-clause-step
returns-in-Ok-clause-step g c ids =
    let order = order_of g.K.KeyOrder.name g.K.KeyOrder.cmp in
    let old = seen_of g.S.Store.facts c.args.source.now in
    let mid = seen_of g.S.Store.facts c.clean.new.source in
    let new = seen_of g.S.Store.facts c.do_piece.new.source in
    let before = open_db c.args.source.now.memory c.args.self.now in
    let between = open_db c.clean.new.source.memory c.args.self.now in
    let after = open_db c.do_piece.new.source.memory c.do_piece.new.self in
    works order old new ids before after c.args.budget (0 + max c.args.budget 1) (Ok c.in-Ok.progress) (omega arith) c.if-self.false
    (then_piece order old mid new ids before between after 0 (max c.args.budget 1) c.in_ok-complete.complete (Ok c.in-Ok.progress) (c.in_ok-complete.ensures.step ids) (c.in-Ok.ensures.step ids))

pub returns-in-Ok-clause-does : goal.returns-in-Ok-clause-does
returns-in-Ok-clause-does g c =
    does_on g.K.KeyOrder.cmp (open_db c.args.source.now.memory c.args.self.now) c.clean.new.source.memory (open_db c.do_piece.new.source.memory c.do_piece.new.self) c.args.options.now c.args.budget (Ok c.in-Ok.progress) c.in_ok-complete.ensures.memory c.in_ok-complete.ensures.same.sequence c.in-Ok.ensures.does

pub returns-in-Err-clause-step : goal.returns-in-Err-clause-step
returns-in-Err-clause-step g c ids =
    let order = order_of g.K.KeyOrder.name g.K.KeyOrder.cmp in
    let old = seen_of g.S.Store.facts c.args.source.now in
    let mid = seen_of g.S.Store.facts c.clean.new.source in
    let new = seen_of g.S.Store.facts c.do_piece.new.source in
    let before = open_db c.args.source.now.memory c.args.self.now in
    let between = open_db c.clean.new.source.memory c.args.self.now in
    let after = open_db c.do_piece.new.source.memory c.do_piece.new.self in
    let complete = c.in_ok-complete.complete in
    let e = c.in-Err.error in
    let cleaned = c.in_ok-complete.ensures in
    let rose : complete ≡ false → old.facts.failures < mid.facts.failures = failures_rose old.facts.failures mid.facts.failures complete cleaned.outcome.failures cleaned.unfailed in
    subst (λ (r : DbError). LeadsOpen order old new ids before after (λ m n. Works m c.args.budget (work_answer (Err r)) n)) (sym c.refusal.ensures)
    (works order old new ids before after c.args.budget (0 + max c.args.budget 1) (Err (refused_as complete e)) (omega arith) c.if-self.false
    (then_refused order old mid new ids before between after (max c.args.budget 1) complete e rose c.in-Err.ensures.outcome.failures (cleaned.step ids) (c.in-Err.ensures.step ids)))

pub returns-in-Ok-clause-tidy : goal.returns-in-Ok-clause-tidy
returns-in-Ok-clause-tidy g c = search rules

pub returns-in-Ok-clause-removes : goal.returns-in-Ok-clause-removes
returns-in-Ok-clause-removes g c = λ idle f.
    let same = c.in-Ok.ensures.idle idle in
    let old = g.S.Store.facts c.args.source.now.tables.store in
    subst (λ state. LosesDead old (g.S.Store.facts c.do_piece.new.source.tables.store) (open_db c.do_piece.new.source.memory state)) (sym same.1)
    (subst (λ source. LosesDead old (g.S.Store.facts source.tables.store) (open_db source.memory c.args.self.now)) (sym same.0) (c.in_ok-complete.ensures.removes ((c.in-Ok.ensures.step no_ids).faithful f)))

pub returns-in-Ok-clause-exact : goal.returns-in-Ok-clause-exact
returns-in-Ok-clause-exact g c =
    let order = order_of g.K.KeyOrder.name g.K.KeyOrder.cmp in
    let old = seen_of g.S.Store.facts c.args.source.now in
    let new = seen_of g.S.Store.facts c.do_piece.new.source in
    let before = open_db c.args.source.now.memory c.args.self.now in
    let after = open_db c.do_piece.new.source.memory c.do_piece.new.self in
    leaves_exactly order old new before after c.args.options.now c.args.budget c.in-Ok.progress (returns-in-Ok-clause-step g c) (λ is. ap (λ s. s.broken) (c.in-Ok.ensures.idle is).1 ∙ c.if-self.false)
    (returns-in-Ok-clause-tidy g c) (returns-in-Ok-clause-does g c)

pub returns-in-Ok-clause-within : goal.returns-in-Ok-clause-within
returns-in-Ok-clause-within g c worked which f =
    let order = order_of g.K.KeyOrder.name g.K.KeyOrder.cmp in
    let old = seen_of g.S.Store.facts c.args.source.now in
    let mid = seen_of g.S.Store.facts c.clean.new.source in
    let before = open_db c.args.source.now.memory c.args.self.now in
    let between = open_db c.clean.new.source.memory c.args.self.now in
    let cleaned = c.in_ok-complete.ensures in
    let piece = c.in-Ok.ensures in
    let inner = piece.within worked (elim which [ inl some ↦ inl some | inr ease ↦ inr (at_ease_on c.args.options.now before c.clean.new.source.memory cleaned.memory ease) ]) f in
    let mid_faithful = (piece.step no_ids).faithful f in
    let new = seen_of g.S.Store.facts c.do_piece.new.source in
    let after = open_db c.do_piece.new.source.memory c.do_piece.new.self in
    let sequences = ap (λ (n : ℕ). n ∷ values_of c.args.self.now.snapshots.entries) (sym cleaned.same.sequence) in
    steps_behind order c.args.options.now old mid new before between after (max c.args.budget 1) cleaned.step (λ m n h. piece_flag m n _ _ h) mid_faithful refl sequences refl
    (tables_stay order old mid before between refl refl refl c.if-self.false (cleaned.removes mid_faithful)) inner

pub returns-in-Ok-clause-dropped : goal.returns-in-Ok-clause-dropped
returns-in-Ok-clause-dropped g c = λ idle.
    let same = c.in-Ok.ensures.idle idle in
    λ generation unused.
    ap (λ source. older_at source.memory.older generation) same.0
    ∙ c.in_ok-complete.ensures.dropped generation (λ used. unused (elim used [
      | inl sealed ↦ inl (ap (λ source. source.memory.sealed) same.0 ∙ sealed)
      | inr read ↦ inr (subst (λ state. IsMemoryUsed state.iterators generation) (sym same.1) read)
    ]))

pub returns-in-Ok-clause-flushes : goal.returns-in-Ok-clause-flushes
returns-in-Ok-clause-flushes g c =
    let order = order_of g.K.KeyOrder.name g.K.KeyOrder.cmp in
    let old = seen_of g.S.Store.facts c.args.source.now in
    let mid = seen_of g.S.Store.facts c.clean.new.source in
    let new = seen_of g.S.Store.facts c.do_piece.new.source in
    let before = open_db c.args.source.now.memory c.args.self.now in
    let after = open_db c.do_piece.new.source.memory c.do_piece.new.self in
    let cleaned = c.in_ok-complete.ensures in
    let piece = c.in-Ok.ensures in
    flushes_behind order old mid new before c.clean.new.source.memory after (Ok c.in-Ok.progress) cleaned.step (λ m n h. piece_flag m n _ _ h) (piece.step no_ids).faithful cleaned.memory piece.flushes

pub returns-then-self-clause-breaks : goal.returns-then-self-clause-breaks
returns-then-self-clause-breaks g c whole = absurd (let broken = c.if-self.true in cc)

pub returns-in_err-complete-clause-breaks : goal.returns-in_err-complete-clause-breaks
returns-in_err-complete-clause-breaks g c whole = unbroken (g.S.Store.facts c.args.source.now.tables.store) (g.S.Store.facts c.clean.new.source.tables.store) c.args.self.now.broken whole c.in_err-complete.ensures.fails

pub returns-in-Ok-clause-breaks : goal.returns-in-Ok-clause-breaks
returns-in-Ok-clause-breaks g c whole = breaks_then (g.S.Store.facts c.args.source.now.tables.store) (g.S.Store.facts c.clean.new.source.tables.store) (g.S.Store.facts c.do_piece.new.source.tables.store) c.do_piece.new.self.broken c.in_ok-complete.ensures.fails (λ is. is) c.in-Ok.ensures.breaks

pub returns-in-Err-clause-breaks : goal.returns-in-Err-clause-breaks
returns-in-Err-clause-breaks g c whole = breaks_then (g.S.Store.facts c.args.source.now.tables.store) (g.S.Store.facts c.clean.new.source.tables.store) (g.S.Store.facts c.do_piece.new.source.tables.store) c.do_piece.new.self.broken c.in_ok-complete.ensures.fails (λ is. refused_io {T = Progress} {U = Progress} c.in_ok-complete.complete c.in-Err.error c.refusal.result c.refusal.ensures is) c.in-Err.ensures.breaks

-- ---- what a process crash leaves

pub returns-then-self-clause-stops : goal.returns-then-self-clause-stops
returns-then-self-clause-stops g c = keeps_none (order_of g.K.KeyOrder.name g.K.KeyOrder.cmp) (seen_of g.S.Store.facts c.args.source.now) (open_db c.args.source.now.memory c.args.self.now)

pub returns-in_err-complete-clause-stops : goal.returns-in_err-complete-clause-stops
returns-in_err-complete-clause-stops g c = c.in_err-complete.ensures.stops

pub returns-in-Ok-clause-stops : goal.returns-in-Ok-clause-stops
returns-in-Ok-clause-stops g c =
    keeps_then (order_of g.K.KeyOrder.name g.K.KeyOrder.cmp) (seen_of g.S.Store.facts c.args.source.now) (seen_of g.S.Store.facts c.clean.new.source) (seen_of g.S.Store.facts c.do_piece.new.source) (open_db c.args.source.now.memory c.args.self.now) (open_db c.clean.new.source.memory c.args.self.now) (λ m. 0) c.in_ok-complete.complete
    c.in_ok-complete.ensures.step (c.in-Ok.ensures.step no_ids).faithful
    c.in_ok-complete.ensures.stops c.in-Ok.ensures.stops

pub returns-in-Err-clause-stops : goal.returns-in-Err-clause-stops
returns-in-Err-clause-stops g c =
    keeps_then (order_of g.K.KeyOrder.name g.K.KeyOrder.cmp) (seen_of g.S.Store.facts c.args.source.now) (seen_of g.S.Store.facts c.clean.new.source) (seen_of g.S.Store.facts c.do_piece.new.source) (open_db c.args.source.now.memory c.args.self.now) (open_db c.clean.new.source.memory c.args.self.now) (λ m. 0) c.in_ok-complete.complete
    c.in_ok-complete.ensures.step (c.in-Err.ensures.step no_ids).faithful
    c.in_ok-complete.ensures.stops c.in-Err.ensures.stops
