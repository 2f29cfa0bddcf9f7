use Rattle.std.proofs.Common.{◌≡◌, ◌<◌, ◌^◌, ◌-◌, true, false, Bool, None, Ok, Err, Result, IsSome, MatchBool, sym, ap, subst, arith, rules, ◌∙◌}
use Rattle.coding.specs.declared.error.DbError.{DbError}
use Rattle.ikey.specs.Orders.{order_of}
use Rattle.memtables.specs.PlaceLaws.{left_onward}
use Rattle.engine.specs.Finishing.{CompactOutcome}
use Rattle.engine.specs.internal.JobsToEnd.{EndsJob, HasCome}
use Rattle.engine.specs.internal.Leading.{LeadsOpen}
use Rattle.engine.specs.OpenDb.{open_db}
use Rattle.db_cursor.specs.Whole.{seen_of}
use Rattle.engine.specs.internal.Pieces.{IsPiece, MayRefusePiece}
use Rattle.engine.proofs.Finishing.{job_there, outcome_all, outcome_done, outcome_of, outcome_then, serves_then, taken_all, taken_done, taken_ended, taken_merged, taken_more, taken_none, taken_refused}
use Rattle.engine.proofs.Flags.{piece_flag}
use Rattle.engine.proofs.NeededEnds.{needed_behind}
use Rattle.engine.proofs.Breaking.{breaks_then, handed_on, serves_breaks, unbroken}
use Rattle.engine.proofs.StopSteps.{keeps_then}
use Rattle.engine.specs.Stands.{no_ids}
use Rattle.engine.proofs.state.DbState.take_steps.Goals as goal

pub loop-init : goal.loop-init
loop-init g c =
    let there = job_there c.args.self.now.job c.requires.job in
    taken_none (order_of g.K.KeyOrder.name g.K.KeyOrder.cmp) (seen_of g.S.Store.facts c.args.source.now) (open_db c.args.source.now.memory c.args.self.now) there.0 c.requires.whole there.1

pub loop-preserved : goal.loop-preserved
loop-preserved g c =
    let order = order_of g.K.KeyOrder.name g.K.KeyOrder.cmp in
    let old = seen_of g.S.Store.facts c.args.source.now in
    let mid = seen_of g.S.Store.facts c.loop.source in
    let new = seen_of g.S.Store.facts c.step_job.new.source in
    let before = open_db c.args.source.now.memory c.args.self.now in
    let between = open_db c.loop.source.memory c.loop.self in
    let after = open_db c.step_job.new.source.memory c.step_job.new.self in
    let a = c.in_ok-step_job.ensures in
    let going : c.in_ok-step_job.field-0 ≡ false = search rules in
    let some = subst (λ (b : Bool). MatchBool b (c.step_job.new.self.job ≡ None) (IsSome c.step_job.new.self.job)) going a.ended in
    taken_more order old mid new before between after c.loop.counter c.loop.invariant a.on some a.serves a.memory (a.all (ap (λ (b : Bool). Ok b) going)) (a.beside (ap (λ (b : Bool). Ok b) going))
    (λ ids. subst (λ (b : Bool). LeadsOpen order mid new ids between after (λ m n. IsPiece m 1 (Ok b) n)) going (a.step ids)) a.stops

pub returns-in_err-step_job-clause-step : goal.returns-in_err-step_job-clause-step
returns-in_err-step_job-clause-step g c ids =
    let order = order_of g.K.KeyOrder.name g.K.KeyOrder.cmp in
    let old = seen_of g.S.Store.facts c.args.source.now in
    let mid = seen_of g.S.Store.facts c.loop.source in
    let new = seen_of g.S.Store.facts c.step_job.new.source in
    let before = open_db c.args.source.now.memory c.args.self.now in
    let between = open_db c.loop.source.memory c.loop.self in
    let after = open_db c.step_job.new.source.memory c.step_job.new.self in
    let e = c.in_err-step_job.field-0.0 in
    let said : c.from_residual.result ≡ Err e = search rules in
    let below : c.loop.counter < 2 ^ 64 - 1 = omega (arith, c.loop-test.true) in
    subst (λ (r : Result _ DbError). LeadsOpen order old new ids before after (λ m n. EndsJob m r n)) (sym said)
    (taken_refused order old mid new before between after c.loop.counter c.loop.invariant g.met.K.KeyOrder.total ids e below (c.in_err-step_job.ensures.step ids))

pub returns-in_err-step_job-clause-outcome : goal.returns-in_err-step_job-clause-outcome
returns-in_err-step_job-clause-outcome g c =
    let facts = g.S.Store.facts in
    let old = facts c.args.source.now.tables.store in
    let mid = facts c.loop.source.tables.store in
    let new = facts c.step_job.new.source.tables.store in
    let before = open_db c.args.source.now.memory c.args.self.now in
    let between = open_db c.loop.source.memory c.loop.self in
    let after = open_db c.step_job.new.source.memory c.step_job.new.self in
    let e = c.in_err-step_job.field-0.0 in
    let said : c.from_residual.result ≡ Err e = search rules in
    let a = c.in_err-step_job.ensures in
    subst (λ (r : Result _ DbError). CompactOutcome MayRefusePiece old new before after r) (sym said)
    (outcome_then MayRefusePiece old mid new before between after (Err e) c.requires.whole c.loop.invariant.serves (outcome_of mid new between after e a.lock a.outcome))

pub returns-in_err-step_job-clause-memory : goal.returns-in_err-step_job-clause-memory
returns-in_err-step_job-clause-memory g c = left_onward c.args.source.now.memory c.loop.source.memory c.step_job.new.source.memory c.loop.invariant.memory c.in_err-step_job.ensures.memory

pub returns-then-branch-clause-step : goal.returns-then-branch-clause-step
returns-then-branch-clause-step g c ids =
    let order = order_of g.K.KeyOrder.name g.K.KeyOrder.cmp in
    let old = seen_of g.S.Store.facts c.args.source.now in
    let mid = seen_of g.S.Store.facts c.loop.source in
    let new = seen_of g.S.Store.facts c.step_job.new.source in
    let before = open_db c.args.source.now.memory c.args.self.now in
    let between = open_db c.loop.source.memory c.loop.self in
    let after = open_db c.step_job.new.source.memory c.step_job.new.self in
    let a = c.in_ok-step_job.ensures in
    let ended : c.in_ok-step_job.field-0 ≡ true = search rules in
    let below : c.loop.counter < 2 ^ 64 - 1 = omega (arith, c.loop-test.true) in
    taken_ended order old mid new before between after c.loop.counter c.loop.invariant ids below
    (subst (λ (b : Bool). LeadsOpen order mid new ids between after (λ m n. HasCome 1 between m (Ok b) n)) ended (a.come (ap (λ (b : Bool). Ok b) ended) ids))

pub returns-then-branch-clause-serves : goal.returns-then-branch-clause-serves
returns-then-branch-clause-serves g c =
    let facts = g.S.Store.facts in
    let old = facts c.args.source.now.tables.store in
    let mid = facts c.loop.source.tables.store in
    let new = facts c.step_job.new.source.tables.store in
    let before = open_db c.args.source.now.memory c.args.self.now in
    let between = open_db c.loop.source.memory c.loop.self in
    let after = open_db c.step_job.new.source.memory c.step_job.new.self in
    serves_then old mid new before between after c.loop.invariant.serves c.in_ok-step_job.ensures.serves

pub returns-then-branch-clause-outcome : goal.returns-then-branch-clause-outcome
returns-then-branch-clause-outcome g c =
    let facts = g.S.Store.facts in
    let old = facts c.args.source.now.tables.store in
    let mid = facts c.loop.source.tables.store in
    let new = facts c.step_job.new.source.tables.store in
    let before = open_db c.args.source.now.memory c.args.self.now in
    let between = open_db c.loop.source.memory c.loop.self in
    let after = open_db c.step_job.new.source.memory c.step_job.new.self in
    outcome_done MayRefusePiece old new before after (tt {0}) c.requires.whole (serves_then old mid new before between after c.loop.invariant.serves c.in_ok-step_job.ensures.serves)

pub returns-then-branch-clause-memory : goal.returns-then-branch-clause-memory
returns-then-branch-clause-memory g c = left_onward c.args.source.now.memory c.loop.source.memory c.step_job.new.source.memory c.loop.invariant.memory c.in_ok-step_job.ensures.memory

pub returns-then-branch-clause-none : goal.returns-then-branch-clause-none
returns-then-branch-clause-none g c =
    let ended : c.in_ok-step_job.field-0 ≡ true = search rules in
    subst (λ (b : Bool). MatchBool b (c.step_job.new.self.job ≡ None) (IsSome c.step_job.new.self.job)) ended c.in_ok-step_job.ensures.ended

pub returns-then-branch-clause-done : goal.returns-then-branch-clause-done
returns-then-branch-clause-done g c =
    let order = order_of g.K.KeyOrder.name g.K.KeyOrder.cmp in
    let old = seen_of g.S.Store.facts c.args.source.now in
    let mid = seen_of g.S.Store.facts c.loop.source in
    let new = seen_of g.S.Store.facts c.step_job.new.source in
    let before = open_db c.args.source.now.memory c.args.self.now in
    let between = open_db c.loop.source.memory c.loop.self in
    let after = open_db c.step_job.new.source.memory c.step_job.new.self in
    let ended : c.in_ok-step_job.field-0 ≡ true = search rules in
    let none = subst (λ (b : Bool). MatchBool b (c.step_job.new.self.job ≡ None) (IsSome c.step_job.new.self.job)) ended c.in_ok-step_job.ensures.ended in
    taken_done order old mid new before between after c.loop.counter c.loop.invariant c.in_ok-step_job.ensures.on none

pub returns-clause-step : goal.returns-clause-step
returns-clause-step g c ids =
    let order = order_of g.K.KeyOrder.name g.K.KeyOrder.cmp in
    let old = seen_of g.S.Store.facts c.args.source.now in
    let new = seen_of g.S.Store.facts c.loop.source in
    let before = open_db c.args.source.now.memory c.args.self.now in
    let after = open_db c.loop.source.memory c.loop.self in
    let all : c.loop.counter ≡ 2 ^ 64 - 1 = omega (arith, c.loop-test.false, c.loop.auto.counter-end) in
    taken_all order g.met.K.KeyOrder.total old new before after c.loop.counter c.loop.invariant all ids

pub returns-clause-outcome : goal.returns-clause-outcome
returns-clause-outcome g c =
    let facts = g.S.Store.facts in
    outcome_all (facts c.args.source.now.tables.store) (facts c.loop.source.tables.store) (open_db c.args.source.now.memory c.args.self.now) (open_db c.loop.source.memory c.loop.self) c.requires.whole c.loop.invariant.serves

pub returns-then-branch-clause-needed : goal.returns-then-branch-clause-needed
returns-then-branch-clause-needed g c takes =
    let order = order_of g.K.KeyOrder.name g.K.KeyOrder.cmp in
    let old = seen_of g.S.Store.facts c.args.source.now in
    let mid = seen_of g.S.Store.facts c.loop.source in
    let new = seen_of g.S.Store.facts c.step_job.new.source in
    let before = open_db c.args.source.now.memory c.args.self.now in
    let between = open_db c.loop.source.memory c.loop.self in
    let after = open_db c.step_job.new.source.memory c.step_job.new.self in
    let a = c.in_ok-step_job.ensures in
    let ended : c.in_ok-step_job.field-0 ≡ true = search rules in
    needed_behind order old mid new before between after c.loop.invariant.step (λ m n h. piece_flag m n _ _ h) a.step (a.needed (ap (λ (b : Bool). Ok b) ended) (c.loop.invariant.all takes))

pub returns-then-branch-clause-merges : goal.returns-then-branch-clause-merges
returns-then-branch-clause-merges g c =
    let order = order_of g.K.KeyOrder.name g.K.KeyOrder.cmp in
    let old = seen_of g.S.Store.facts c.args.source.now in
    let mid = seen_of g.S.Store.facts c.loop.source in
    let new = seen_of g.S.Store.facts c.step_job.new.source in
    let before = open_db c.args.source.now.memory c.args.self.now in
    let between = open_db c.loop.source.memory c.loop.self in
    let after = open_db c.step_job.new.source.memory c.step_job.new.self in
    let a = c.in_ok-step_job.ensures in
    taken_merged order old mid new before between after c.loop.counter c.loop.invariant g.met.K.KeyOrder.total c.requires.whole a.step (a.merges (returns-then-branch-clause-none g c))

pub returns-in_err-step_job-clause-breaks : goal.returns-in_err-step_job-clause-breaks
returns-in_err-step_job-clause-breaks g c = breaks_then (g.S.Store.facts c.args.source.now.tables.store) (g.S.Store.facts c.loop.source.tables.store) (g.S.Store.facts c.step_job.new.source.tables.store) c.step_job.new.self.broken c.loop.invariant.serves.unwritten (λ is. handed_on c.in_err-step_job.field-0.0 c.from_residual.result (search rules) is) c.in_err-step_job.ensures.breaks

pub returns-then-branch-clause-breaks : goal.returns-then-branch-clause-breaks
returns-then-branch-clause-breaks g c = unbroken (g.S.Store.facts c.args.source.now.tables.store) (g.S.Store.facts c.step_job.new.source.tables.store) c.step_job.new.self.broken c.in_ok-step_job.ensures.serves.whole (c.in_ok-step_job.ensures.serves.unwritten ∙ c.loop.invariant.serves.unwritten)

pub returns-clause-breaks : goal.returns-clause-breaks
returns-clause-breaks g c = serves_breaks (g.S.Store.facts c.args.source.now.tables.store) (g.S.Store.facts c.loop.source.tables.store) (open_db c.args.source.now.memory c.args.self.now) (open_db c.loop.source.memory c.loop.self) c.loop.invariant.serves

-- ---- what a process crash leaves

pub returns-in_err-step_job-clause-stops : goal.returns-in_err-step_job-clause-stops
returns-in_err-step_job-clause-stops g c =
    keeps_then (order_of g.K.KeyOrder.name g.K.KeyOrder.cmp) (seen_of g.S.Store.facts c.args.source.now) (seen_of g.S.Store.facts c.loop.source) (seen_of g.S.Store.facts c.step_job.new.source) (open_db c.args.source.now.memory c.args.self.now) (open_db c.loop.source.memory c.loop.self) (λ m. c.loop.counter) (tt {0})
    c.loop.invariant.step (c.in_err-step_job.ensures.step no_ids).faithful
    c.loop.invariant.stops c.in_err-step_job.ensures.stops

pub returns-then-branch-clause-stops : goal.returns-then-branch-clause-stops
returns-then-branch-clause-stops g c =
    keeps_then (order_of g.K.KeyOrder.name g.K.KeyOrder.cmp) (seen_of g.S.Store.facts c.args.source.now) (seen_of g.S.Store.facts c.loop.source) (seen_of g.S.Store.facts c.step_job.new.source) (open_db c.args.source.now.memory c.args.self.now) (open_db c.loop.source.memory c.loop.self) (λ m. c.loop.counter) (tt {0})
    c.loop.invariant.step (c.in_ok-step_job.ensures.step no_ids).faithful
    c.loop.invariant.stops c.in_ok-step_job.ensures.stops

pub returns-clause-stops : goal.returns-clause-stops
returns-clause-stops g c = c.loop.invariant.stops
