use Rattle.std.proofs.Common.{◌≡◌, ◌∙◌, Result, Ok, Err, ap, length, subst, sym, rules}
use Rattle.coding.specs.declared.error.DbError.{DbError}
use Rattle.ikey.specs.Orders.{order_of}
use Rattle.engine.specs.Pace.{WritesAtPace}
use Rattle.engine.specs.Pacing.{WritesAndWorks}
use Rattle.engine.specs.StandsDb.{FollowsDb}
use Rattle.engine.specs.declared.pace.Pace.{Pace}
use Rattle.engine.proofs.Flags.{writes_flag}
use Rattle.engine.proofs.LosingDb.{db_found_written, db_loses_written}
use Rattle.engine.proofs.PaceRuns.{brings, waits, write_of}
use Rattle.engine.proofs.PaceSteps.{draws_none}
use Rattle.machine.specs.declared.command.Answer.TheVariants.{Done}
use Rattle.engine.proofs.RangeLeads.{leads_as, leads_then}
use Rattle.store.proofs.Stopping.{leaves_both, leaves_so}
use Rattle.engine.specs.Headline.{HoldsAccepted}
use Rattle.engine.specs.Stops.{LeftByWrite}
use Rattle.engine.specs.StandsDb.{db_ids_of, db_store_of, open_by, seen_by}
use Rattle.engine.proofs.Stopping.{written_back}
use Rattle.engine.proofs.db.Db.write_and_work.Goals as goal

pub returns-in_err-write-clause-step : goal.returns-in_err-write-clause-step
returns-in_err-write-clause-step g c =
    let order = order_of g.K.KeyOrder.name g.K.KeyOrder.cmp in
    let is : c.from_residual.result ≡ Err c.in_err-write.field-0.0 = search rules in
    subst (λ (result : Result Pace DbError). FollowsDb order g.S.Store.facts c.args.self.now c.write.new.self (λ m n. WritesAtPace m c.args.batch.now c.args.sync result n)) (sym is)
    (leads_as (λ m n h. h) c.in_err-write.ensures.step)

pub returns-then-can_wait-clause-step : goal.returns-then-can_wait-clause-step
returns-then-can_wait-clause-step g c = leads_as (λ m n h. (n, h, draws_none n)) c.in_ok-write.ensures.step

pub returns-clause-step : goal.returns-clause-step
returns-clause-step g c = leads_then (λ m n o h k. (n, h, k)) c.in_ok-write.ensures.step c.keep_up.ensures.step

pub returns-clause-stops : goal.returns-clause-stops
returns-clause-stops g c f m undamaged s =
    let order = order_of g.K.KeyOrder.name g.K.KeyOrder.cmp in
    let facts = g.S.Store.facts in
    let old = c.args.self.now in
    let mid = c.write.new.self in
    let new = c.keep_up.new.self in
    let between = c.keep_up.ensures.step.faithful f in
    let one = c.in_ok-write.ensures.step.moved between m s in
    leaves_both (facts (db_store_of old)) (facts (db_store_of mid)) (facts (db_store_of new)) (λ files. LeftByWrite order m c.args.batch.now files) (c.write.ensures.stops between m undamaged s)
    (leaves_so (facts (db_store_of mid)) (facts (db_store_of new)) (λ files. HoldsAccepted order files one.0) (λ files. LeftByWrite order m c.args.batch.now files)
    (λ files holds. written_back order (seen_by facts old) (db_ids_of old) (open_by old) m one.0 c.args.batch.now c.args.sync s one.1 files holds) (c.keep_up.ensures.stops f one.0 (writes_flag m one.0 c.args.batch.now c.args.sync Done one.1 ∙ undamaged) one.2))

pub returns-clause-loses : goal.returns-clause-loses
returns-clause-loses g c =
    db_loses_written (order_of g.K.KeyOrder.name g.K.KeyOrder.cmp) g.S.Store.facts c.args.self.now c.write.new.self c.keep_up.new.self c.keep_up.ensures.step.faithful c.write.ensures.found c.args.batch.now c.args.sync c.in_ok-write.ensures.step
    c.keep_up.ensures.stops c.write.ensures.loses c.keep_up.ensures.loses

pub returns-in_err-write-clause-found : goal.returns-in_err-write-clause-found
returns-in_err-write-clause-found g c = c.write.ensures.found

pub returns-then-can_wait-clause-found : goal.returns-then-can_wait-clause-found
returns-then-can_wait-clause-found g c = c.write.ensures.found

pub returns-clause-found : goal.returns-clause-found
returns-clause-found g c =
    db_found_written (order_of g.K.KeyOrder.name g.K.KeyOrder.cmp) g.S.Store.facts c.args.self.now c.write.new.self c.keep_up.new.self c.keep_up.ensures.step.faithful c.write.ensures.found c.args.batch.now c.args.sync c.in_ok-write.ensures.step c.keep_up.ensures.found

-- ---- which calls it is

pub returns-in_err-write-clause-does : goal.returns-in_err-write-clause-does
returns-in_err-write-clause-does g c =
    let is : c.from_residual.result ≡ Err c.in_err-write.field-0.0 = search rules in
    subst (λ (result : Result Pace DbError). WritesAndWorks (order_of g.K.KeyOrder.name g.K.KeyOrder.cmp) g.S.Store.facts c.args.batch.now c.args.sync c.args.self.now c.write.new.self result) (sym is)
    (write_of (order_of g.K.KeyOrder.name g.K.KeyOrder.cmp) g.S.Store.facts c.args.batch.now c.args.sync c.args.self.now c.write.new.self (Err c.in_err-write.field-0.0) c.in_err-write.ensures.step c.in_err-write.ensures.outcome c.in_err-write.ensures.caused c.in_err-write.ensures.empty c.in_err-write.ensures.syncs)

pub returns-then-can_wait-clause-does : goal.returns-then-can_wait-clause-does
returns-then-can_wait-clause-does g c = (
  c.write.new.self,
  (write_of (order_of g.K.KeyOrder.name g.K.KeyOrder.cmp) g.S.Store.facts c.args.batch.now c.args.sync c.args.self.now c.write.new.self (Ok tt) c.in_ok-write.ensures.step c.in_ok-write.ensures.outcome c.in_ok-write.ensures.caused c.in_ok-write.ensures.empty c.in_ok-write.ensures.syncs),
  waits (order_of g.K.KeyOrder.name g.K.KeyOrder.cmp) g.S.Store.facts (length c.args.batch.now) c.args.self.now c.write.new.self c.last-last.result c.size-size.result c.last-last.ensures.is c.size-size.ensures c.if-can_wait.ensures,
)

pub returns-clause-does : goal.returns-clause-does
returns-clause-does g c = (
  c.write.new.self,
  (write_of (order_of g.K.KeyOrder.name g.K.KeyOrder.cmp) g.S.Store.facts c.args.batch.now c.args.sync c.args.self.now c.write.new.self (Ok tt) c.in_ok-write.ensures.step c.in_ok-write.ensures.outcome c.in_ok-write.ensures.caused c.in_ok-write.ensures.empty c.in_ok-write.ensures.syncs),
  brings (order_of g.K.KeyOrder.name g.K.KeyOrder.cmp) g.S.Store.facts (length c.args.batch.now) c.args.self.now c.write.new.self c.last-last.result c.size-size.result c.last-last.ensures.is c.size-size.ensures
      c.keep_up.new.self c.keep_up.result (length c.ops.result.now) c.share_of-share.result c.if-can_wait.ensures (ap length c.ops.ensures) c.share_of-share.ensures c.keep_up.ensures.does,
)
