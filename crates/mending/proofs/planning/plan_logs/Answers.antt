use Rattle.std.proofs.Common.{get_or, subst, refl, ℕ, List}
use Rattle.std.specs.Prelude.{Contains}
use Rattle.std.proofs.lemmas.List.{take_all}
use Rattle.std.proofs.lemmas.Result.{err_from_is_err_and}
use Rattle.edits.specs.declared.names.FileName.TheVariants.{Log}
use Rattle.mending.specs.Plans.{HasNoFront, PlansLogs}
use Rattle.mending.proofs.Saying.{reads_itself, reads_both, refuses_later}
use Rattle.mending.proofs.PlannedCuts.{read-again, log_at, plans_moved, front_moved, logs_step}
use Rattle.mending.proofs.planning.plan_logs.Goals as goal

pub loop-n-init : goal.loop-n-init
loop-n-init g c = (reads_itself (g.S.Store.facts c.args.store.now), λ x. x, λ f. refl)

pub plan_log-requires : goal.plan_log-requires
plan_log-requires g c =
    let i = c.loop-n.n-index in
    c.requires (get_or c.args.logs.now i 0) (log_at c.args.logs.now i c.loop-n-test.true)

pub loop-n-preserved : goal.loop-n-preserved
loop-n-preserved g c =
    let old = g.S.Store.facts c.args.store.now in
    let mid = g.S.Store.facts c.loop-n.store in
    let new = g.S.Store.facts c.plan_log.new.store in
    let logs = c.args.logs.now in
    let i = c.loop-n.n-index in
    let before = c.loop-n.invariant in
    let one = c.in_ok-plan_log.ensures in (
      reads_both old mid new before.0 one.reads,
      λ named. one.logged (before.1 named),
      λ f. let m = one.reads.faithful f in
          logs_step c.args.ends old.files logs i (get_or logs i 0) c.args.cuts.now.items c.loop-n.cuts.items c.plan_log.new.cuts.items c.loop-n-test.true (read-again logs i c.loop-n-test.true)
          (before.2 m) (plans_moved c.args.ends old mid (Log (get_or logs i 0)) c.loop-n.cuts.items c.plan_log.new.cuts.items (before.0.same m) (one.found f)),
    )

pub returns-in_err-plan_log-clause-reads : goal.returns-in_err-plan_log-clause-reads
returns-in_err-plan_log-clause-reads g c =
    reads_both (g.S.Store.facts c.args.store.now) (g.S.Store.facts c.loop-n.store) (g.S.Store.facts c.plan_log.new.store) c.loop-n.invariant.0 c.in_err-plan_log.ensures.reads

pub returns-in_err-plan_log-clause-refused : goal.returns-in_err-plan_log-clause-refused
returns-in_err-plan_log-clause-refused g c =
    let p = err_from_is_err_and c.from_residual.result c.from_residual.ensures.1 in
    let old = g.S.Store.facts c.args.store.now in
    let mid = g.S.Store.facts c.loop-n.store in
    let new = g.S.Store.facts c.plan_log.new.store in
    let logs = c.args.logs.now in
    let i = c.loop-n.n-index in
    let n = get_or logs i 0 in
    rw (p.1, p.2) (refuses_later c.in_err-plan_log.field-0.0 old mid new (HasNoFront c.args.ends mid.files (Log n)) ⊥ ((m : ℕ) × Contains logs m × HasNoFront c.args.ends old.files (Log m)) ⊥
    c.loop-n.invariant.0
    (λ f d. (n, log_at logs i c.loop-n-test.true, front_moved c.args.ends old mid (Log n) (c.loop-n.invariant.0.same (c.in_err-plan_log.ensures.reads.faithful f)) d))
    (λ f u. u) c.in_err-plan_log.ensures.refused)

pub returns-clause-found : goal.returns-clause-found
returns-clause-found g c f =
    let old = g.S.Store.facts c.args.store.now in
    subst (λ (ns : List ℕ). PlansLogs c.args.ends old.files ns c.args.cuts.now.items c.loop-n.cuts.items) (take_all c.loop-n.n-index c.args.logs.now c.loop-n-test.false) (c.loop-n.invariant.2 f)
