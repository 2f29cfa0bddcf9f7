use Rattle.std.proofs.Common.{List, subst, sym}
use Rattle.std.proofs.lemmas.Result.{err_from_is_err_and}
use Rattle.store.specs.Stops.{LeavesOnly}
use Rattle.mending.specs.Losing.{HaveNamesStayed, LosesBy}
use Rattle.mending.specs.Mending.{AreBetween, AreBetweenLost, AreDone, AreLogged}
use Rattle.mending.specs.Plans.{IsBeyond, IsUnmendable}
use Rattle.mending.specs.declared.finding.Cut.{Cut}
use Rattle.mending.proofs.LosingCuts.{planned_loses, read_loses}
use Rattle.mending.proofs.Saying.{refuses_later}
use Rattle.mending.proofs.Writing.{writes_both}
use Rattle.mending.proofs.Leaving.{writes_of, read_stops, locked_stops, locked_mends}
use Rattle.mending.proofs.applying.mend_locked.Goals as goal

pub apply-requires : goal.apply-requires
apply-requires g c = subst AreLogged (sym c.deref.ensures.value) c.in_ok-plan.ensures.logged

pub returns-in_err-plan-clause-writes : goal.returns-in_err-plan-clause-writes
returns-in_err-plan-clause-writes g c = writes_of (g.S.Store.facts c.args.store.now) (g.S.Store.facts c.plan_cuts.new.store) c.in_err-plan.ensures.reads

pub returns-in_err-plan-clause-stops : goal.returns-in_err-plan-clause-stops
returns-in_err-plan-clause-stops g c f = read_stops g.K.KeyOrder.name c.args.ends (g.S.Store.facts c.args.store.now) (g.S.Store.facts c.plan_cuts.new.store) c.in_err-plan.ensures.reads f

pub returns-in_err-apply-clause-writes : goal.returns-in_err-apply-clause-writes
returns-in_err-apply-clause-writes g c =
    let old = g.S.Store.facts c.args.store.now in
    let mid = g.S.Store.facts c.plan_cuts.new.store in
    writes_both old mid (g.S.Store.facts c.apply.new.store) (writes_of old mid c.in_ok-plan.ensures.reads) c.in_err-apply.ensures.writes

pub returns-in_err-apply-clause-stops : goal.returns-in_err-apply-clause-stops
returns-in_err-apply-clause-stops g c f =
    let old = g.S.Store.facts c.args.store.now in
    let mid = g.S.Store.facts c.plan_cuts.new.store in
    let new = g.S.Store.facts c.apply.new.store in
    let m = c.in_err-apply.ensures.writes.faithful f in
    locked_stops g.K.KeyOrder.name c.args.ends old mid new c.in_ok-plan.plan.manifest c.in_ok-plan.plan.cuts.items c.in_ok-plan.ensures.reads m (c.in_ok-plan.ensures.found m)
    (subst (λ (cs : List Cut). LeavesOnly mid new (AreBetween cs mid.files)) c.deref.ensures.value (c.in_err-apply.ensures.stops f))

pub returns-in_err-apply-clause-refused : goal.returns-in_err-apply-clause-refused
returns-in_err-apply-clause-refused g c =
    let p = err_from_is_err_and c.from_residual-in_err-apply.result c.from_residual-in_err-apply.ensures.1 in
    let old = g.S.Store.facts c.args.store.now in
    rw (p.1, p.2) (refuses_later c.in_err-apply.field-0.0 old (g.S.Store.facts c.plan_cuts.new.store) (g.S.Store.facts c.apply.new.store) ⊥ ⊥ (IsUnmendable g.K.KeyOrder.name c.args.ends old.files) (IsBeyond g.K.KeyOrder.name c.args.ends old.files)
    c.in_ok-plan.ensures.reads (λ f d. absurd d) (λ f u. absurd u) c.in_err-apply.ensures.refused)

pub returns-clause-writes : goal.returns-clause-writes
returns-clause-writes g c =
    let old = g.S.Store.facts c.args.store.now in
    let mid = g.S.Store.facts c.plan_cuts.new.store in
    writes_both old mid (g.S.Store.facts c.apply.new.store) (writes_of old mid c.in_ok-plan.ensures.reads) c.in_ok-apply.ensures.writes

pub returns-clause-mended : goal.returns-clause-mended
returns-clause-mended g c f =
    let old = g.S.Store.facts c.args.store.now in
    let mid = g.S.Store.facts c.plan_cuts.new.store in
    let new = g.S.Store.facts c.apply.new.store in
    let m = c.in_ok-apply.ensures.writes.faithful f in
    locked_mends g.K.KeyOrder.name c.args.ends old mid new c.in_ok-plan.plan.manifest c.in_ok-plan.plan.cuts.items c.in_ok-plan.ensures.reads m (c.in_ok-plan.ensures.found m)
    (subst (λ (cs : List Cut). LeavesOnly mid new (AreBetween cs mid.files)) c.deref.ensures.value (c.in_ok-apply.ensures.stops f))
    (subst (λ (cs : List Cut). AreDone cs cs new.files) c.deref.ensures.value (c.in_ok-apply.ensures.done f))

pub returns-clause-stops : goal.returns-clause-stops
returns-clause-stops g c f =
    let old = g.S.Store.facts c.args.store.now in
    let mid = g.S.Store.facts c.plan_cuts.new.store in
    let new = g.S.Store.facts c.apply.new.store in
    let m = c.in_ok-apply.ensures.writes.faithful f in
    locked_stops g.K.KeyOrder.name c.args.ends old mid new c.in_ok-plan.plan.manifest c.in_ok-plan.plan.cuts.items c.in_ok-plan.ensures.reads m (c.in_ok-plan.ensures.found m)
    (subst (λ (cs : List Cut). LeavesOnly mid new (AreBetween cs mid.files)) c.deref.ensures.value (c.in_ok-apply.ensures.stops f))

-- ---- what a power loss leaves

pub returns-in_err-plan-clause-loses : goal.returns-in_err-plan-clause-loses
returns-in_err-plan-clause-loses g c f stayed = read_loses g.K.KeyOrder.name c.args.ends (g.S.Store.facts c.args.store.now) (g.S.Store.facts c.plan_cuts.new.store) c.in_err-plan.ensures.reads f

pub returns-in_err-apply-clause-loses : goal.returns-in_err-apply-clause-loses
returns-in_err-apply-clause-loses g c f stayed =
    let old = g.S.Store.facts c.args.store.now in
    let mid = g.S.Store.facts c.plan_cuts.new.store in
    let new = g.S.Store.facts c.apply.new.store in
    let m = c.in_err-apply.ensures.writes.faithful f in
    let done = c.in_err-apply.ensures in
    planned_loses g.K.KeyOrder.name c.args.ends old mid new c.in_ok-plan.plan.manifest c.in_ok-plan.plan.cuts.items c.in_ok-plan.ensures.reads m (c.in_ok-plan.ensures.found m)
    (subst (λ (cs : List Cut). LeavesOnly mid new (AreBetween cs mid.files)) c.deref.ensures.value (done.stops f))
    (subst (λ (cs : List Cut). HaveNamesStayed mid → LosesBy mid new (AreBetweenLost cs)) c.deref.ensures.value (done.loses f)) stayed

pub returns-clause-loses : goal.returns-clause-loses
returns-clause-loses g c f stayed =
    let old = g.S.Store.facts c.args.store.now in
    let mid = g.S.Store.facts c.plan_cuts.new.store in
    let new = g.S.Store.facts c.apply.new.store in
    let m = c.in_ok-apply.ensures.writes.faithful f in
    let done = c.in_ok-apply.ensures in
    planned_loses g.K.KeyOrder.name c.args.ends old mid new c.in_ok-plan.plan.manifest c.in_ok-plan.plan.cuts.items c.in_ok-plan.ensures.reads m (c.in_ok-plan.ensures.found m)
    (subst (λ (cs : List Cut). LeavesOnly mid new (AreBetween cs mid.files)) c.deref.ensures.value (done.stops f))
    (subst (λ (cs : List Cut). HaveNamesStayed mid → LosesBy mid new (AreBetweenLost cs)) c.deref.ensures.value (done.loses f)) stayed

pub returns-clause-planned : goal.returns-clause-planned
returns-clause-planned g c f = c.in_ok-plan.ensures.found (c.in_ok-apply.ensures.writes.faithful f)
