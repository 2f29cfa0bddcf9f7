use Rattle.std.proofs.Common.{subst, List}
use Rattle.std.proofs.lemmas.List.{take_all}
use Rattle.std.proofs.lemmas.Result.{err_from_is_err_and}
use Rattle.edits.specs.Names.{name_of}
use Rattle.mending.specs.Mending.{AreBetween, AreDone}
use Rattle.mending.specs.declared.finding.Cut.{Cut}
use Rattle.store.proofs.Stopping.{stays}
use Rattle.mending.proofs.AppliedCuts.{between_itself, between_step, done_step, logged_at, refused_behind}
use Rattle.mending.proofs.LosingCuts.{cuts_none, cuts_step, stayed_durable}
use Rattle.mending.proofs.Writing.{writes_itself, writes_both}
use Rattle.mending.proofs.applying.apply.Goals as goal

pub loop-cut-init : goal.loop-cut-init
loop-cut-init g c =
    let old = g.S.Store.facts c.args.store.now in
    (writes_itself old, λ f. stays old (AreBetween c.args.cuts.now old.files) (between_itself c.args.cuts.now old.files), λ f. tt, λ f stayed. (cuts_none c.args.cuts.now old, stayed))

pub apply_one-requires : goal.apply_one-requires
apply_one-requires g c = logged_at c.args.cuts.now c.loop-cut.cut-index c.cut-item.result c.loop-cut-test.true c.cut-item.is c.requires

pub loop-cut-preserved : goal.loop-cut-preserved
loop-cut-preserved g c =
    let old = g.S.Store.facts c.args.store.now in
    let mid = g.S.Store.facts c.loop-cut.store in
    let new = g.S.Store.facts c.apply_one.new.store in
    let cuts = c.args.cuts.now in
    let i = c.loop-cut.cut-index in
    let before = c.loop-cut.invariant in
    let one = c.in_ok-apply_one.ensures in (
      writes_both old mid new before.0 one.writes,
      λ f. between_step cuts old mid new i c.cut-item.result c.loop-cut-test.true c.cut-item.is (before.1 (one.writes.faithful f)) (one.stops f),
      λ f. done_step cuts mid.files new.files i c.cut-item.result c.loop-cut-test.true c.cut-item.is c.requires (before.2 (one.writes.faithful f)) (one.replaced f),
      λ f stayed.
          let m = one.writes.faithful f in
          let so_far = before.3 m stayed in (
            cuts_step cuts old mid new i c.cut-item.result c.loop-cut-test.true c.cut-item.is (before.1 m) (one.stops f) so_far.0 (one.loses f so_far.1),
            stayed_durable new (name_of c.cut-item.result.file) c.cut-item.result.front.items (one.durable f),
          ),
    )

pub returns-in_err-apply_one-clause-writes : goal.returns-in_err-apply_one-clause-writes
returns-in_err-apply_one-clause-writes g c =
    writes_both (g.S.Store.facts c.args.store.now) (g.S.Store.facts c.loop-cut.store) (g.S.Store.facts c.apply_one.new.store) c.loop-cut.invariant.0 c.in_err-apply_one.ensures.writes

pub returns-in_err-apply_one-clause-stops : goal.returns-in_err-apply_one-clause-stops
returns-in_err-apply_one-clause-stops g c f =
    let one = c.in_err-apply_one.ensures in
    between_step c.args.cuts.now (g.S.Store.facts c.args.store.now) (g.S.Store.facts c.loop-cut.store) (g.S.Store.facts c.apply_one.new.store) c.loop-cut.cut-index c.cut-item.result c.loop-cut-test.true c.cut-item.is
    (c.loop-cut.invariant.1 (one.writes.faithful f)) (one.stops f)

pub returns-in_err-apply_one-clause-refused : goal.returns-in_err-apply_one-clause-refused
returns-in_err-apply_one-clause-refused g c =
    let p = err_from_is_err_and c.from_residual.result c.from_residual.ensures.1 in
    rw (p.1, p.2) (refused_behind (g.S.Store.facts c.args.store.now) (g.S.Store.facts c.loop-cut.store) (g.S.Store.facts c.apply_one.new.store) c.in_err-apply_one.field-0.0 c.loop-cut.invariant.0 c.in_err-apply_one.ensures.refused)

pub returns-clause-done : goal.returns-clause-done
returns-clause-done g c f =
    let cuts = c.args.cuts.now in
    subst (λ (cs : List Cut). AreDone cuts cs (g.S.Store.facts c.loop-cut.store).files) (take_all c.loop-cut.cut-index cuts c.loop-cut-test.false) (c.loop-cut.invariant.2 f)

-- ---- what a power loss leaves

pub returns-in_err-apply_one-clause-loses : goal.returns-in_err-apply_one-clause-loses
returns-in_err-apply_one-clause-loses g c f stayed =
    let one = c.in_err-apply_one.ensures in
    let m = one.writes.faithful f in
    let so_far = c.loop-cut.invariant.3 m stayed in
    cuts_step c.args.cuts.now (g.S.Store.facts c.args.store.now) (g.S.Store.facts c.loop-cut.store) (g.S.Store.facts c.apply_one.new.store) c.loop-cut.cut-index c.cut-item.result c.loop-cut-test.true c.cut-item.is
    (c.loop-cut.invariant.1 m) (one.stops f) so_far.0 (one.loses f so_far.1)

pub returns-clause-loses : goal.returns-clause-loses
returns-clause-loses g c f stayed = (c.loop-cut.invariant.3 f stayed).0
