use Rattle.std.proofs.Common.{◌<◌, Some, List, length, refl, sym, ◌∙◌, subst, arith}
use Rattle.std.proofs.lemmas.Result.{err_from_is_err_and}
use Rattle.ikey.specs.Orders.{order_of}
use Rattle.recover.specs.declared.merging.Lane.{Lane}
use Rattle.recover.specs.internal.Merging.{IsLeastOf}
use Rattle.recover.specs.internal.MergeSteps.{AllBeginFrom}
use Rattle.recover.proofs.MergeParts.{merge_later, told_merge_later}
use Rattle.recover.proofs.MergeSteps.{holds_start, holds_more, holds_mid, within_least, next_at, ended_all, ended_within}
use Rattle.recover.proofs.Refused.{unchanged_both, still_later}
use Rattle.recover.proofs.merging.Merge.run_until.Goals as goal

pub loop-init : goal.loop-init
loop-init g c = (holds_start (order_of g.K.KeyOrder.name g.K.KeyOrder.cmp) c.args.against (g.S.Store.facts c.args.store.now) c.args.self.now c.requires.fits c.requires.mid, refl)

-- no lane stands

pub returns-in_default-clause-store : goal.returns-in_default-clause-store
returns-in_default-clause-store g c = c.loop.invariant.0.store

pub returns-in_default-clause-still : goal.returns-in_default-clause-still
returns-in_default-clause-still g c = c.loop.invariant.0.still

pub returns-in_default-clause-fits : goal.returns-in_default-clause-fits
returns-in_default-clause-fits g c = c.loop.invariant.0.fits

pub returns-in_default-clause-found : goal.returns-in_default-clause-found
returns-in_default-clause-found g c = c.loop.invariant.0.mid

pub returns-in_default-clause-begun : goal.returns-in_default-clause-begun
returns-in_default-clause-begun g c = c.loop.invariant.1

pub returns-in_default-clause-ended : goal.returns-in_default-clause-ended
returns-in_default-clause-ended g c = ended_all c.args.bound c.deref.result.now c.loop.self.lanes.items c.deref.ensures.value c.in_default.ensures

-- the least is not before the bound

pub index-requires : goal.index-requires
index-requires g c =
    let lt = within_least (order_of g.K.KeyOrder.name g.K.KeyOrder.cmp) c.deref.result.now c.in-Some.index c.in-Some.ensures in
    omega (arith, lt, c.deref.ensures.len)

pub returns-then-not-is_within-clause-store : goal.returns-then-not-is_within-clause-store
returns-then-not-is_within-clause-store g c = c.loop.invariant.0.store

pub returns-then-not-is_within-clause-still : goal.returns-then-not-is_within-clause-still
returns-then-not-is_within-clause-still g c = c.loop.invariant.0.still

pub returns-then-not-is_within-clause-fits : goal.returns-then-not-is_within-clause-fits
returns-then-not-is_within-clause-fits g c = c.loop.invariant.0.fits

pub returns-then-not-is_within-clause-found : goal.returns-then-not-is_within-clause-found
returns-then-not-is_within-clause-found g c = c.loop.invariant.0.mid

pub returns-then-not-is_within-clause-begun : goal.returns-then-not-is_within-clause-begun
returns-then-not-is_within-clause-begun g c = c.loop.invariant.1

pub returns-then-not-is_within-clause-ended : goal.returns-then-not-is_within-clause-ended
returns-then-not-is_within-clause-ended g c =
    ended_within (order_of g.K.KeyOrder.name g.K.KeyOrder.cmp) c.args.bound c.index.result.now.walk.head c.loop.self.lanes.items c.if-not-is_within.ensures

-- it is passed

pub pass-requires-clause-fits : goal.pass-requires-clause-fits
pass-requires-clause-fits g c = c.loop.invariant.0.fits

pub pass-requires-clause-mid : goal.pass-requires-clause-mid
pass-requires-clause-mid g c = holds_mid (order_of g.K.KeyOrder.name g.K.KeyOrder.cmp) c.args.against (g.S.Store.facts c.args.store.now) (g.S.Store.facts c.loop.store) c.loop.self c.loop.invariant.0

pub pass-requires-clause-least : goal.pass-requires-clause-least
pass-requires-clause-least g c =
    subst (λ (ls : List (Lane _)). IsLeastOf (order_of g.K.KeyOrder.name g.K.KeyOrder.cmp) ls (length ls) (Some c.in-Some.index)) c.deref.ensures.value c.in-Some.ensures

pub pass-requires-clause-next : goal.pass-requires-clause-next
pass-requires-clause-next g c = λ lane at.
    let order = order_of g.K.KeyOrder.name g.K.KeyOrder.cmp in
    let lanes = c.loop.self.lanes.items in
    let lt : c.in-Some.index < length lanes = subst (λ (ls : List (Lane _)). c.in-Some.index < length ls) c.deref.ensures.value (within_least order c.deref.result.now c.in-Some.index c.in-Some.ensures) in
    let all = subst (λ bs. AllBeginFrom order c.args.against.tables.now bs c.args.bound) (sym c.loop.invariant.1) c.requires.bound in
    next_at order g.met.K.KeyOrder.total c.args.against.tables.now c.loop.self.begun.items lanes c.in-Some.index c.index.result.now lane c.args.bound all lt c.index.ensures c.if-not-is_within.ensures at

pub returns-in_err-pass-clause-store : goal.returns-in_err-pass-clause-store
returns-in_err-pass-clause-store g c = unchanged_both (g.S.Store.facts c.args.store.now) (g.S.Store.facts c.loop.store) (g.S.Store.facts c.pass.new.store) c.loop.invariant.0.store c.in_err-pass.ensures.store

pub returns-in_err-pass-clause-still : goal.returns-in_err-pass-clause-still
returns-in_err-pass-clause-still g c =
    let p = err_from_is_err_and c.from_residual.result c.from_residual.ensures.1 in
    rw (p.1, p.2) (still_later c.in_err-pass.field-0.0 (g.S.Store.facts c.args.store.now) (g.S.Store.facts c.loop.store) (g.S.Store.facts c.pass.new.store) c.loop.invariant.0.still c.in_err-pass.ensures.still)

pub returns-in_err-pass-clause-told : goal.returns-in_err-pass-clause-told
returns-in_err-pass-clause-told g c =
    let p = err_from_is_err_and c.from_residual.result c.from_residual.ensures.1 in
    rw (p.1, p.2) (told_merge_later (order_of g.K.KeyOrder.name g.K.KeyOrder.cmp) c.in_err-pass.field-0.0 (g.S.Store.facts c.args.store.now) (g.S.Store.facts c.loop.store) (g.S.Store.facts c.pass.new.store) c.args.against
    c.loop.invariant.0.store c.in_err-pass.ensures.store c.in_err-pass.ensures.told)

pub returns-in_err-pass-clause-refused : goal.returns-in_err-pass-clause-refused
returns-in_err-pass-clause-refused g c =
    let p = err_from_is_err_and c.from_residual.result c.from_residual.ensures.1 in
    rw (p.1, p.2) (merge_later (order_of g.K.KeyOrder.name g.K.KeyOrder.cmp) c.in_err-pass.field-0.0 (g.S.Store.facts c.args.store.now) (g.S.Store.facts c.loop.store) (g.S.Store.facts c.pass.new.store) c.args.against
    c.loop.invariant.0.store c.in_err-pass.ensures.store c.in_err-pass.ensures.refused)

pub loop-preserved : goal.loop-preserved
loop-preserved g c = (
  holds_more (order_of g.K.KeyOrder.name g.K.KeyOrder.cmp) c.args.against (g.S.Store.facts c.args.store.now) (g.S.Store.facts c.loop.store) (g.S.Store.facts c.pass.new.store) c.loop.self c.pass.new.self
      c.loop.invariant.0 c.in_ok-pass.ensures.store c.in_ok-pass.ensures.still c.in_ok-pass.ensures.fits c.in_ok-pass.ensures.found,
  c.in_ok-pass.ensures.begun ∙ c.loop.invariant.1,
)

-- it would take more steps than can be counted

pub returns-clause-store : goal.returns-clause-store
returns-clause-store g c = c.loop.invariant.0.store

pub returns-clause-still : goal.returns-clause-still
returns-clause-still g c = c.loop.invariant.0.still
