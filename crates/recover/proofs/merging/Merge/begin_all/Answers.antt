use Rattle.std.proofs.Common.{rules, ◌≡◌, ℕ, length, subst, arith}
use Rattle.std.proofs.lemmas.Option.{slice_get-get_or}
use Rattle.std.proofs.lemmas.Result.{err_from_is_err_and}
use Rattle.ikey.specs.Orders.{order_of}
use Rattle.recover.specs.internal.Waiting.{AreBegun}
use Rattle.recover.proofs.MergeParts.{merge_later}
use Rattle.recover.proofs.MergeSteps.{fresh_mid, holds_start}
use Rattle.recover.proofs.Refused.{unchanged_both}
use Rattle.recover.proofs.Smallest.{all_begun, can_begin, fresh_begun, next_is_first, one_begun}
use Rattle.recover.proofs.merging.Merge.begin_all.Goals as goal

pub loop-next-init : goal.loop-next-init
loop-next-init g c =
    let order = order_of g.K.KeyOrder.name g.K.KeyOrder.cmp in
    let facts = g.S.Store.facts c.args.store.now in
    let merge = c.args.self.now in
    record {
      holds = holds_start order c.args.against facts merge c.requires.fits (λ t. fresh_mid order facts.files c.args.against merge c.requires.fresh);
      begun = fresh_begun order g.met.K.KeyOrder.total c.args.against.tables.now c.args.waiting.now c.requires.waiting merge.begun.items c.requires.fresh.begun;
    }

pub run_until-requires-clause-bound : goal.run_until-requires-clause-bound
run_until-requires-clause-bound g c =
    next_is_first (order_of g.K.KeyOrder.name g.K.KeyOrder.cmp) g.met.K.KeyOrder.total c.args.against.tables.now c.args.waiting.now c.requires.waiting c.loop-next.self.begun.items c.requires.sorted c.loop-next.next-index _
    (slice_get-get_or c.args.waiting.now c.loop-next.next-index _ c.loop-next-test.true) c.loop-next.invariant.begun

pub returns-in_err-run_until-clause-refused : goal.returns-in_err-run_until-clause-refused
returns-in_err-run_until-clause-refused g c =
    let p = err_from_is_err_and c.from_residual.result c.from_residual.ensures.1 in
    rw (p.1, p.2) (merge_later (order_of g.K.KeyOrder.name g.K.KeyOrder.cmp) c.in_err-run_until.field-0.0 (g.S.Store.facts c.args.store.now) (g.S.Store.facts c.loop-next.store) (g.S.Store.facts c.run_until.new.store) c.args.against
    c.loop-next.invariant.holds.store c.in_err-run_until.ensures.store c.in_err-run_until.ensures.refused)

pub begin-requires-clause-waits : goal.begin-requires-clause-waits
begin-requires-clause-waits g c =
    can_begin (order_of g.K.KeyOrder.name g.K.KeyOrder.cmp) g.met.K.KeyOrder.total c.args.against.tables.now c.args.waiting.now c.requires.waiting c.loop-next.self.begun.items c.loop-next.next-index _ c.loop-next-test.true
    c.loop-next.invariant.begun c.run_until.new.self.begun.items c.in_ok-run_until.ensures.begun

pub returns-in_err-begin-clause-refused : goal.returns-in_err-begin-clause-refused
returns-in_err-begin-clause-refused g c =
    let p = err_from_is_err_and c.from_residual-in_err-begin.result c.from_residual-in_err-begin.ensures.1 in
    let a = g.S.Store.facts c.args.store.now in
    let b = g.S.Store.facts c.loop-next.store in
    let d = g.S.Store.facts c.run_until.new.store in
    rw (p.1, p.2) (merge_later (order_of g.K.KeyOrder.name g.K.KeyOrder.cmp) c.in_err-begin.field-0.0 a d (g.S.Store.facts c.begin.new.store) c.args.against
    (unchanged_both a b d c.loop-next.invariant.holds.store c.in_ok-run_until.ensures.store) c.in_err-begin.ensures.store c.in_err-begin.ensures.refused)

pub loop-next-preserved : goal.loop-next-preserved
loop-next-preserved g c =
    let a = g.S.Store.facts c.args.store.now in
    let b = g.S.Store.facts c.loop-next.store in
    let d = g.S.Store.facts c.run_until.new.store in
    let e = g.S.Store.facts c.begin.new.store in
    let old = unchanged_both a b d c.loop-next.invariant.holds.store c.in_ok-run_until.ensures.store in
    record {
      holds = search rules;
      begun = one_begun (order_of g.K.KeyOrder.name g.K.KeyOrder.cmp) g.met.K.KeyOrder.total c.args.against.tables.now c.args.waiting.now c.requires.waiting c.loop-next.self.begun.items c.loop-next.next-index _ c.loop-next-test.true
          c.loop-next.invariant.begun c.run_until.new.self.begun.items c.begin.new.self.begun.items c.in_ok-run_until.ensures.begun c.in_ok-begin.ensures.begun;
    }

pub returns-clause-begun : goal.returns-clause-begun
returns-clause-begun g c =
    let waiting = c.args.waiting.now in
    let begun = c.loop-next.self.begun.items in
    let end : c.loop-next.next-index ≡ length waiting = omega (arith, c.loop-next-test.false, c.loop-next.auto.next-index-end) in
    all_begun (order_of g.K.KeyOrder.name g.K.KeyOrder.cmp) g.met.K.KeyOrder.total c.args.against.tables.now waiting c.requires.waiting begun (subst (λ (n : ℕ). AreBegun waiting n begun) end c.loop-next.invariant.begun)
