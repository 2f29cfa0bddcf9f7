use Rattle.std.proofs.Common.{ℕ, [], ◌++◌, drop, sym, subst, arith}
use Rattle.block.specs.Kept.{AreKept}
use Rattle.block.specs.Reading.{pairs_of}
use Rattle.block.specs.Spots.{IsBefore}
use Rattle.block.proofs.Fronts.{readable_before}
use Rattle.block.proofs.Keeping.{all_longer, begins_back, goes_back, gone_back, same_keys, some_offset}
use Rattle.block.proofs.Restarts.{restarts_long}
use Rattle.block.proofs.block_cursor.walk_back.Goals as goal

pub restart_before-requires-clause-some : goal.restart_before-requires-clause-some
restart_before-requires-clause-some c = restarts_long c.args.body.now c.args.restarts.now c.requires.restarts

pub restart_before-requires-clause-offset : goal.restart_before-requires-clause-offset
restart_before-requires-clause-offset c = some_offset c.args.body.now c.requires.place.0 c.args.end c.requires.place.1

pub loop-at-init : goal.loop-at-init
loop-at-init c =
    let body = c.args.body.now in
    let q = c.restart_before.ensures body c.requires.restarts in
    let before = subst (λ (n : ℕ). IsBefore body (pairs_of body) q.starts.0 [] n) (sym c.begin_at-at.ensures) q.starts.1 in
    begins_back body c.args.end q.starts.0 c.requires.place.0 c.clear-2.new.self.items c.begin_at-at.result c.clear.new.self.items c.clear-2.ensures.items c.clear.ensures.items before c.requires.place.1
    (omega (arith, q.less, c.begin_at-at.ensures))

pub step_beside-requires-clause-inside : goal.step_beside-requires-clause-inside
step_beside-requires-clause-inside c = c.loop-at.invariant.inside

pub step_beside-requires-clause-readable : goal.step_beside-requires-clause-readable
step_beside-requires-clause-readable c =
    let body = c.args.body.now in
    let w = c.loop-at.invariant.walks in
    readable_before body (pairs_of body) w.index (drop c.loop-at.key c.loop-at.keys.items) c.loop-at.at.next w.before (omega (arith, w.ends.inside, c.loop-at-test.true))

pub loop-at-preserved : goal.loop-at-preserved
loop-at-preserved c =
    let l = c.loop-at in
    let r = c.in_ok-step_beside.ensures.read in
    goes_back c.args.body.now c.args.end l.keys.items l.key l.at l.passed.items c.step_beside.new.keys.items r.0 c.len-key_end.result c.len.result c.step_beside.new.at c.keep.new.passed.items
    (omega (arith, c.len-key_end.ensures, l.keys.ok.0)) (omega (arith, c.len.ensures, c.step_beside.new.keys.ok.0)) l.invariant c.loop-at-test.true r.1 r.2 c.in_ok-keep.ensures.ok

pub returns-in_err-keep-clause-kept : goal.returns-in_err-keep-clause-kept
returns-in_err-keep-clause-kept c =
    let l = c.loop-at in
    let body = c.args.body.now in
    let keys = c.step_beside.new.keys.items in
    let r = c.in_ok-step_beside.ensures.read in
    subst (AreKept body keys) (sym c.in_err-keep.ensures.err) (same_keys body (l.keys.items ++ r.0) keys l.passed.items r.1 (all_longer body l.keys.items r.0 l.passed.items l.invariant.kept))

pub returns-clause-ends : goal.returns-clause-ends
returns-clause-ends c =
    let l = c.loop-at in
    gone_back c.args.body.now c.args.end l.keys.items l.key l.at l.passed.items l.invariant (omega (arith, c.loop-at-test.false))
