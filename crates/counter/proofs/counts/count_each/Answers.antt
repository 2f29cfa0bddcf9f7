use Rattle.std.proofs.Common.{◌≡◌, ℕ, List, length, Ok, Err, subst, arith}
use Rattle.counter.specs.Counts.{CountsEach, CountsOne}
use Rattle.counter.proofs.Counting.{counted_each, counted_none, counted_one, counted_refused, leads_as, leads_stay, leads_then}
use Rattle.counter.proofs.counts.count_each.Goals as goal

pub loop-index-init : goal.loop-index-init
loop-index-init g c = leads_stay (λ m. counted_none c.args.names.now m)

pub loop-index-preserved : goal.loop-index-preserved
loop-index-preserved g c =
    leads_then (λ m at n h k. counted_one c.args.names.now c.loop-index.index c.in-Ok.field-0 c.index-names-index.result m at n c.loop-index-test.true c.index-names-index.is h
    (subst (λ (name : List ℕ). CountsOne name at (Ok c.in-Ok.field-0) n) c.as_slice.ensures k)) c.loop-index.invariant c.in-Ok.ensures

pub returns-in-Err-clause-counted : goal.returns-in-Err-clause-counted
returns-in-Err-clause-counted g c =
    leads_then (λ m at n h k. counted_refused c.args.names.now c.loop-index.index c.in-Err.error c.index-names-index.result m at n c.loop-index-test.true c.index-names-index.is h
    (subst (λ (name : List ℕ). CountsOne name at (Err c.in-Err.error) n) c.as_slice.ensures k)) c.loop-index.invariant c.in-Err.ensures

pub returns-clause-counted : goal.returns-clause-counted
returns-clause-counted g c =
    let all : c.loop-index.index ≡ length c.args.names.now = omega (arith, c.loop-index-test.false, c.loop-index.auto.index-end) in
    leads_as (λ m n h. subst (λ (count : ℕ). CountsEach c.args.names.now count m n) all (counted_each c.args.names.now c.loop-index.index m n h)) c.loop-index.invariant
