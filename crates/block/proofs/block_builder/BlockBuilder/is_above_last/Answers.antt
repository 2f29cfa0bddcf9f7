use Rattle.std.proofs.Common.{ℕ, List, subst, arith}
use Rattle.std.specs.Prelude.{MatchBool}
use Rattle.std.specs.Option.{ForSome}
use Rattle.block.specs.Reading.{pairs_of}
use Rattle.block.specs.Written.{Added, last_key}
use Rattle.block.proofs.BuilderLaws.{rises_to_first, rises_to}
use Rattle.block.proofs.block_builder.BlockBuilder.is_above_last.Goals as goal

pub returns-then-self-eq0 : goal.returns-then-self-eq0
returns-then-self-eq0 g c =
    let b = c.self.inside in
    let below = g.O.EntryOrder.below in
    let key = c.args.key.now in
    subst (λ (v : Added). ForSome (last_key v.pairs) (λ (last : List ℕ). below last key)) c.self.view_is
    (rises_to_first below (pairs_of b.out.items) key (omega (arith, c.self.invariant.count_is, c.if-self-eq0.true)))

pub returns : goal.returns
returns g c =
    let b = c.self.inside in
    let below = g.O.EntryOrder.below in
    let key = c.args.key.now in
    let answer = c.is_below.result in
    let h = subst (λ (k : List ℕ). MatchBool answer (below k key) (below k key → ⊥)) c.self.invariant.last_is (rw c.deref.ensures.value at c.is_below.ensures) in
    subst (λ (v : Added). MatchBool answer (ForSome (last_key v.pairs) (λ (last : List ℕ). below last key)) (ForSome (last_key v.pairs) (λ (last : List ℕ). below last key) → ⊥)) c.self.view_is
    (rises_to below (pairs_of b.out.items) key answer (omega (arith, c.self.invariant.count_is, c.if-self-eq0.false)) h)
