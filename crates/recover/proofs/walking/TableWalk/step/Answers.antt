use Rattle.std.proofs.Common.{rules, ◌≡◌, ◌<◌, ◌+◌, List, length, refl, subst}
use Rattle.std.proofs.lemmas.Bool.{MatchBool-at_true, MatchBool-at_false}
use Rattle.ikey.specs.Entries.{Pair}
use Rattle.ikey.specs.Keys.{Key}
use Rattle.ikey.specs.Orders.{order_of}
use Rattle.ikey.specs.Sources.{ComesBefore}
use Rattle.recover.specs.internal.Walking.{stamp, IsKeyAt}
use Rattle.recover.proofs.Passing.{stays_within, goes_within}
use Rattle.recover.proofs.WalkSteps.{stepped}
use Rattle.recover.proofs.walking.TableWalk.step.Goals as goal

pub rise-requires : goal.rise-requires
rise-requires g c =
    let m = c.requires in
    let s = stepped c.args.self.now.block c.next.new.self m.0 m m.1 (search rules) in
    (m.0 + 1, s.1)

pub returns-then-not-branch-clause-refused : goal.returns-then-not-branch-clause-refused
returns-then-not-branch-clause-refused g c = λ files placed passed here h.
    let order = order_of g.K.KeyOrder.name g.K.KeyOrder.cmp in
    let walk = c.args.self.now in
    let s = stepped walk.block c.next.new.self h.at c.requires h.at_is (search rules) in
    let N : List Pair → Type 0 = λ ps. (key : Key) → IsKeyAt ps (h.at + 1) key → ComesBefore order (stamp walk.head.user.items walk.head.sequence) (stamp key.user key.sequence) → ⊥ in
    let none = subst N s.0 (MatchBool-at_false _ _ c.if-not-branch.true (c.in_ok-rise.ensures (h.at + 1) s.1)) in
    stays_within order g.met.K.KeyOrder.total files placed walk passed here h none (subst (λ (ps : List Pair). h.at + 1 < length ps) s.0 s.1.1)

pub returns-clause-found : goal.returns-clause-found
returns-clause-found g c = λ files placed passed here h.
    let order = order_of g.K.KeyOrder.name g.K.KeyOrder.cmp in
    let walk = c.args.self.now in
    let head = c.rise.new.head in
    let s = stepped walk.block c.next.new.self h.at c.requires h.at_is (search rules) in
    let R : List Pair → Type 0 = λ ps. (key : Key) × IsKeyAt ps (h.at + 1) key × (key.user ≡ head.user.items) × (key.sequence ≡ head.sequence)
    × ComesBefore order (stamp walk.head.user.items walk.head.sequence) (stamp key.user key.sequence) in
    let r = subst R s.0 (MatchBool-at_true _ _ c.if-not-branch.false (c.in_ok-rise.ensures (h.at + 1) s.1)) in
    let count : c.in-Some.passed ≡ walk.passed + 1 = search rules in
    goes_within order g.met.K.KeyOrder.total files placed walk passed here h _ r.0 refl refl s.0 s.1.0 count r.1 r.2 r.3 r.4
