use Rattle.std.proofs.Common.{rules, ◌≡◌, List, ℕ, subst}
use Rattle.ikey.specs.KeyViews.{key_of}
use Rattle.ikey.specs.Orders.{order_of}
use Rattle.ikey.specs.Sources.{ComesBefore}
use Rattle.recover.specs.internal.Walking.{stamp}
use Rattle.recover.proofs.WalkSteps.{key_here, no_key_here, no_front}
use Rattle.recover.proofs.walking.rise.Goals as goal

pub returns-in_default : goal.returns-in_default
returns-in_default g c = λ at here key is before. no_key_here c.args.block.now at c.key.result.now here c.key.ensures c.in_default.ensures.none key is

pub returns-then-not-is_in_front : goal.returns-then-not-is_in_front
returns-then-not-is_in_front g c = λ at here.
    no_front (order_of g.K.KeyOrder.name g.K.KeyOrder.cmp) c.args.block.now.pairs at c.args.head.now.user.items c.as_slice.result.now c.args.head.now.sequence (key_of c.in-Some.key)
    (key_here c.args.block.now at c.key.result.now (key_of c.in-Some.key) here c.key.ensures c.in-Some.ensures.found) c.as_slice.ensures.value c.if-not-is_in_front.ensures

pub returns : goal.returns
returns g c = λ at here.
    let order = order_of g.K.KeyOrder.name g.K.KeyOrder.cmp in
    let head : c.as_slice.result.now ≡ c.args.head.now.user.items = c.as_slice.ensures.value in
    let key = key_of c.in-Some.key in
    let rises = subst (λ (user : List ℕ). ComesBefore order (stamp user c.args.head.now.sequence) (stamp key.user key.sequence)) head c.if-not-is_in_front.ensures in
    (key, key_here c.args.block.now at c.key.result.now key here c.key.ensures c.in-Some.ensures.found, search rules, search rules, rises)
