use Rattle.std.proofs.Common.{rules, ◌≡◌, List, ℕ, subst}
use Rattle.ikey.specs.Orders.{order_of}
use Rattle.ikey.specs.Keys.{IsKey}
use Rattle.ikey.specs.KeyViews.{key_of}
use Rattle.recover.proofs.KeyRanges.{no_range}
use Rattle.recover.proofs.ranges.range_of.Goals as goal

pub returns-then-not-is_key_before : goal.returns-then-not-is_key_before
returns-then-not-is_key_before g c =
    let p : c.as_slice-smallest.result.now ≡ c.args.placed.now.table.smallest = search rules in
    let q : c.as_slice-largest.result.now ≡ c.args.placed.now.table.largest = search rules in
    let other : c.args.placed.now.table.smallest ≡ c.args.placed.now.table.largest → ⊥ = search rules in
    let S : List ℕ → Type 0 = λ k. IsKey k (key_of c.in_ok-unpack.field-0) in
    let L : List ℕ → Type 0 = λ k. IsKey k (key_of c.in_ok-unpack-2.field-0) in
    no_range (order_of g.K.KeyOrder.name g.K.KeyOrder.cmp) c.args.placed.now.table (key_of c.in_ok-unpack.field-0) (key_of c.in_ok-unpack-2.field-0)
    (subst S p c.in_ok-unpack.ensures.found) (subst L q c.in_ok-unpack-2.ensures.found) other c.if-not-is_key_before.ensures
