use Rattle.std.proofs.Common.{◌≡◌, ℕ, Option, Some, None, length, refl, sym, ◌∙◌, subst}
use Rattle.std.proofs.lemmas.Bool.{ltb-true, ltb-false}
use Rattle.std.proofs.lemmas.Option.{slice_get_read, slice_get-get_or, slice_get_past}
use Rattle.std.specs.Prelude.{slice_get}
use Rattle.ikey.specs.Orders.{order_of}
use Rattle.recover.specs.internal.Merging.{IsLeastOf}
use Rattle.recover.specs.declared.merging.Lane.{Lane}
use Rattle.recover.proofs.Merged.{least_passed, least_first, least_lower, least_stays, least_nowhere}
use Rattle.recover.proofs.merging.better.Goals as goal

pub returns-then-not-lane : goal.returns-then-not-lane
returns-then-not-lane g c =
    let lanes = c.args.lanes.now in
    let lane = c.index-lanes-index.result in
    let at : slice_get lanes c.args.index ≡ Some lane = slice_get-get_or lanes c.args.index lane c.requires ∙ (let back = sym c.index-lanes-index.is in λ i. Some (back i)) in
    least_passed (order_of g.K.KeyOrder.name g.K.KeyOrder.cmp) g.met.K.KeyOrder.total lanes c.args.index lane at c.if-not-lane.true c.args.best

pub returns-in_default : goal.returns-in_default
returns-in_default g c = λ h.
    let order = order_of g.K.KeyOrder.name g.K.KeyOrder.cmp in
    let lanes = c.args.lanes.now in
    let lane = c.index-lanes-index.result in
    let at : slice_get lanes c.args.index ≡ Some lane = slice_get-get_or lanes c.args.index lane c.requires ∙ (let back = sym c.index-lanes-index.is in λ i. Some (back i)) in
    let B : Option ℕ → Type 0 = λ b. IsLeastOf order lanes c.args.index b in
    least_first order g.met.K.KeyOrder.total lanes c.args.index lane at c.if-not-lane.false (subst B c.in_default.is h)

pub returns-in_default-get : goal.returns-in_default-get
returns-in_default-get g c = λ h.
    let order = order_of g.K.KeyOrder.name g.K.KeyOrder.cmp in
    let lanes = c.args.lanes.now in
    let B : Option ℕ → Type 0 = λ b. IsLeastOf order lanes c.args.index b in
    let none : slice_get lanes c.in-Some.at ≡ None = slice_get_past lanes c.in-Some.at (ltb-false c.in-Some.at (length lanes) (sym c.in_default-get.ensures.lookup.0)) in
    least_nowhere order lanes c.args.index c.in-Some.at _ none (subst B c.in-Some.is h)

pub returns-then-is_head_before : goal.returns-then-is_head_before
returns-then-is_head_before g c = λ h.
    let order = order_of g.K.KeyOrder.name g.K.KeyOrder.cmp in
    let lanes = c.args.lanes.now in
    let lane = c.index-lanes-index.result in
    let other : Lane _ = c.in-Some-get.other.now in
    let at : slice_get lanes c.args.index ≡ Some lane = slice_get-get_or lanes c.args.index lane c.requires ∙ (let back = sym c.index-lanes-index.is in λ i. Some (back i)) in
    let l = c.in-Some-get.ensures.lookup in
    let best = slice_get_read lanes (length lanes) c.in-Some.at other refl (ltb-true c.in-Some.at (length lanes) (sym l.0)) l.1 in
    let B : Option ℕ → Type 0 = λ b. IsLeastOf order lanes c.args.index b in
    least_lower order g.met.K.KeyOrder.total lanes c.args.index lane at c.in-Some.at other best c.if-not-lane.false c.if-is_head_before.ensures (subst B c.in-Some.is h)

pub returns : goal.returns
returns g c = λ h.
    let order = order_of g.K.KeyOrder.name g.K.KeyOrder.cmp in
    let lanes = c.args.lanes.now in
    let lane = c.index-lanes-index.result in
    let other : Lane _ = c.in-Some-get.other.now in
    let at : slice_get lanes c.args.index ≡ Some lane = slice_get-get_or lanes c.args.index lane c.requires ∙ (let back = sym c.index-lanes-index.is in λ i. Some (back i)) in
    let l = c.in-Some-get.ensures.lookup in
    let best = slice_get_read lanes (length lanes) c.in-Some.at other refl (ltb-true c.in-Some.at (length lanes) (sym l.0)) l.1 in
    let B : Option ℕ → Type 0 = λ b. IsLeastOf order lanes c.args.index b in
    least_stays order g.met.K.KeyOrder.total lanes c.args.index lane at c.in-Some.at other best c.if-is_head_before.ensures (subst B c.in-Some.is h)
