use Rattle.std.proofs.Common.{refl, arith}
use Rattle.versions.specs.Searches.{EndsBelow}
use Rattle.versions.proofs.Elements.{from_index}
use Rattle.versions.proofs.Covered.{all_front, found_front}
use Rattle.versions.proofs.searching.find_in.Goals as goal

pub returns-then-place-own : goal.returns-then-place-own
returns-then-place-own g c =
    all_front (EndsBelow g.K.KeyOrder.cmp c.args.key.now) c.args.own.now c.args.own.now refl c.first_not_below-place.result c.first_not_below-place.ensures.front c.if-place-own.true

pub returns : goal.returns
returns g c =
    let ends = EndsBelow g.K.KeyOrder.cmp c.args.key.now in
    let own = c.args.own.now in
    let p = c.index-own-place.result in
    found_front ends own own refl c.first_not_below-place.result c.first_not_below-place.ensures.front p (omega arith) c.index-own-place.is
    (from_index (λ t. ends t → ⊥) own c.first_not_below-place.result p c.index-own-place.is (c.first_not_below-place.ensures.back (omega arith)))
