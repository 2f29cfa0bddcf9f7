use Rattle.std.proofs.Common.{◌≡◌, ◌+◌, ◌++◌, ◌∷◌, [], List, ℕ, length, ap, subst, ◌∙◌, length-append}
use Rattle.ikey.specs.declared.front.Front.{Front}
use Rattle.ikey.specs.Keys.{IsKey}
use Rattle.ikey.specs.KeyViews.{key_of}
use Rattle.table.proofs.PlaceFronts.{fronts-more}
use Rattle.table.proofs.bounds.fronts_of.Goals as goal

pub loop-place-preserved : goal.loop-place-preserved
loop-place-preserved c =
    let fronts = c.loop-place.fronts.items in
    let items : c.push.new.self.items ≡ fronts ++ c.of.result ∷ [] = c.in_ok-push.ensures.items in
    let is_key : IsKey c.place-item.result.key (key_of c.in-Some.key) = subst (λ (v : List ℕ). IsKey v (key_of c.in-Some.key)) c.as_slice.ensures c.in-Some.ensures.found in
    let more = fronts-more c.args.places.now fronts c.loop-place.place-index c.place-item.result c.of.result c.loop-place.invariant.0 c.loop-place.invariant.1 c.loop-place-test.true c.place-item.is
    (key_of c.in-Some.key, is_key, c.of.ensures) in
    (rw items more, ap (λ (v : List Front). length v) items ∙ length-append fronts (c.of.result ∷ []) ∙ ap (λ (n : ℕ). n + 1) c.loop-place.invariant.1)
