use Rattle.std.proofs.Common.{◌∙◌, ℕ, List, Option, Some, ap, sym, subst, true}
use Rattle.browse.specs.internal.Lists.{all_of}
use Rattle.browse.specs.internal.Walking.{Moves, StartsBackwards}
use Rattle.browse.proofs.Steps.{starts_last}
use Rattle.browse.proofs.walking.start_backwards.Goals as goal

pub returns-in-None : goal.returns-in-None
returns-in-None g c = starts_last g.K.KeyOrder.cmp g.S.Store.facts c.args.reader.now c.go.new.self c.args.walk.now c.go.new.walk c.go.result c.args.to.now c.in-None.is c.go.ensures.moved

pub returns-in-Some : goal.returns-in-Some
returns-in-Some g c =
    subst (λ (to : Option (List ℕ)). Moves g.K.KeyOrder.cmp g.S.Store.facts true (StartsBackwards g.K.KeyOrder.cmp to) all_of c.args.reader.now c.start_in_front.new.reader c.args.walk.now c.start_in_front.new.walk c.start_in_front.result)
    (sym (c.in-Some.is ∙ ap (λ (key : List ℕ). Some key) (sym c.as_slice.ensures))) c.start_in_front.ensures
