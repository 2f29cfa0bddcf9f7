use Rattle.std.proofs.Common.{List, ap, subst, ◌∙◌}
use Rattle.table.specs.declared.handle.Place.{Place}
use Rattle.table.specs.Frame.{Opened}
use Rattle.table.specs.Refusals.{IsFirstPlace}
use Rattle.table.proofs.table.Table.first_place.Goals as goal

pub returns : goal.returns
returns g c =
    subst (λ (places : List Place). IsFirstPlace g.K.KeyOrder.cmp c.args.target.now places c.first_place.result) (c.deref.ensures.value ∙ ap (λ (o : Opened). o.frame.places) c.self.view_is)
    (record { inside = c.first_place.ensures.inside; front = c.first_place.ensures.front; found = c.first_place.ensures.found })
