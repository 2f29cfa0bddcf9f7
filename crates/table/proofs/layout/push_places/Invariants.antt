use Rattle.std.proofs.Common.{◌≡◌, ◌++◌, map, take}
use Rattle.table.specs.declared.handle.Place.{Place}
use Rattle.table.proofs.layout.push_places.Given as goal

abbrev pub invariant-loop-place : goal.invariant-loop-place
invariant-loop-place l = l.handles.items ≡ l.initial.handles.items ++ map (λ (place : Place). place.handle) (take l.place-index l.places)
