use Rattle.std.proofs.Common.{rules, subst, List}
use Rattle.ikey.specs.Entries.{Pair}
use Rattle.table.specs.declared.handle.Place.{Place}
use Rattle.table.specs.Frame.{ArePlaces}
use Rattle.table.proofs.Indexes.{ArePlaced, placed_none, placed_more, all_placed, no_place}
use Rattle.table.proofs.index.places_in.Goals as goal

pub loop-alloc-init : goal.loop-alloc-init
loop-alloc-init g c = subst (λ (t : List Place). ArePlaced c.first.new.self.pairs c.first.new.self t) (search rules) (placed_none c.first.new.self.pairs c.first.new.self (search rules) (search rules))

pub returns-in_default-clause-refused : goal.returns-in_default-clause-refused
returns-in_default-clause-refused g c = λ places h.
    no_place c.first.new.self.pairs c.loop-alloc.cursor c.loop-alloc.places.items c.value.result.now c.loop-alloc.invariant (search rules) c.value.ensures c.in_default.ensures places
    (subst (λ (t : List Pair). ArePlaces t places) (search rules) h)

pub loop-alloc-preserved : goal.loop-alloc-preserved
loop-alloc-preserved g c =
    placed_more c.first.new.self.pairs c.loop-alloc.cursor c.next.new.self c.loop-alloc.places.items c.push.new.self.items c.key.result.now c.value.result.now c.in-Some.handle
    c.loop-alloc.invariant (search rules) c.key.ensures c.value.ensures c.in-Some.ensures (search rules) (search rules)

pub returns-clause-found : goal.returns-clause-found
returns-clause-found g c =
    subst (λ (t : List Pair). ArePlaces t c.loop-alloc.places.items) (search rules) (all_placed c.first.new.self.pairs c.loop-alloc.cursor c.loop-alloc.places.items c.loop-alloc.invariant (search rules))
