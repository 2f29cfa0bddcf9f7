use Rattle.std.proofs.Common.{rules, ◌≡◌, ℕ, List, Option, Some, length, option_copied, refl, subst, sym, ap, ◌∙◌}
use Rattle.std.proofs.lemmas.Bool.{ltb-true}
use Rattle.std.proofs.lemmas.Option.{slice_get_read}
use Rattle.std.specs.Prelude.{slice_get}
use Rattle.ikey.specs.Entries.{Pair}
use Rattle.table.specs.Intact.{AreWithin, IsTornAt, IsUnsupportedAt, floor_of}
use Rattle.table.specs.Reading.{Refuses}
use Rattle.table.specs.Refusals.{IsUnsupported}
use Rattle.table.specs.Table.{HasBlock}
use Rattle.table.specs.declared.handle.Place.{Place}
use Rattle.table.proofs.Steps.{refuses_more}
use Rattle.table.proofs.Within.{torn_at}
use Rattle.table.proofs.table.Table.block_at.Goals as goal

pub returns-in-Err-clause-refused : goal.returns-in-Err-clause-refused
returns-in-Err-clause-refused g c =
    let cmp = g.K.KeyOrder.cmp in
    let places : List Place = c.args.self.now.frame.places in
    let index = c.args.index in
    let place : Place = c.in-Some.place.now in
    let floor : Option (List ℕ) = option_copied c.floor_of-floor.result in
    let read : c.deref.result.now ≡ places = search rules in
    let l = c.in-Some.ensures.lookup in
    let there = slice_get_read c.deref.result.now (length c.deref.result.now) index place refl (ltb-true index (length c.deref.result.now) (sym l.0)) l.1 in
    let at : slice_get places index ≡ Some place = ap (λ (ps : List Place). slice_get ps index) (sym read) ∙ there in
    let floored : floor ≡ floor_of places index = search rules in
    let name : c.deref-3.result.now ≡ c.args.self.now.name = search rules in
    subst (λ (n : List ℕ). Refuses c.in-Err.e (g.S.Store.facts c.args.store.now) (g.S.Store.facts c.read_within.new.store) n (λ (file : List ℕ). IsTornAt cmp file places index) (λ (file : List ℕ). IsUnsupportedAt file places index)) name
    (refuses_more c.in-Err.e (g.S.Store.facts c.args.store.now) (g.S.Store.facts c.read_within.new.store) c.deref-3.result.now
    (λ (file : List ℕ). ((pairs : List Pair) → HasBlock cmp file place.handle pairs → AreWithin cmp floor place.key pairs → ⊥) × (IsUnsupported file place.handle → ⊥)) (λ (file : List ℕ). IsTornAt cmp file places index)
    (λ (file : List ℕ). IsUnsupported file place.handle) (λ (file : List ℕ). IsUnsupportedAt file places index)
    (λ file none. torn_at cmp file places index place at (subst (λ (o : Option (List ℕ)). ((pairs : List Pair) → HasBlock cmp file place.handle pairs → AreWithin cmp o place.key pairs → ⊥) × (IsUnsupported file place.handle → ⊥)) floored none))
    (λ file u. (place, at, u)) c.in-Err.ensures.refused)
