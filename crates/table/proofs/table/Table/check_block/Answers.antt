use Rattle.std.proofs.Common.{rules, ◌≡◌, ℕ, List, Option, Some, length, option_copied, refl, subst, sym, ap, ◌∙◌}
use Rattle.std.proofs.lemmas.Bool.{ltb-true}
use Rattle.std.proofs.lemmas.Option.{slice_get_read}
use Rattle.std.specs.Prelude.{slice_get}
use Rattle.ikey.specs.Entries.{Pair}
use Rattle.table.specs.Blocks.{HasRight, IsWrongAt}
use Rattle.table.specs.Intact.{IsUnsupportedAt, floor_of}
use Rattle.table.specs.Reading.{Refuses}
use Rattle.table.specs.Refusals.{IsUnsupported}
use Rattle.table.specs.declared.handle.Place.{Place}
use Rattle.table.proofs.Begun.{wrong_at_place}
use Rattle.table.proofs.Steps.{refuses_more}
use Rattle.table.proofs.table.Table.check_block.Goals as goal

pub returns-in-Err-clause-refused : goal.returns-in-Err-clause-refused
returns-in-Err-clause-refused g c =
    let cmp = g.K.KeyOrder.cmp in
    let frame = c.args.self.now.frame in
    let index = c.args.index in
    let place : Place = c.in-Some.place.now in
    let floor : Option (List ℕ) = option_copied c.floor_of-floor.result in
    let read : c.deref.result.now ≡ frame.places = search rules in
    let l = c.in-Some.ensures.lookup in
    let there = slice_get_read c.deref.result.now (length c.deref.result.now) index place refl (ltb-true index (length c.deref.result.now) (sym l.0)) l.1 in
    let at : slice_get frame.places index ≡ Some place = ap (λ (ps : List Place). slice_get ps index) (sym read) ∙ there in
    let floored : floor ≡ floor_of frame.places index = search rules in
    let name : c.deref-3.result.now ≡ c.args.self.now.name = search rules in
    let filter : c.self.inside.filter ≡ frame.filter = search rules in
    let old = g.S.Store.facts c.args.store.now in
    let new = g.S.Store.facts c.check_place.new.store in
    let No : Option (List ℕ) → Option (List ℕ) → List ℕ → Type 0 = λ f o file. (pairs : List Pair) → HasRight cmp file f o place pairs → ⊥ in
    subst (λ (n : List ℕ). Refuses c.in-Err.e old new n (λ (file : List ℕ). IsWrongAt cmp file frame index) (λ (file : List ℕ). IsUnsupportedAt file frame.places index)) name
    (refuses_more c.in-Err.e old new c.deref-3.result.now (No c.self.inside.filter floor) (λ (file : List ℕ). IsWrongAt cmp file frame index)
    (λ (file : List ℕ). IsUnsupported file place.handle) (λ (file : List ℕ). IsUnsupportedAt file frame.places index)
    (λ file none. wrong_at_place cmp file frame index place at (subst (λ (f : Option (List ℕ)). No f (floor_of frame.places index) file) filter (subst (λ (o : Option (List ℕ)). No c.self.inside.filter o file) floored none)))
    (λ file u. (place, at, u)) c.in-Err.ensures.refused)
