use Rattle.std.proofs.Common.{rules, ℕ, List, length, take, drop, get_or, subst, ap, ◌≡◌, ◌<◌, ◌≤◌, ◌+◌, ◌-◌, ◌∙◌}
use Rattle.std.proofs.lemmas.List.{take_rest}
use Rattle.std.specs.declared.cmp.Ordering.{Ordering}
use Rattle.ikey.specs.Below.{IsBelowInternal}
use Rattle.ikey.specs.Entries.{Pair}
use Rattle.table.specs.Reading.{Answers, Refuses}
use Rattle.table.specs.Refusals.{IsDamaged, IsUnsupported, IsOfOne, IsOfOneFrom, IsFirstPlace}
use Rattle.table.specs.Seeking.{IsFirstOf, found_pair}
use Rattle.table.specs.Table.{AreData}
use Rattle.table.specs.declared.handle.Place.{Place}
use Rattle.table.proofs.DataBlocks.{joined, seek_refused}
use Rattle.table.proofs.Seeks.{sought}
use Rattle.table.proofs.Steps.{refuses_more}
use Rattle.table.proofs.table.Table.seek.Goals as goal

pub returns-in-Ok-clause-found : goal.returns-in-Ok-clause-found
returns-in-Ok-clause-found g c =
    let cmp : List ℕ → List ℕ → Ordering = g.K.KeyOrder.cmp in
    let n : ℕ = c.first_place-start.result in
    let places : List Place = c.args.self.now.frame.places in
    let name : c.deref-4.result.now ≡ c.args.self.now.name = search rules in
    let searched : c.deref.result.now ≡ places = search rules in
    let behind : take (length c.deref-3.result.now - n) (drop n c.deref-3.result.now) ≡ drop n places =
    let same : c.deref-3.result.now ≡ places = search rules in take_rest c.deref-3.result.now n ∙ ap (drop n) same in
    let inside : n ≤ length places = subst (λ (p : List Place). n ≤ length p) searched c.first_place-start.ensures.inside in
    let front = subst (λ (p : List Place). (i : ℕ) (d : Place) → n ≡ i + 1 → IsBelowInternal cmp (get_or p i d).key c.args.target.now) searched c.first_place-start.ensures.front in
    let h = subst (λ (m : List ℕ). Answers (g.S.Store.facts c.args.store.now) (g.S.Store.facts c.seek_from.new.store) m
    (λ (file : List ℕ). (blocks : List (List Pair)) → AreData cmp file (take (length c.deref-3.result.now - n) (drop n c.deref-3.result.now)) blocks
    → IsFirstOf (IsBelowInternal cmp) c.args.target.now (joined blocks) (found_pair c.in-Ok.found))) name c.in-Ok.ensures.found in
    λ t file there. sought cmp g.met.K.KeyOrder.total c.args.target.now file c.args.self.now.frame n c.in-Ok.found inside front
    (subst (λ (p : List Place). (blocks : List (List Pair)) → AreData cmp file p blocks → IsFirstOf (IsBelowInternal cmp) c.args.target.now (joined blocks) (found_pair c.in-Ok.found)) behind (h t file there))

pub returns-in-Err-clause-told : goal.returns-in-Err-clause-told
returns-in-Err-clause-told g c =
    let cmp : List ℕ → List ℕ → Ordering = g.K.KeyOrder.cmp in
    let n : ℕ = c.first_place-start.result in
    let target : List ℕ = c.args.target.now in
    let places : List Place = c.args.self.now.frame.places in
    let old = g.S.Store.facts c.args.store.now in
    let new = g.S.Store.facts c.seek_from.new.store in
    let name : c.deref-4.result.now ≡ c.args.self.now.name = search rules in
    let searched : c.deref.result.now ≡ places = search rules in
    let behind : take (length c.deref-3.result.now - n) (drop n c.deref-3.result.now) ≡ drop n places =
    let same : c.deref-3.result.now ≡ places = search rules in take_rest c.deref-3.result.now n ∙ ap (drop n) same in
    let first : IsFirstPlace cmp target places n = record {
      inside = subst (λ (p : List Place). n ≤ length p) searched c.first_place-start.ensures.inside;
      front = subst (λ (p : List Place). (i : ℕ) (d : Place) → n ≡ i + 1 → IsBelowInternal cmp (get_or p i d).key target) searched c.first_place-start.ensures.front;
      found = subst (λ (p : List Place). (d : Place) → n < length p → IsBelowInternal cmp (get_or p n d).key target → ⊥) searched c.first_place-start.ensures.found;
    } in
    let Told : List ℕ → List Place → Type 0 = λ m ps. Refuses c.in-Err.e old new m (λ (file : List ℕ). IsOfOne (IsDamaged cmp file) ps) (λ (file : List ℕ). IsOfOne (IsUnsupported file) ps) in
    refuses_more c.in-Err.e old new c.args.self.now.name
    (λ (file : List ℕ). IsOfOne (IsDamaged cmp file) (drop n places)) (λ (file : List ℕ). IsOfOneFrom cmp target (IsDamaged cmp file) places)
    (λ (file : List ℕ). IsOfOne (IsUnsupported file) (drop n places)) (λ (file : List ℕ). IsOfOneFrom cmp target (IsUnsupported file) places)
    (λ file one. (n, first, one)) (λ file one. (n, first, one))
    (subst (λ (m : List ℕ). Told m (drop n places)) name (subst (λ (ps : List Place). Told c.deref-4.result.now ps) behind c.in-Err.ensures.refused))

pub returns-in-Err-clause-refused : goal.returns-in-Err-clause-refused
returns-in-Err-clause-refused g c =
    seek_refused g.K.KeyOrder.cmp c.args.target.now c.in-Err.e (g.S.Store.facts c.args.store.now) (g.S.Store.facts c.seek_from.new.store) c.args.self.now.name c.args.self.now.frame (returns-in-Err-clause-told g c)
