use Rattle.std.proofs.Common.{rules, ℕ, List, subst, ◌≡◌}
use Rattle.ikey.specs.Entries.{Pair}
use Rattle.table.specs.Reading.{Answers, Refuses}
use Rattle.table.specs.Refusals.{IsDamaged, IsUnsupported, IsOfOne}
use Rattle.table.specs.Table.{AreData}
use Rattle.table.specs.Views.{pairs_of}
use Rattle.table.specs.declared.handle.Place.{Place}
use Rattle.table.proofs.DataBlocks.{joined, entries_read, entries_refused}
use Rattle.table.proofs.table.Table.entries.Goals as goal

pub returns-in-Ok-clause-found : goal.returns-in-Ok-clause-found
returns-in-Ok-clause-found g c =
    let name : c.deref.result.now ≡ c.args.self.now.name = search rules in
    let places : c.deref-2.result.now ≡ c.args.self.now.frame.places = search rules in
    let h = subst (λ (n : List ℕ). Answers (g.S.Store.facts c.args.store.now) (g.S.Store.facts c.read_all.new.store) n
    (λ (file : List ℕ). (blocks : List (List Pair)) → AreData g.K.KeyOrder.cmp file c.deref-2.result.now blocks → pairs_of c.in-Ok.found.items ≡ joined blocks)) name c.in-Ok.ensures.found in
    λ t file there. entries_read g.K.KeyOrder.cmp file c.args.self.now.frame (pairs_of c.in-Ok.found.items)
    (subst (λ (p : List Place). (blocks : List (List Pair)) → AreData g.K.KeyOrder.cmp file p blocks → pairs_of c.in-Ok.found.items ≡ joined blocks) places (h t file there))

pub returns-in-Err-clause-told : goal.returns-in-Err-clause-told
returns-in-Err-clause-told g c =
    let name : c.deref.result.now ≡ c.args.self.now.name = search rules in
    let places : c.deref-2.result.now ≡ c.args.self.now.frame.places = search rules in
    let Told : List ℕ → List Place → Type 0 = λ n ps. Refuses c.in-Err.e (g.S.Store.facts c.args.store.now) (g.S.Store.facts c.read_all.new.store) n
    (λ (file : List ℕ). IsOfOne (IsDamaged g.K.KeyOrder.cmp file) ps) (λ (file : List ℕ). IsOfOne (IsUnsupported file) ps) in
    subst (λ (n : List ℕ). Told n c.args.self.now.frame.places) name (subst (λ (ps : List Place). Told c.deref.result.now ps) places c.in-Err.ensures.refused)

pub returns-in-Err-clause-refused : goal.returns-in-Err-clause-refused
returns-in-Err-clause-refused g c =
    entries_refused g.K.KeyOrder.cmp c.in-Err.e (g.S.Store.facts c.args.store.now) (g.S.Store.facts c.read_all.new.store) c.args.self.now.name c.args.self.now.frame (returns-in-Err-clause-told g c)
