use Rattle.std.proofs.Common.{◌∙◌, ap, subst, ℕ, ◌≤◌, List, MatchOption}
use Rattle.edits.specs.declared.field.PlacedTable.{PlacedTable}
use Rattle.versions.specs.Levels.{Placement}
use Rattle.versions.specs.Searches.{IsSearchedAt, IsSearchedNext}
use Rattle.versions.proofs.version.Version.next_searched.Goals as goal

pub returns : goal.returns
returns g c =
    let cmp = g.K.KeyOrder.cmp in
    let key = c.args.key.now in
    let Answers' : List PlacedTable → Type 0 = λ ts. MatchOption c.next_searched.result ((place : ℕ) (placed : PlacedTable) → c.args.from ≤ place → IsSearchedAt cmp key ts place placed → ⊥)
    (λ found. IsSearchedNext cmp key ts c.args.from found.0 found.1.now) in
    subst Answers' (c.deref.ensures.value ∙ ap (λ (v : Placement). v.tables) c.self.view_is) c.next_searched.ensures
