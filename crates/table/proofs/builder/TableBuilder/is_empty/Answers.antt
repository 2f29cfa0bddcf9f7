use Rattle.std.proofs.Common.{◌≡◌, None, subst}
use Rattle.std.specs.Option.{IsSome}
use Rattle.std.specs.Prelude.{MatchBool}
use Rattle.table.specs.Building.{Building, last_added}
use Rattle.table.proofs.Rising.{last_of_both, last_of_first}
use Rattle.table.proofs.builder.TableBuilder.is_empty.Goals as goal

pub returns-then-not-is_empty : goal.returns-then-not-is_empty
returns-then-not-is_empty g c =
    subst (λ (v : Building). IsSome (last_added v)) c.self.view_is (last_of_both c.self.inside.index.pairs c.self.inside.block.pairs c.if-not-is_empty.ensures)

pub returns : goal.returns
returns g c =
    let r = c.is_empty-2.result in
    subst (λ (v : Building). MatchBool r (last_added v ≡ None) (IsSome (last_added v))) c.self.view_is
    (last_of_first c.self.inside.index.pairs c.self.inside.block.pairs r c.if-not-is_empty.ensures c.is_empty-2.ensures)
