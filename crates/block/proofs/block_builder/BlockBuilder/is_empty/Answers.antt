use Rattle.std.proofs.Common.{◌≡◌, [], ap, ◌∙◌, eqb, subst}
use Rattle.std.specs.Prelude.{MatchBool}
use Rattle.block.specs.Written.{Added}
use Rattle.block.proofs.BuilderLaws.{none_if}
use Rattle.block.proofs.block_builder.BlockBuilder.is_empty.Goals as goal

pub returns : goal.returns
returns g c =
    let b = c.self.inside in
    let r = c.is_empty.result in
    subst (λ (v : Added). MatchBool r (v.pairs ≡ []) (v.pairs ≡ [] → ⊥)) c.self.view_is (none_if b.out.items r (c.is_empty.ensures ∙ ap (λ n. eqb n 0) b.out.ok.0))
