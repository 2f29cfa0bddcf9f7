use Rattle.std.proofs.Common.{List, sym, subst, ◌∙◌}
use Rattle.ikey.specs.Entries.{Pair}
use Rattle.block.specs.Bounds.{IsFirstKey}
use Rattle.block.specs.Reading.{pairs_of}
use Rattle.block.proofs.Between.{first_of_body, none_in_body}
use Rattle.block.proofs.sorted_block.Block.first_key.Goals as goal

pub returns-in-Some : goal.returns-in-Some
returns-in-Some g c =
    let body = c.args.self.now.body in
    let first = c.in-Some.first in
    let found = c.in-Some.ensures.found in
    subst (λ (pairs : List Pair). IsFirstKey first.rest.now pairs) (sym c.parts.ensures.pairs)
    (first_of_body body c.parts.ensures.restarts.list (pairs_of body) first.shared first.rest.now first.value.now found.0 c.in-Some.field-0-1.now c.parts.ensures.restarts.entries found.1 (sym c.parts.ensures.body ∙ found.2))

pub returns-in-None : goal.returns-in-None
returns-in-None g c =
    let body = c.args.self.now.body in
    c.parts.ensures.pairs ∙ none_in_body body c.parts.ensures.restarts.list (pairs_of body) c.parts.ensures.restarts.entries
    (λ shared rest value front behind is parts. c.in-None.ensures.none shared rest value front behind is (c.parts.ensures.body ∙ parts))
