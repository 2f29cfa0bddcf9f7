use Rattle.std.proofs.Common.{◌∙◌, ℕ, List, Some, ap, sym}
use Rattle.browse.proofs.Steps.{starts_at, starts_first}
use Rattle.browse.proofs.walking.start_forwards.Goals as goal

pub returns-in-None : goal.returns-in-None
returns-in-None g c = starts_first g.K.KeyOrder.cmp g.S.Store.facts c.args.reader.now c.go.new.self c.args.walk.now c.go.new.walk c.go.result c.args.from.now c.in-None.is c.go.ensures.moved

pub returns-in-Some : goal.returns-in-Some
returns-in-Some g c =
    starts_at g.K.KeyOrder.cmp g.S.Store.facts c.args.reader.now c.go-in-Some.new.self c.args.walk.now c.go-in-Some.new.walk c.go-in-Some.result c.args.from.now c.as_slice.result.now (c.in-Some.is ∙ ap (λ (key : List ℕ). Some key) (sym c.as_slice.ensures)) c.go-in-Some.ensures.moved
