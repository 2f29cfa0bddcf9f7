use Rattle.browse.proofs.Steps.{starts_at_end, starts_in_front, starts_refused}
use Rattle.browse.proofs.walking.start_in_front.Goals as goal

pub returns-in-Ok-Some : goal.returns-in-Ok-Some
returns-in-Ok-Some g c =
    starts_in_front g.K.KeyOrder.cmp g.S.Store.facts c.args.to.now c.args.reader.now c.go.new.self c.go-in-Ok-Some.new.self c.args.walk.now c.go.new.walk c.go-in-Ok-Some.new.walk c.in-Ok-Some.field-0-0 c.go-in-Ok-Some.result
    (rw c.in-Ok-Some.field-0-is at c.in-Ok-Some.ensures.moved) c.go-in-Ok-Some.ensures.moved

pub returns-in-Ok-None : goal.returns-in-Ok-None
returns-in-Ok-None g c =
    starts_at_end g.K.KeyOrder.cmp g.S.Store.facts c.args.to.now c.args.reader.now c.go.new.self c.go-in-Ok-None.new.self c.args.walk.now c.go.new.walk c.go-in-Ok-None.new.walk c.go-in-Ok-None.result
    (rw c.in-Ok-None.field-0-is at c.in-Ok-None.ensures.moved) c.go-in-Ok-None.ensures.moved

pub returns : goal.returns
returns g c =
    starts_refused g.K.KeyOrder.cmp g.S.Store.facts c.args.to.now c.args.reader.now c.go.new.self c.go.new.self c.args.walk.now c.go.new.walk c.go.new.walk c.in-Err.error c.in-Err.ensures.moved
