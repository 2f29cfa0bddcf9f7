use Rattle.browse.proofs.Steps.{goes_back, goes_next}
use Rattle.browse.proofs.walking.step.Goals as goal

pub returns-then-backwards : goal.returns-then-backwards
returns-then-backwards g c = goes_back g.K.KeyOrder.cmp g.S.Store.facts c.args.reader.now c.go.new.self c.args.walk.now c.go.new.walk c.go.result c.args.backwards c.if-backwards.true c.go.ensures.moved

pub returns : goal.returns
returns g c = goes_next g.K.KeyOrder.cmp g.S.Store.facts c.args.reader.now c.go-2.new.self c.args.walk.now c.go-2.new.walk c.go-2.result c.args.backwards c.if-backwards.false c.go-2.ensures.moved
