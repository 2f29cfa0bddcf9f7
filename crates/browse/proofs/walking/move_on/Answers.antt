use Rattle.browse.proofs.Steps.{begins_back, begins_forth, goes_on}
use Rattle.browse.proofs.walking.move_on.Goals as goal

pub returns-then-begun : goal.returns-then-begun
returns-then-begun g c = goes_on g.K.KeyOrder.cmp g.S.Store.facts c.args.choice.now c.args.begun c.args.reader.now c.step.new.reader c.args.walk.now c.step.new.walk c.step.result c.if-begun.true c.step.ensures

pub returns-then-choice : goal.returns-then-choice
returns-then-choice g c =
    begins_back g.K.KeyOrder.cmp g.S.Store.facts c.args.choice.now c.args.begun c.args.reader.now c.start_backwards.new.reader c.args.walk.now c.start_backwards.new.walk c.start_backwards.result c.if-begun.false c.if-choice.true c.start_backwards.ensures

pub returns : goal.returns
returns g c =
    begins_forth g.K.KeyOrder.cmp g.S.Store.facts c.args.choice.now c.args.begun c.args.reader.now c.start_forwards.new.reader c.args.walk.now c.start_forwards.new.walk c.start_forwards.result c.if-begun.false c.if-choice.false c.start_forwards.ensures
