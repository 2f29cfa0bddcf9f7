use Rattle.browse.specs.internal.Walking.{Ahead}
use Rattle.browse.proofs.Printed.{moves_refused, moves_within}
use Rattle.browse.proofs.walking.next_pair.Goals as goal

pub returns-in-Ok : goal.returns-in-Ok
returns-in-Ok g c =
    moves_within g.K.KeyOrder.cmp g.S.Store.facts c.args.choice.now (Ahead g.K.KeyOrder.cmp c.args.choice.now c.args.begun) c.args.reader.now c.move_on.new.reader c.args.walk.now c.move_on.new.walk c.in-Ok.found c.settle.result c.settle.ensures c.in-Ok.ensures

pub returns-in-Err : goal.returns-in-Err
returns-in-Err g c =
    moves_refused g.K.KeyOrder.cmp g.S.Store.facts c.args.choice.now (Ahead g.K.KeyOrder.cmp c.args.choice.now c.args.begun) c.args.reader.now c.move_on.new.reader c.args.walk.now c.move_on.new.walk c.in-Err.error c.in-Err.ensures
