use Rattle.engine.proofs.Closing.{closed_more}
use Rattle.engine.proofs.work.close_tables.Goals as goal

pub loop-number-preserved : goal.loop-number-preserved
loop-number-preserved g c = closed_more c.args.tables.now.tables c.loop-number.tables.tables c.evict.new.self.tables c.args.numbers.now c.loop-number.number-index c.loop-number-test.true c.loop-number.invariant c.evict.ensures.kept c.evict.ensures.gone
