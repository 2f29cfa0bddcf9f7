use Rattle.std.proofs.Common.{refl}
use Rattle.db_cursor.proofs.TakenBack.{tables_back, taken_back}
use Rattle.db_cursor.proofs.scan.Scan.take_back.Goals as goal

pub returns-clause-back : goal.returns-clause-back
returns-clause-back g c =
    taken_back g.K.KeyOrder.cmp c.args.stood c.args.self.now (record c.args.self.now { walk = c.take_back.new.self }) c.take_back.ensures.cursor c.take_back.ensures.sequence c.take_back.ensures.stands c.take_back.ensures.position c.take_back.ensures.key (record { generation = refl; sealed = refl; version = refl })

pub returns-clause-within : goal.returns-clause-within
returns-clause-within g c = tables_back c.args.self.now (record c.args.self.now { walk = c.take_back.new.self }) c.take_back.ensures.cursor (record { generation = refl; sealed = refl; version = refl })
