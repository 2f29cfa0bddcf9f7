use Rattle.ikey.specs.Orders.{order_of}
use Rattle.engine.specs.StandsDb.{db_ids_of, open_by, seen_by}
use Rattle.mended_db.proofs.Ending.{mends}
use Rattle.mended_db.proofs.laws.mended_ends.Goals as goal

pub returns : goal.returns
returns g c m undamaged s unbroken lost found =
    mends (order_of g.K.KeyOrder.name g.K.KeyOrder.cmp) c.mended_cut.ensures (seen_by g.S.Store.facts c.args.db.now) (db_ids_of c.args.db.now) (open_by c.args.db.now) m undamaged s unbroken lost found
