use Rattle.std.proofs.Common.{true, refl, arith}
use Rattle.std.proofs.lemmas.Result.{err_from_is_err_and}
use Rattle.std.proofs.lemmas.Option.{slice_get_within}
use Rattle.ikey.specs.Orders.{order_of}
use Rattle.recover.specs.declared.merging.Lane.{Lane}
use Rattle.recover.specs.internal.MergeSteps.{stamps}
use Rattle.recover.proofs.MergeParts.{table_refused, table_told}
use Rattle.recover.proofs.MergeSteps.{begun_mid, fits_lanes, lanes_put, set_length}
use Rattle.recover.proofs.merging.Merge.begin.Goals as goal

pub returns-in_err-walk-clause-told : goal.returns-in_err-walk-clause-told
returns-in_err-walk-clause-told g c =
    let p = err_from_is_err_and c.from_residual.result c.from_residual.ensures.1 in
    rw (p.1, p.2) (table_told (order_of g.K.KeyOrder.name g.K.KeyOrder.cmp) c.in_err-walk.field-0.0 (g.S.Store.facts c.args.store.now) (g.S.Store.facts c.begin.new.store) c.args.against c.args.place c.placed_at-placed.result.now
    c.placed_at-placed.ensures c.in_err-walk.ensures.told)

pub returns-in_err-walk-clause-refused : goal.returns-in_err-walk-clause-refused
returns-in_err-walk-clause-refused g c =
    let p = err_from_is_err_and c.from_residual.result c.from_residual.ensures.1 in
    rw (p.1, p.2) (table_refused (order_of g.K.KeyOrder.name g.K.KeyOrder.cmp) c.in_err-walk.field-0.0 (g.S.Store.facts c.args.store.now) (g.S.Store.facts c.begin.new.store) c.args.against c.args.place c.placed_at-placed.result.now
    c.placed_at-placed.ensures c.in_err-walk.ensures.refused)

pub index_mut-requires : goal.index_mut-requires
index_mut-requires g c =
    let lt = slice_get_within c.args.against.tables.now c.args.place c.placed_at-placed.result.now c.placed_at-placed.ensures in
    omega (arith, lt, c.requires.fits.begun, c.args.self.now.begun.ok)

pub returns-clause-fits : goal.returns-clause-fits
returns-clause-fits g c =
    let merge = c.args.self.now in
    let tables = c.args.against.tables.now in
    let placed = c.placed_at-placed.result.now in
    let lt = slice_get_within tables c.args.place placed c.placed_at-placed.ensures in
    let lane : Lane _ = record { place = c.args.place; level = placed.level; walk = c.in_ok-walk.walk; stands = true } in
    fits_lanes tables merge _ (lanes_put tables merge.lanes.items c.put_lane.new.lanes.items lane c.in_ok-put_lane.ensures lt c.requires.fits.lanes) (set_length merge.begun.items c.args.place true) refl c.requires.fits

pub returns-clause-found : goal.returns-clause-found
returns-clause-found g c = λ t.
    let order = order_of g.K.KeyOrder.name g.K.KeyOrder.cmp in
    let a = g.S.Store.facts c.args.store.now in
    let merge = c.args.self.now in
    let against = c.args.against in
    let placed = c.placed_at-placed.result.now in
    let lane : Lane _ = record { place = c.args.place; level = placed.level; walk = c.in_ok-walk.walk; stands = true } in
    begun_mid order g.met.K.KeyOrder.total a.files (stamps against.logged.now) against.recorded against.tables.now merge.lanes.items c.put_lane.new.lanes.items merge.last merge.begun.items merge.summaries.items c.args.place placed
    c.placed_at-placed.ensures c.requires.waits.2 lane refl refl refl (c.in_ok-walk.ensures.found t) c.in_ok-put_lane.ensures (c.requires.mid (c.in_ok-walk.ensures.store.faithful t))
