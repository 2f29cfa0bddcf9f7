use Rattle.std.proofs.Common.{◌≡◌, ℕ, sym}
use Rattle.ikey.specs.Orders.{order_of}
use Rattle.engine.specs.Stands.{no_ids}
use Rattle.engine.specs.StandsDb.{StandsDb, db_store_of}
use Rattle.engine.specs.declared.ids.Ids.{Ids}
use Rattle.counter.proofs.OverFiles.{over_done, over_refused}
use Rattle.counter.proofs.running.count_over.Goals as goal

begun : (ids : Ids) → (ids.snapshot ≡ 0) × (ids.iterator ≡ 0) → no_ids ≡ ids
begun ids is = λ i. let snapshot = sym is.0 in let iterator = sym is.1 in record { snapshot = snapshot i; iterator = iterator i }

pub returns-in-Ok-clause-counted : goal.returns-in-Ok-clause-counted
returns-in-Ok-clause-counted g c =
    let order = order_of g.K.KeyOrder.name g.K.KeyOrder.cmp in
    let facts = g.S.Store.facts in
    let db = c.in-Ok.db in
    over_done order (facts c.args.store) (facts c.count_and_close.result.store) c.args.names.now c.first.result (begun c.first.result c.first.ensures)
    c.there_is_a_first.ensures.map c.from_files.ensures.undamaged c.to_files.ensures.undamaged
    (facts (db_store_of db)) (StandsDb order facts db) c.count_and_close.result.count c.in-Ok.ensures.ok c.count_and_close.ensures.step

pub returns-in-Err-clause-counted : goal.returns-in-Err-clause-counted
returns-in-Err-clause-counted g c =
    let order = order_of g.K.KeyOrder.name g.K.KeyOrder.cmp in
    let facts = g.S.Store.facts in
    over_refused order (facts c.args.store) (facts c.in-Err.refused.store) c.args.names.now c.first.result (begun c.first.result c.first.ensures)
    c.there_is_a_first.ensures.map c.from_files.ensures.undamaged c.to_files.ensures.undamaged c.in-Err.refused.error c.in-Err.ensures.err
