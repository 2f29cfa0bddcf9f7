use Rattle.std.proofs.Common.{arith, get_or, ℕ, List, subst}
use Rattle.std.proofs.lemmas.Result.{err_from_is_err_and}
use Rattle.table.specs.Reading.{Refuses, Finds}
use Rattle.table.specs.Refusals.{IsDamaged, IsUnsupported, IsOfOne}
use Rattle.table.specs.Table.{HasBlock}
use Rattle.table.specs.Views.{pairs_of}
use Rattle.table.specs.declared.handle.Place.{Place}
use Rattle.table.proofs.DataBlocks.{so_far_more, read_whole, is_of_one}
use Rattle.table.proofs.Steps.{refuses_later}
use Rattle.table.proofs.data.read_all.Goals as goal

pub returns-in_err-block-clause-refused : goal.returns-in_err-block-clause-refused
returns-in_err-block-clause-refused g c =
    let p = err_from_is_err_and c.from_residual.result c.from_residual.ensures.1 in
    let cmp = g.K.KeyOrder.cmp in
    let places = c.args.places.now in
    let at : Place = get_or places c.loop-place.place-index c.place-item.result in
    rw (p.1, p.2)
    (refuses_later _ (g.S.Store.facts c.args.store.now) (g.S.Store.facts c.loop-place.store) (g.S.Store.facts c.read_data.new.store) c.args.name.now
    (λ (file : List ℕ). IsDamaged cmp file at.handle) (λ (file : List ℕ). IsOfOne (IsDamaged cmp file) places) (λ (file : List ℕ). IsUnsupported file at.handle) (λ (file : List ℕ). IsOfOne (IsUnsupported file) places)
    (λ file h. is_of_one (IsDamaged cmp file) places c.loop-place.place-index c.place-item.result (omega arith) h) (λ file h. is_of_one (IsUnsupported file) places c.loop-place.place-index c.place-item.result (omega arith) h)
    c.loop-place.invariant.stood c.loop-place.invariant.reads c.in_err-block.ensures.reads
    (subst (λ (place : Place). Refuses c.in_err-block.field-0.0 (g.S.Store.facts c.loop-place.store) (g.S.Store.facts c.read_data.new.store) c.args.name.now
    (λ (file : List ℕ). IsDamaged cmp file place.handle) (λ (file : List ℕ). IsUnsupported file place.handle)) c.place-item.is c.in_err-block.ensures.refused))

pub loop-place-preserved : goal.loop-place-preserved
loop-place-preserved g c =
    so_far_more g.K.KeyOrder.cmp (g.S.Store.facts c.args.store.now) (g.S.Store.facts c.loop-place.store) (g.S.Store.facts c.read_data.new.store) c.args.name.now c.args.places.now c.loop-place.place-index
    c.place-item.result (pairs_of c.loop-place.found.items) (pairs_of c.push_pairs.new.found.items) c.in_ok-block.block.pairs (omega arith) c.loop-place.invariant c.in_ok-block.ensures.reads c.in_ok-block.ensures.stood
    (subst (λ (place : Place). Finds (g.S.Store.facts c.loop-place.store) (g.S.Store.facts c.read_data.new.store) c.args.name.now
    (λ (file : List ℕ). HasBlock g.K.KeyOrder.cmp file place.handle c.in_ok-block.block.pairs)) c.place-item.is c.in_ok-block.ensures.found)
    c.in_ok-push_pairs.ensures

pub returns-clause-found : goal.returns-clause-found
returns-clause-found g c = λ t file there. read_whole g.K.KeyOrder.cmp file c.args.places.now c.loop-place.place-index (pairs_of c.loop-place.found.items) (omega arith) (c.loop-place.invariant.answers t file there)
