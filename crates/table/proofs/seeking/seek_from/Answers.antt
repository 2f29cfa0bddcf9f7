use Rattle.std.proofs.Common.{arith, get_or, ℕ, List, Option, subst}
use Rattle.std.proofs.lemmas.Result.{err_from_is_err_and}
use Rattle.ikey.specs.Below.{IsBelowInternal}
use Rattle.table.specs.Reading.{Refuses, Finds}
use Rattle.table.specs.Refusals.{IsDamaged, IsUnsupported, IsOfOne}
use Rattle.table.specs.Seeking.{IsFirstOf, found_pair}
use Rattle.table.specs.Table.{HasBlock}
use Rattle.table.specs.Views.{pair_of}
use Rattle.table.specs.declared.handle.Place.{Place}
use Rattle.table.specs.declared.pair.KeyValue.{KeyValue}
use Rattle.table.proofs.DataBlocks.{is_of_one}
use Rattle.table.proofs.Seeks.{sought_more, sought_here, sought_none}
use Rattle.table.proofs.Steps.{refuses_later}
use Rattle.table.proofs.seeking.seek_from.Goals as goal

pub returns-in_err-block-clause-refused : goal.returns-in_err-block-clause-refused
returns-in_err-block-clause-refused g c =
    let p = err_from_is_err_and c.from_residual.result c.from_residual.ensures.1 in
    let cmp = g.K.KeyOrder.cmp in
    let places = c.args.places.now in
    let at : Place = get_or places c.loop-place.place-index c.place-item.result in
    rw (p.1, p.2)
    (refuses_later _ (g.S.Store.facts c.args.store.now) (g.S.Store.facts c.loop-place.store) (g.S.Store.facts c.read_data.new.store) c.args.name.now
    (λ (file : List ℕ). IsDamaged cmp file at.handle) (λ (file : List ℕ). IsOfOne (IsDamaged cmp file) places) (λ (file : List ℕ). IsUnsupported file at.handle) (λ (file : List ℕ). IsOfOne (IsUnsupported file) places)
    (λ file h. is_of_one (IsDamaged cmp file) places c.loop-place.place-index c.place-item.result (omega arith) h) (λ file h. is_of_one (IsUnsupported file) places c.loop-place.place-index c.place-item.result (omega arith) h)
    c.loop-place.invariant.stood c.loop-place.invariant.reads c.in_err-block.ensures.reads
    (subst (λ (place : Place). Refuses c.in_err-block.field-0.0 (g.S.Store.facts c.loop-place.store) (g.S.Store.facts c.read_data.new.store) c.args.name.now
    (λ (file : List ℕ). IsDamaged cmp file place.handle) (λ (file : List ℕ). IsUnsupported file place.handle)) c.place-item.is c.in_err-block.ensures.refused))

pub returns-in-Some-clause-found : goal.returns-in-Some-clause-found
returns-in-Some-clause-found g c =
    sought_here g.K.KeyOrder.cmp c.args.target.now (g.S.Store.facts c.args.store.now) (g.S.Store.facts c.loop-place.store) (g.S.Store.facts c.read_data.new.store) c.args.name.now c.args.places.now c.loop-place.place-index
    c.place-item.result c.in_ok-block.block.pairs (pair_of c.in-Some.found) (omega arith) c.loop-place.invariant c.in_ok-block.ensures.reads
    (subst (λ (place : Place). Finds (g.S.Store.facts c.loop-place.store) (g.S.Store.facts c.read_data.new.store) c.args.name.now
    (λ (file : List ℕ). HasBlock g.K.KeyOrder.cmp file place.handle c.in_ok-block.block.pairs)) c.place-item.is c.in_ok-block.ensures.found)
    (subst (λ (t : Option KeyValue). IsFirstOf (IsBelowInternal g.K.KeyOrder.cmp) c.args.target.now c.in_ok-block.block.pairs (found_pair t)) c.in-Some.is c.in_ok-found.ensures)

pub loop-place-preserved : goal.loop-place-preserved
loop-place-preserved g c =
    sought_more g.K.KeyOrder.cmp c.args.target.now (g.S.Store.facts c.args.store.now) (g.S.Store.facts c.loop-place.store) (g.S.Store.facts c.read_data.new.store) c.args.name.now c.args.places.now c.loop-place.place-index
    c.place-item.result c.in_ok-block.block.pairs (omega arith) c.loop-place.invariant c.in_ok-block.ensures.reads c.in_ok-block.ensures.stood
    (subst (λ (place : Place). Finds (g.S.Store.facts c.loop-place.store) (g.S.Store.facts c.read_data.new.store) c.args.name.now
    (λ (file : List ℕ). HasBlock g.K.KeyOrder.cmp file place.handle c.in_ok-block.block.pairs)) c.place-item.is c.in_ok-block.ensures.found)
    (subst (λ (t : Option KeyValue). IsFirstOf (IsBelowInternal g.K.KeyOrder.cmp) c.args.target.now c.in_ok-block.block.pairs (found_pair t)) c.in_default.is c.in_ok-found.ensures)

pub returns-clause-found : goal.returns-clause-found
returns-clause-found g c = λ t file there. sought_none g.K.KeyOrder.cmp c.args.target.now file c.args.places.now c.loop-place.place-index (omega arith) (c.loop-place.invariant.answers t file there)
