use Rattle.std.proofs.Common.{◌+◌, ◌/◌, List, ℕ, take, ap, ◌∙◌, arith}
use Rattle.filter.specs.Builder.{with_hash}
use Rattle.filter.specs.Cuts.{cut, total}
use Rattle.filter.specs.Hash.{hash_of}
use Rattle.filter.proofs.Cuts.{few-hashes, place-inside, cut-with, total-with}
use Rattle.filter.proofs.builder.FilterBuilder.add.Goals as goal

pub insert-requires : goal.insert-requires
insert-requires c =
    let i = c.self.inside in
    let p = c.place_of-place.ensures ∙ ap (λ (v : List ℕ). total (take (c.args.offset / 2048 + 1) v)) c.deref.ensures.value in
    let inside = place-inside i.counts.items c.reach.new.counts.items i.hashes.items c.place_of-place.result (c.args.offset / 2048) c.self.invariant c.in_ok-reach.ensures.ok p in
    omega (arith, inside, i.hashes.ok.0)

pub overflow_add-index_mut : goal.overflow_add-index_mut
overflow_add-index_mut c =
    let i = c.self.inside in
    let few = few-hashes i.counts.items c.reach.new.counts.items i.hashes.items c.place_of-place.result (c.args.offset / 2048) c.self.invariant c.in_ok-reach.ensures.ok
    c.index_mut.result.now c.index_mut.ensures.value in
    omega (arith, few, i.hashes.ok.0, i.hashes.small)

pub invariant_of-self-2 : goal.invariant_of-self-2
invariant_of-self-2 c =
    let i = c.self.inside in
    let p = c.place_of-place.ensures ∙ ap (λ (v : List ℕ). total (take (c.args.offset / 2048 + 1) v)) c.deref.ensures.value in
    total-with i.counts.items c.reach.new.counts.items i.hashes.items c.place_of-place.result (c.args.offset / 2048) c.self.invariant c.in_ok-reach.ensures.ok p
    c.insert.new.self.items c.index_mut.result.now c.hash.result c.in_ok-insert.ensures.items c.index_mut.ensures.value

pub returns : goal.returns
returns c =
    let i = c.self.inside in
    let index = c.args.offset / 2048 in
    let p = c.place_of-place.ensures ∙ ap (λ (v : List ℕ). total (take (index + 1) v)) c.deref.ensures.value in
    cut-with i.counts.items c.reach.new.counts.items i.hashes.items c.place_of-place.result index c.self.invariant c.in_ok-reach.ensures.ok p
    c.insert.new.self.items c.index_mut.result.now c.hash.result c.in_ok-insert.ensures.items c.index_mut.ensures.value
    ∙ ap (with_hash (cut i.counts.items i.hashes.items) index) c.hash.ensures ∙ ap (λ (v : List (List ℕ)). with_hash v index (hash_of c.args.key.now)) c.self.view_is
