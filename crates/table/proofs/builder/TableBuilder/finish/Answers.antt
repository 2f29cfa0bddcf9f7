use Rattle.std.proofs.Common.{rules, arith, ◌≡◌, List, ℕ, length, ap, ◌∙◌, subst}
use Rattle.block.specs.Block.{IsBlock}
use Rattle.filter.specs.Builder.{IsWritten}
use Rattle.ikey.specs.Below.{IsBelowInternal}
use Rattle.store.specs.Files.{Facts}
use Rattle.table.specs.Building.{Building, index_length}
use Rattle.table.specs.Writing.{AreEnds}
use Rattle.table.proofs.Written.{length-index, ends_put, writes_on, written}
use Rattle.table.proofs.builder.TableBuilder.finish.Goals as goal

pub returns-in_err-append-clause-writes : goal.returns-in_err-append-clause-writes
returns-in_err-append-clause-writes g c =
    let named = c.deref-3.ensures ∙ ap (λ (v : Building). v.name) c.builder.view_is ∙ c.in_ok-end_last_block.ensures.name in
    writes_on (g.S.Store.facts c.args.store.now) (g.S.Store.facts c.end_last_block.new.store) (g.S.Store.facts c.append.new.store) c.args.self.name c.deref-3.result.now named
    c.in_ok-end_last_block.ensures.writes c.in_err-append.ensures.writes

pub returns-clause-writes : goal.returns-clause-writes
returns-clause-writes g c =
    let named = c.deref-3.ensures ∙ ap (λ (v : Building). v.name) c.builder.view_is ∙ c.in_ok-end_last_block.ensures.name in
    writes_on (g.S.Store.facts c.args.store.now) (g.S.Store.facts c.end_last_block.new.store) (g.S.Store.facts c.append.new.store) c.args.self.name c.deref-3.result.now named
    c.in_ok-end_last_block.ensures.writes c.in_ok-append.ensures.writes

pub returns-clause-written : goal.returns-clause-written
returns-clause-written g c = λ pairs t h.
    let cmp = g.K.KeyOrder.cmp in
    let a : Facts = g.S.Store.facts c.args.store.now in
    let b : Facts = g.S.Store.facts c.end_last_block.new.store in
    let d : Facts = g.S.Store.facts c.append.new.store in
    let new : Building = c.end_last_block.new.self in
    let filter = c.in_ok-filter.filter.items in
    let index = c.in_ok-index.index.items in
    let put = rw (c.deref.ensures.value, c.deref-2.ensures.value) at c.in_ok-put_ends.ensures in
    let tail : List ℕ = put.0 in
    let named = c.deref-3.ensures ∙ ap (λ (v : Building). v.name) c.builder.view_is ∙ c.in_ok-end_last_block.ensures.name in
    let filter_is : IsWritten new.hashes filter = subst (λ (v : Building). IsWritten v.hashes filter) c.builder.view_is c.in_ok-filter.ensures.written in
    let index_is : IsBlock (IsBelowInternal cmp) index new.index = subst (λ (v : Building). IsBlock (IsBelowInternal cmp) index v.index) c.builder.view_is c.in_ok-index.ensures.block in
    let long : length index ≡ index_length new.index =
    length-index c.builder.inside.index.interval c.builder.inside.index.pairs index c.builder.invariant.index_interval c.in_ok-index.ensures.written ∙ ap (λ (v : Building). index_length v.index) c.builder.view_is in
    let ends : AreEnds new.offset filter index tail = subst (λ (v : Building). AreEnds v.offset filter index tail) c.builder.view_is put.1 in
    let same = ends_put c.deref-4.result.now c.new-ends.result.items tail c.put_ends.new.out.items c.new-ends.ensures.items put.2 c.deref-4.ensures.value in
    let w = written cmp g.met.K.KeyOrder.total c.added_is_admitted.ensures c.written_is_read.ensures c.args.self new a b d c.deref-3.result.now filter index c.deref-4.result.now tail
    c.in_ok-end_last_block.ensures.whole c.in_ok-end_last_block.ensures.none c.requires.some filter_is c.in_ok-filter.ensures.fits index_is long ends same named c.in_ok-append.ensures.writes.faithful
    c.in_ok-append.ensures.appended pairs t h in
    let offset : c.builder.inside.offset ≡ new.offset = ap (λ (v : Building). v.offset) c.builder.view_is in
    let length_is : c.len.result ≡ length c.deref-4.result.now = search rules in
    (w.0, w.1, omega (arith, w.2, offset, length_is), w.3)
