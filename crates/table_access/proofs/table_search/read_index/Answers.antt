use Rattle.std.proofs.Common.{length, ap}
use Rattle.std.proofs.lemmas.Result.{err_from_is_err_and}
use Rattle.table_access.specs.Tables.{seen}
use Rattle.table.specs.declared.handle.Place.{Place}
use Rattle.table_access.proofs.Standing.{table_still}
use Rattle.table_access.proofs.Fetching.{found_block, refused_block, right_ends}
use Rattle.table_access.proofs.Tearing.{torn_block, torn_ends}
use Rattle.table_access.proofs.table_search.read_index.Goals as goal

pub returns-clause-found : goal.returns-clause-found
returns-clause-found g c =
    let old = seen (g.S.Store.facts c.args.source.now.store) c.args.source.now.tables c.args.source.now.blocks in
    let new = seen (g.S.Store.facts c.read_block.new.self.store) c.read_block.new.self.tables c.read_block.new.self.blocks in
    found_block g.K.KeyOrder.cmp old new c.args.placed.now c.args.table.now.frame c.args.index c.in_ok-block.block.value.pairs
    (right_ends g.K.KeyOrder.cmp old new c.args.placed.now c.args.table.now.frame c.args.index _ c.in_ok-block.block.value.pairs c.in_ok-block.ensures.found (ap (length {A = Place}) c.places.ensures)
    (rw c.if-not-branch.false at c.in_ok-has_ends.ensures))

pub returns-clause-intact : goal.returns-clause-intact
returns-clause-intact g c =
    let old = seen (g.S.Store.facts c.args.source.now.store) c.args.source.now.tables c.args.source.now.blocks in
    let new = seen (g.S.Store.facts c.read_block.new.self.store) c.read_block.new.self.tables c.read_block.new.self.blocks in
    right_ends g.K.KeyOrder.cmp old new c.args.placed.now c.args.table.now.frame c.args.index _ c.in_ok-block.block.value.pairs c.in_ok-block.ensures.found (ap (length {A = Place}) c.places.ensures)
    (rw c.if-not-branch.false at c.in_ok-has_ends.ensures)

pub returns-then-not-branch-clause-refused : goal.returns-then-not-branch-clause-refused
returns-then-not-branch-clause-refused g c = λ t file has open_is.
    let old = seen (g.S.Store.facts c.args.source.now.store) c.args.source.now.tables c.args.source.now.blocks in
    let new = seen (g.S.Store.facts c.read_block.new.self.store) c.read_block.new.self.tables c.read_block.new.self.blocks in
    torn_ends g.K.KeyOrder.cmp old new c.args.placed.now c.args.table.now.frame c.args.index _ c.in_ok-block.block.value.pairs c.in_ok-block.ensures.found (ap (length {A = Place}) c.places.ensures)
    (rw c.if-not-branch.true at c.in_ok-has_ends.ensures) t file has open_is.0

pub returns-in_err-block-clause-refused : goal.returns-in_err-block-clause-refused
returns-in_err-block-clause-refused g c =
    let p = err_from_is_err_and c.from_residual.result c.from_residual.ensures.1 in
    let old = seen (g.S.Store.facts c.args.source.now.store) c.args.source.now.tables c.args.source.now.blocks in
    let new = seen (g.S.Store.facts c.read_block.new.self.store) c.read_block.new.self.tables c.read_block.new.self.blocks in
    rw (p.1, p.2) (refused_block g.K.KeyOrder.cmp old new c.args.placed.now c.args.table.now.frame c.args.index c.in_err-block.field-0.0 c.in_err-block.ensures.refused)

pub returns-in_err-block-clause-still : goal.returns-in_err-block-clause-still
returns-in_err-block-clause-still g c =
    let p = err_from_is_err_and c.from_residual.result c.from_residual.ensures.1 in
    rw (p.1, p.2) (table_still c.in_err-block.field-0.0 (g.S.Store.facts c.args.source.now.store) (g.S.Store.facts c.read_block.new.self.store) c.args.placed.now.table.number _ _ c.in_err-block.ensures.refused)

pub returns-in_err-block-clause-torn : goal.returns-in_err-block-clause-torn
returns-in_err-block-clause-torn g c =
    let p = err_from_is_err_and c.from_residual.result c.from_residual.ensures.1 in
    let old = seen (g.S.Store.facts c.args.source.now.store) c.args.source.now.tables c.args.source.now.blocks in
    let new = seen (g.S.Store.facts c.read_block.new.self.store) c.read_block.new.self.tables c.read_block.new.self.blocks in
    rw (p.1, p.2) (torn_block g.K.KeyOrder.cmp old new c.args.placed.now c.args.table.now.frame c.args.index c.in_err-block.field-0.0 c.in_err-block.ensures.refused)

pub returns-then-not-branch-clause-torn : goal.returns-then-not-branch-clause-torn
returns-then-not-branch-clause-torn g c =
    let old = seen (g.S.Store.facts c.args.source.now.store) c.args.source.now.tables c.args.source.now.blocks in
    let new = seen (g.S.Store.facts c.read_block.new.self.store) c.read_block.new.self.tables c.read_block.new.self.blocks in
    torn_ends g.K.KeyOrder.cmp old new c.args.placed.now c.args.table.now.frame c.args.index _ c.in_ok-block.block.value.pairs c.in_ok-block.ensures.found (ap (length {A = Place}) c.places.ensures)
    (rw c.if-not-branch.true at c.in_ok-has_ends.ensures)
