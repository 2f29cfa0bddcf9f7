use Rattle.std.proofs.Common.{◌<◌, ◌≤◌, List, length, sym, ◌∙◌, subst, arith}
use Rattle.std.proofs.lemmas.Result.{err_from_is_err_and}
use Rattle.table_access.specs.TablePlaces.{Passed}
use Rattle.table_access.specs.Tables.{seen}
use Rattle.table.specs.Frame.{AnyLong, handles}
use Rattle.table.specs.declared.handle.Place.{Place}
use Rattle.table_access.specs.TableLaws.{carries_both}
use Rattle.table_access.proofs.Standing.{still_later}
use Rattle.table_access.proofs.Coming.{came_here, came_to_end, coming_begins, coming_on}
use Rattle.table_access.proofs.Searching.{searching_found, searching_none}
use Rattle.table_access.proofs.Tearing.{refused_there, torn_there}
use Rattle.table_access.proofs.table_search.search_on.Goals as goal

pub loop-index-init : goal.loop-index-init
loop-index-init g c =
    coming_begins g.K.KeyOrder.cmp (Passed g.K.KeyOrder.cmp c.args.aim) (seen (g.S.Store.facts c.args.source.now.store) c.args.source.now.tables c.args.source.now.blocks) c.args.placed.now c.args.table.now.frame c.args.start

pub returns-in_err-block-clause-carries : goal.returns-in_err-block-clause-carries
returns-in_err-block-clause-carries g c =
    carries_both g.K.KeyOrder.cmp (seen (g.S.Store.facts c.args.source.now.store) c.args.source.now.tables c.args.source.now.blocks)
    (seen (g.S.Store.facts c.loop-index.source.store) c.loop-index.source.tables c.loop-index.source.blocks)
    (seen (g.S.Store.facts c.read_index.new.source.store) c.read_index.new.source.tables c.read_index.new.source.blocks) c.loop-index.invariant.searching.carries c.read_index.ensures.carries

pub returns-in_err-block-clause-refused : goal.returns-in_err-block-clause-refused
returns-in_err-block-clause-refused g c =
    let p = err_from_is_err_and c.from_residual.result c.from_residual.ensures.1 in
    let frame = c.args.table.now.frame in
    let inside : c.loop-index.index < length frame.places = subst (λ (ps : List Place). c.loop-index.index < length ps) c.places-index-end.ensures (let l = c.loop-index-test.true in omega (arith, l)) in
    rw (p.1, p.2)
    (refused_there g.K.KeyOrder.cmp (Passed g.K.KeyOrder.cmp c.args.aim) (seen (g.S.Store.facts c.args.source.now.store) c.args.source.now.tables c.args.source.now.blocks)
    (seen (g.S.Store.facts c.loop-index.source.store) c.loop-index.source.tables c.loop-index.source.blocks)
    (seen (g.S.Store.facts c.read_index.new.source.store) c.read_index.new.source.tables c.read_index.new.source.blocks) c.args.placed.now frame c.args.start c.loop-index.index (AnyLong (handles frame)) c.in_err-block.field-0.0
    inside c.loop-index.invariant c.read_index.ensures.carries c.in_err-block.ensures.refused)

pub returns-in_err-cursor-clause-carries : goal.returns-in_err-cursor-clause-carries
returns-in_err-cursor-clause-carries g c =
    carries_both g.K.KeyOrder.cmp (seen (g.S.Store.facts c.args.source.now.store) c.args.source.now.tables c.args.source.now.blocks)
    (seen (g.S.Store.facts c.loop-index.source.store) c.loop-index.source.tables c.loop-index.source.blocks)
    (seen (g.S.Store.facts c.read_index.new.source.store) c.read_index.new.source.tables c.read_index.new.source.blocks) c.loop-index.invariant.searching.carries c.read_index.ensures.carries

pub returns-then-stands-clause-carries : goal.returns-then-stands-clause-carries
returns-then-stands-clause-carries g c =
    carries_both g.K.KeyOrder.cmp (seen (g.S.Store.facts c.args.source.now.store) c.args.source.now.tables c.args.source.now.blocks)
    (seen (g.S.Store.facts c.loop-index.source.store) c.loop-index.source.tables c.loop-index.source.blocks)
    (seen (g.S.Store.facts c.read_index.new.source.store) c.read_index.new.source.tables c.read_index.new.source.blocks) c.loop-index.invariant.searching.carries c.read_index.ensures.carries

pub returns-then-stands-clause-found : goal.returns-then-stands-clause-found
returns-then-stands-clause-found g c = λ t groups has fits.
    searching_found g.K.KeyOrder.cmp (Passed g.K.KeyOrder.cmp c.args.aim) (seen (g.S.Store.facts c.args.source.now.store) c.args.source.now.tables c.args.source.now.blocks)
    (seen (g.S.Store.facts c.loop-index.source.store) c.loop-index.source.tables c.loop-index.source.blocks)
    (seen (g.S.Store.facts c.read_index.new.source.store) c.read_index.new.source.tables c.read_index.new.source.blocks) c.args.placed.now c.args.table.now.frame c.args.start c.loop-index.index
    c.loop-index.invariant.searching c.read_index.ensures.carries c.in_ok-block.block.value.pairs c.in_ok-block.ensures.found c.in_ok-cursor.cursor c.in_ok-cursor.ensures.pairs c.in_ok-cursor.ensures.place
    (sym c.stands.ensures ∙ c.if-stands.true) t groups has

pub loop-index-preserved : goal.loop-index-preserved
loop-index-preserved g c =
    coming_on g.K.KeyOrder.cmp (Passed g.K.KeyOrder.cmp c.args.aim) (seen (g.S.Store.facts c.args.source.now.store) c.args.source.now.tables c.args.source.now.blocks)
    (seen (g.S.Store.facts c.loop-index.source.store) c.loop-index.source.tables c.loop-index.source.blocks)
    (seen (g.S.Store.facts c.read_index.new.source.store) c.read_index.new.source.tables c.read_index.new.source.blocks) c.args.placed.now c.args.table.now.frame c.args.start c.loop-index.index
    c.loop-index.invariant c.read_index.ensures.carries c.in_ok-block.block.value.pairs c.in_ok-block.ensures.intact c.in_ok-cursor.cursor c.in_ok-cursor.ensures.pairs c.in_ok-cursor.ensures.place
    (sym c.stands.ensures ∙ c.if-stands.false) c.in_ok-block.ensures.still c.in_ok-block.ensures.found

pub returns-clause-carries : goal.returns-clause-carries
returns-clause-carries g c = c.loop-index.invariant.searching.carries

pub returns-clause-found : goal.returns-clause-found
returns-clause-found g c =
    let end : length c.args.table.now.frame.places ≤ c.loop-index.index = subst (λ (ps : List Place). length ps ≤ c.loop-index.index) c.places-index-end.ensures (let l = c.loop-index-test.false in omega (arith, l)) in
    searching_none g.K.KeyOrder.cmp (Passed g.K.KeyOrder.cmp c.args.aim) (seen (g.S.Store.facts c.args.source.now.store) c.args.source.now.tables c.args.source.now.blocks)
    (seen (g.S.Store.facts c.loop-index.source.store) c.loop-index.source.tables c.loop-index.source.blocks) c.args.placed.now c.args.table.now.frame c.args.start c.loop-index.index c.loop-index.invariant.searching end

pub returns-in_err-block-clause-still : goal.returns-in_err-block-clause-still
returns-in_err-block-clause-still g c =
    let p = err_from_is_err_and c.from_residual.result c.from_residual.ensures.1 in
    rw (p.1, p.2) (still_later c.in_err-block.field-0.0 (g.S.Store.facts c.args.source.now.store) (g.S.Store.facts c.loop-index.source.store) (g.S.Store.facts c.read_index.new.source.store) c.loop-index.invariant.searching.still c.in_err-block.ensures.still)

pub returns-then-stands-clause-still : goal.returns-then-stands-clause-still
returns-then-stands-clause-still g c = c.in_ok-block.ensures.still ∙ c.loop-index.invariant.searching.still

pub returns-clause-still : goal.returns-clause-still
returns-clause-still g c = c.loop-index.invariant.searching.still

pub returns-then-stands-clause-came : goal.returns-then-stands-clause-came
returns-then-stands-clause-came g c =
    came_here g.K.KeyOrder.cmp (Passed g.K.KeyOrder.cmp c.args.aim) (seen (g.S.Store.facts c.args.source.now.store) c.args.source.now.tables c.args.source.now.blocks)
    (seen (g.S.Store.facts c.loop-index.source.store) c.loop-index.source.tables c.loop-index.source.blocks)
    (seen (g.S.Store.facts c.read_index.new.source.store) c.read_index.new.source.tables c.read_index.new.source.blocks) c.args.placed.now c.args.table.now.frame c.args.start c.loop-index.index
    c.loop-index.invariant c.read_index.ensures.carries c.in_ok-block.block.value.pairs c.in_ok-block.ensures.intact c.in_ok-cursor.cursor c.in_ok-cursor.ensures.pairs c.in_ok-cursor.ensures.place
    (sym c.stands.ensures ∙ c.if-stands.true)

pub returns-clause-came : goal.returns-clause-came
returns-clause-came g c =
    let end = c.loop-index-test.false in
    came_to_end g.K.KeyOrder.cmp (Passed g.K.KeyOrder.cmp c.args.aim) (seen (g.S.Store.facts c.args.source.now.store) c.args.source.now.tables c.args.source.now.blocks)
    (seen (g.S.Store.facts c.loop-index.source.store) c.loop-index.source.tables c.loop-index.source.blocks) c.args.placed.now c.args.table.now.frame c.args.start c.loop-index.index
    c.loop-index.invariant (subst (λ (ps : List Place). length ps ≤ c.loop-index.index) c.places-index-end.ensures (omega (arith, end)))

pub returns-in_err-block-clause-torn : goal.returns-in_err-block-clause-torn
returns-in_err-block-clause-torn g c =
    let p = err_from_is_err_and c.from_residual.result c.from_residual.ensures.1 in
    let frame = c.args.table.now.frame in
    let inside : c.loop-index.index < length frame.places = subst (λ (ps : List Place). c.loop-index.index < length ps) c.places-index-end.ensures (let l = c.loop-index-test.true in omega (arith, l)) in
    rw (p.1, p.2)
    (torn_there g.K.KeyOrder.cmp (Passed g.K.KeyOrder.cmp c.args.aim) (seen (g.S.Store.facts c.args.source.now.store) c.args.source.now.tables c.args.source.now.blocks)
    (seen (g.S.Store.facts c.loop-index.source.store) c.loop-index.source.tables c.loop-index.source.blocks)
    (seen (g.S.Store.facts c.read_index.new.source.store) c.read_index.new.source.tables c.read_index.new.source.blocks) c.args.placed.now c.args.table.now.frame c.args.start c.loop-index.index c.in_err-block.field-0.0
    inside c.loop-index.invariant c.read_index.ensures.carries c.in_err-block.ensures.torn)
