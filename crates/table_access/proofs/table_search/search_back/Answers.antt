use Rattle.std.proofs.Common.{◌-◌, refl, sym, ap, ◌∙◌, arith}
use Rattle.std.proofs.lemmas.Result.{err_from_is_err_and}
use Rattle.block.specs.Places.{Placed}
use Rattle.table_access.specs.Tables.{seen}
use Rattle.table.specs.Frame.{AnyLong, handles}
use Rattle.table_access.specs.TableLaws.{carries_both}
use Rattle.table_access.proofs.Searching.{back_begins, back_found, back_none, back_on}
use Rattle.table_access.proofs.Standing.{still_later}
use Rattle.table_access.proofs.Tearing.{refused_back}
use Rattle.table_access.proofs.table_search.search_back.Goals as goal

pub loop-step-init : goal.loop-step-init
loop-step-init g c = back_begins g.K.KeyOrder.cmp (seen (g.S.Store.facts c.args.source.now.store) c.args.source.now.tables c.args.source.now.blocks) c.args.placed.now c.args.table.now.frame c.args.end

pub returns-in_err-block-clause-carries : goal.returns-in_err-block-clause-carries
returns-in_err-block-clause-carries g c =
    carries_both g.K.KeyOrder.cmp (seen (g.S.Store.facts c.args.source.now.store) c.args.source.now.tables c.args.source.now.blocks)
    (seen (g.S.Store.facts c.loop-step.source.store) c.loop-step.source.tables c.loop-step.source.blocks)
    (seen (g.S.Store.facts c.read_index.new.source.store) c.read_index.new.source.tables c.read_index.new.source.blocks) c.loop-step.invariant.carries c.read_index.ensures.carries

pub returns-in_err-block-clause-refused : goal.returns-in_err-block-clause-refused
returns-in_err-block-clause-refused g c =
    let p = err_from_is_err_and c.from_residual.result c.from_residual.ensures.1 in
    let frame = c.args.table.now.frame in
    let inside = c.loop-step-test.true in
    rw (p.1, p.2)
    (refused_back g.K.KeyOrder.cmp (seen (g.S.Store.facts c.args.source.now.store) c.args.source.now.tables c.args.source.now.blocks)
    (seen (g.S.Store.facts c.loop-step.source.store) c.loop-step.source.tables c.loop-step.source.blocks)
    (seen (g.S.Store.facts c.read_index.new.source.store) c.read_index.new.source.tables c.read_index.new.source.blocks) c.args.placed.now frame c.args.end c.loop-step.step (c.args.end - c.loop-step.step - 1) (AnyLong (handles frame)) c.in_err-block.field-0.0
    (omega (arith, inside)) refl c.loop-step.invariant c.read_index.ensures.carries c.in_err-block.ensures.refused)

pub returns-in_err-last-clause-carries : goal.returns-in_err-last-clause-carries
returns-in_err-last-clause-carries g c =
    carries_both g.K.KeyOrder.cmp (seen (g.S.Store.facts c.args.source.now.store) c.args.source.now.tables c.args.source.now.blocks)
    (seen (g.S.Store.facts c.loop-step.source.store) c.loop-step.source.tables c.loop-step.source.blocks)
    (seen (g.S.Store.facts c.read_index.new.source.store) c.read_index.new.source.tables c.read_index.new.source.blocks) c.loop-step.invariant.carries c.read_index.ensures.carries

pub returns-then-stands-clause-carries : goal.returns-then-stands-clause-carries
returns-then-stands-clause-carries g c =
    carries_both g.K.KeyOrder.cmp (seen (g.S.Store.facts c.args.source.now.store) c.args.source.now.tables c.args.source.now.blocks)
    (seen (g.S.Store.facts c.loop-step.source.store) c.loop-step.source.tables c.loop-step.source.blocks)
    (seen (g.S.Store.facts c.read_index.new.source.store) c.read_index.new.source.tables c.read_index.new.source.blocks) c.loop-step.invariant.carries c.read_index.ensures.carries

pub returns-then-stands-clause-found : goal.returns-then-stands-clause-found
returns-then-stands-clause-found g c = λ t groups has fits.
    let less = c.loop-step-test.true in
    let cursor = rw c.new-cursor.ensures at c.in_ok-last.ensures.ok in
    back_found g.K.KeyOrder.cmp (seen (g.S.Store.facts c.args.source.now.store) c.args.source.now.tables c.args.source.now.blocks)
    (seen (g.S.Store.facts c.loop-step.source.store) c.loop-step.source.tables c.loop-step.source.blocks)
    (seen (g.S.Store.facts c.read_index.new.source.store) c.read_index.new.source.tables c.read_index.new.source.blocks) c.args.placed.now c.args.table.now.frame c.args.end c.loop-step.step
    (c.args.end - c.loop-step.step - 1) (omega (arith, less)) refl c.loop-step.invariant c.read_index.ensures.carries c.in_ok-block.block.value.pairs c.in_ok-block.ensures.found c.last.new.self
    (ap (λ (p : Placed). p.pairs) cursor) (ap (λ (p : Placed). p.place) cursor) (sym c.stands.ensures ∙ c.if-stands.true) t groups has

pub loop-step-preserved : goal.loop-step-preserved
loop-step-preserved g c =
    let less = c.loop-step-test.true in
    let cursor = rw c.new-cursor.ensures at c.in_ok-last.ensures.ok in
    back_on g.K.KeyOrder.cmp (seen (g.S.Store.facts c.args.source.now.store) c.args.source.now.tables c.args.source.now.blocks)
    (seen (g.S.Store.facts c.loop-step.source.store) c.loop-step.source.tables c.loop-step.source.blocks)
    (seen (g.S.Store.facts c.read_index.new.source.store) c.read_index.new.source.tables c.read_index.new.source.blocks) c.args.placed.now c.args.table.now.frame c.args.end c.loop-step.step
    (c.args.end - c.loop-step.step - 1) (omega (arith, less)) refl c.loop-step.invariant c.read_index.ensures.carries c.in_ok-block.block.value.pairs c.in_ok-block.ensures.found c.last.new.self
    (ap (λ (p : Placed). p.pairs) cursor) (ap (λ (p : Placed). p.place) cursor) (sym c.stands.ensures ∙ c.if-stands.false) c.in_ok-block.ensures.still c.in_ok-block.ensures.intact

pub returns-clause-carries : goal.returns-clause-carries
returns-clause-carries g c = c.loop-step.invariant.carries

pub returns-clause-found : goal.returns-clause-found
returns-clause-found g c = λ t groups has fits.
    let over = c.loop-step-test.false in
    back_none g.K.KeyOrder.cmp (seen (g.S.Store.facts c.args.source.now.store) c.args.source.now.tables c.args.source.now.blocks)
    (seen (g.S.Store.facts c.loop-step.source.store) c.loop-step.source.tables c.loop-step.source.blocks) c.args.placed.now c.args.table.now.frame c.args.end c.loop-step.step c.loop-step.invariant (omega (arith, over)) t groups has

pub returns-in_err-block-clause-still : goal.returns-in_err-block-clause-still
returns-in_err-block-clause-still g c =
    let p = err_from_is_err_and c.from_residual.result c.from_residual.ensures.1 in
    rw (p.1, p.2) (still_later c.in_err-block.field-0.0 (g.S.Store.facts c.args.source.now.store) (g.S.Store.facts c.loop-step.source.store) (g.S.Store.facts c.read_index.new.source.store) c.loop-step.invariant.still c.in_err-block.ensures.still)

pub returns-then-stands-clause-still : goal.returns-then-stands-clause-still
returns-then-stands-clause-still g c = c.in_ok-block.ensures.still ∙ c.loop-step.invariant.still

pub returns-clause-still : goal.returns-clause-still
returns-clause-still g c = c.loop-step.invariant.still
