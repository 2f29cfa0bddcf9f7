use Rattle.std.proofs.Common.{◌≡◌, ◌-◌, length, nat_lt, true, false, refl, sym, ◌∙◌, arith}
use Rattle.std.proofs.lemmas.Bool.{lt-ltb, ltb-true}
use Rattle.std.proofs.lemmas.Option.{slice_get_read}
use Rattle.std.proofs.lemmas.Result.{err_from_is_err_and}
use Rattle.table_access.specs.Tables.{seen}
use Rattle.level_cursor.proofs.Having.{have_length}
use Rattle.level_cursor.proofs.Refusing.{one_opened, refused_at}
use Rattle.level_cursor.proofs.Searching.{back_begins, back_found, back_none, back_on, back_torn, read_one}
use Rattle.cursor.proofs.Turns.{still_later}
use Rattle.level_cursor.proofs.row_search.search_back.Goals as goal
use Rattle.level_cursor.specs.RowLists.{member_at}

pub loop-step-init : goal.loop-step-init
loop-step-init g c = back_begins g.K.KeyOrder.cmp (seen (g.S.Store.facts c.args.source.now.store) c.args.source.now.tables c.args.source.now.blocks) c.args.row.now c.args.end

pub returns-in_default-clause-carries : goal.returns-in_default-clause-carries
returns-in_default-clause-carries g c = c.loop-step.invariant.carries

pub returns-in_default-clause-refused : goal.returns-in_default-clause-refused
returns-in_default-clause-refused g c = λ t lists cut have fits ends.
    let none : false ≡ nat_lt (c.args.end - c.loop-step.step - 1) (length c.args.row.now) = c.in_default.ensures.lookup.0 in
    let l = have_length g.K.KeyOrder.cmp (seen (g.S.Store.facts c.args.source.now.store) c.args.source.now.tables c.args.source.now.blocks) c.args.row.now lists have in
    let less = c.loop-step-test.true in
    let there = lt-ltb (c.args.end - c.loop-step.step - 1) (length c.args.row.now) (omega (arith, l, fits, less)) in
    let bad : false ≡ true = none ∙ there in absurd cc

pub returns-in_err-cursor-clause-carries : goal.returns-in_err-cursor-clause-carries
returns-in_err-cursor-clause-carries g c = read_one g.K.KeyOrder.cmp (seen (g.S.Store.facts c.args.source.now.store) c.args.source.now.tables c.args.source.now.blocks) (seen (g.S.Store.facts c.loop-step.source.store) c.loop-step.source.tables c.loop-step.source.blocks) (seen (g.S.Store.facts c.leave.new.source.store) c.leave.new.source.tables c.leave.new.source.blocks) c.args.row.now c.in-Some.placed.now (member_at c.args.row.now (c.args.end - c.loop-step.step - 1) c.in-Some.placed.now (slice_get_read c.args.row.now (length c.args.row.now) (c.args.end - c.loop-step.step - 1) c.in-Some.placed.now refl (ltb-true (c.args.end - c.loop-step.step - 1) (length c.args.row.now) (sym c.in-Some.ensures.lookup.0)) c.in-Some.ensures.lookup.1)) c.loop-step.invariant.carries c.leave.ensures.carries

pub returns-in_err-cursor-clause-refused : goal.returns-in_err-cursor-clause-refused
returns-in_err-cursor-clause-refused g c =
    let p = err_from_is_err_and c.from_residual.result c.from_residual.ensures.1 in
    rw (p.1, p.2)
    (refused_at g.K.KeyOrder.cmp c.in_err-cursor.field-0.0 (seen (g.S.Store.facts c.args.source.now.store) c.args.source.now.tables c.args.source.now.blocks) (seen (g.S.Store.facts c.loop-step.source.store) c.loop-step.source.tables c.loop-step.source.blocks) (seen (g.S.Store.facts c.leave.new.source.store) c.leave.new.source.tables c.leave.new.source.blocks) c.args.row.now (c.args.end - c.loop-step.step - 1) c.in-Some.placed.now _ _ c.loop-step.invariant.carries c.leave.ensures.carries (slice_get_read c.args.row.now (length c.args.row.now) (c.args.end - c.loop-step.step - 1) c.in-Some.placed.now refl (ltb-true (c.args.end - c.loop-step.step - 1) (length c.args.row.now) (sym c.in-Some.ensures.lookup.0)) c.in-Some.ensures.lookup.1)
    (λ t lift none lists cut have fits ends. let one = back_torn g.K.KeyOrder.cmp (seen (g.S.Store.facts c.args.source.now.store) c.args.source.now.tables c.args.source.now.blocks) (seen (g.S.Store.facts c.loop-step.source.store) c.loop-step.source.tables c.loop-step.source.blocks) c.args.row.now c.args.end c.loop-step.step (c.args.end - c.loop-step.step - 1) (let less = c.loop-step-test.true in omega (arith, less)) refl c.loop-step.invariant t c.in-Some.placed.now (slice_get_read c.args.row.now (length c.args.row.now) (c.args.end - c.loop-step.step - 1) c.in-Some.placed.now refl (ltb-true (c.args.end - c.loop-step.step - 1) (length c.args.row.now) (sym c.in-Some.ensures.lookup.0)) c.in-Some.ensures.lookup.1) lists have fits cut ends in lift cut one.2 (none one.0 cut one.1 one.3)) c.in_err-cursor.ensures.refused)

pub returns-then-stands-clause-carries : goal.returns-then-stands-clause-carries
returns-then-stands-clause-carries g c = read_one g.K.KeyOrder.cmp (seen (g.S.Store.facts c.args.source.now.store) c.args.source.now.tables c.args.source.now.blocks) (seen (g.S.Store.facts c.loop-step.source.store) c.loop-step.source.tables c.loop-step.source.blocks) (seen (g.S.Store.facts c.leave.new.source.store) c.leave.new.source.tables c.leave.new.source.blocks) c.args.row.now c.in-Some.placed.now (member_at c.args.row.now (c.args.end - c.loop-step.step - 1) c.in-Some.placed.now (slice_get_read c.args.row.now (length c.args.row.now) (c.args.end - c.loop-step.step - 1) c.in-Some.placed.now refl (ltb-true (c.args.end - c.loop-step.step - 1) (length c.args.row.now) (sym c.in-Some.ensures.lookup.0)) c.in-Some.ensures.lookup.1)) c.loop-step.invariant.carries c.leave.ensures.carries

pub returns-then-stands-clause-found : goal.returns-then-stands-clause-found
returns-then-stands-clause-found g c = back_found g.K.KeyOrder.cmp (seen (g.S.Store.facts c.args.source.now.store) c.args.source.now.tables c.args.source.now.blocks) (seen (g.S.Store.facts c.loop-step.source.store) c.loop-step.source.tables c.loop-step.source.blocks) (seen (g.S.Store.facts c.leave.new.source.store) c.leave.new.source.tables c.leave.new.source.blocks) c.args.row.now c.args.end c.loop-step.step (c.args.end - c.loop-step.step - 1) (let less = c.loop-step-test.true in omega (arith, less)) refl c.loop-step.invariant c.in-Some.placed.now c.leave.ensures.carries (slice_get_read c.args.row.now (length c.args.row.now) (c.args.end - c.loop-step.step - 1) c.in-Some.placed.now refl (ltb-true (c.args.end - c.loop-step.step - 1) (length c.args.row.now) (sym c.in-Some.ensures.lookup.0)) c.in-Some.ensures.lookup.1) c.in_ok-cursor.cursor.placed c.in_ok-cursor.cursor.table.value.frame c.in_ok-cursor.cursor.here c.in_ok-cursor.ensures.found (sym c.stands.ensures ∙ c.if-stands.true)

pub returns-then-stands-clause-opened : goal.returns-then-stands-clause-opened
returns-then-stands-clause-opened g c = one_opened g.K.KeyOrder.cmp (seen (g.S.Store.facts c.args.source.now.store) c.args.source.now.tables c.args.source.now.blocks) (seen (g.S.Store.facts c.loop-step.source.store) c.loop-step.source.tables c.loop-step.source.blocks) (seen (g.S.Store.facts c.leave.new.source.store) c.leave.new.source.tables c.leave.new.source.blocks) c.args.row.now (c.args.end - c.loop-step.step - 1) c.in-Some.placed.now c.in_ok-cursor.cursor.placed c.in_ok-cursor.cursor.table.value.frame c.loop-step.invariant.carries c.leave.ensures.carries (slice_get_read c.args.row.now (length c.args.row.now) (c.args.end - c.loop-step.step - 1) c.in-Some.placed.now refl (ltb-true (c.args.end - c.loop-step.step - 1) (length c.args.row.now) (sym c.in-Some.ensures.lookup.0)) c.in-Some.ensures.lookup.1) c.in_ok-cursor.ensures.placed c.in_ok-cursor.ensures.opened

pub loop-step-preserved : goal.loop-step-preserved
loop-step-preserved g c = back_on g.K.KeyOrder.cmp (seen (g.S.Store.facts c.args.source.now.store) c.args.source.now.tables c.args.source.now.blocks) (seen (g.S.Store.facts c.loop-step.source.store) c.loop-step.source.tables c.loop-step.source.blocks) (seen (g.S.Store.facts c.leave.new.source.store) c.leave.new.source.tables c.leave.new.source.blocks) c.args.row.now c.args.end c.loop-step.step (c.args.end - c.loop-step.step - 1) (let less = c.loop-step-test.true in omega (arith, less)) refl c.loop-step.invariant c.in-Some.placed.now c.leave.ensures.carries (slice_get_read c.args.row.now (length c.args.row.now) (c.args.end - c.loop-step.step - 1) c.in-Some.placed.now refl (ltb-true (c.args.end - c.loop-step.step - 1) (length c.args.row.now) (sym c.in-Some.ensures.lookup.0)) c.in-Some.ensures.lookup.1) c.in_ok-cursor.cursor.placed c.in_ok-cursor.cursor.table.value.frame c.in_ok-cursor.cursor.here c.in_ok-cursor.ensures.found (sym c.stands.ensures ∙ c.if-stands.false) c.in_ok-cursor.ensures.still

pub returns-clause-carries : goal.returns-clause-carries
returns-clause-carries g c = c.loop-step.invariant.carries

pub returns-clause-found : goal.returns-clause-found
returns-clause-found g c = let over = c.loop-step-test.false in back_none g.K.KeyOrder.cmp (seen (g.S.Store.facts c.args.source.now.store) c.args.source.now.tables c.args.source.now.blocks) (seen (g.S.Store.facts c.loop-step.source.store) c.loop-step.source.tables c.loop-step.source.blocks) c.args.row.now c.args.end c.loop-step.step c.loop-step.invariant (omega (arith, over))

pub returns-in_err-cursor-clause-still : goal.returns-in_err-cursor-clause-still
returns-in_err-cursor-clause-still g c =
    let p = err_from_is_err_and c.from_residual.result c.from_residual.ensures.1 in
    rw (p.1, p.2) (still_later _ (g.S.Store.facts c.args.source.now.store) (g.S.Store.facts c.loop-step.source.store) (g.S.Store.facts c.leave.new.source.store) c.loop-step.invariant.still c.in_err-cursor.ensures.still)

pub returns-then-stands-clause-still : goal.returns-then-stands-clause-still
returns-then-stands-clause-still g c = c.in_ok-cursor.ensures.still ∙ c.loop-step.invariant.still

pub returns-clause-still : goal.returns-clause-still
returns-clause-still g c = c.loop-step.invariant.still
