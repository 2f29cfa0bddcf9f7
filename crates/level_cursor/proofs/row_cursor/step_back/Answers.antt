use Rattle.std.proofs.Common.{Some, sym, subst}
use Rattle.std.proofs.lemmas.Result.{err_from_is_err_and}
use Rattle.cursor.specs.Merging.{listed}
use Rattle.table_access.specs.TableLaws.{carries_more}
use Rattle.table_access.specs.Tables.{seen}
use Rattle.level_cursor.proofs.Moving.{ended_back, stays_put, went_back}
use Rattle.level_cursor.proofs.Cutting.{prev_same}
use Rattle.table_access.specs.Torn.{TornTable}
use Rattle.level_cursor.proofs.Refusing.{refused_so}
use Rattle.level_cursor.proofs.row_cursor.step_back.Goals as goal

pub returns-in_err-step_back-clause-steps : goal.returns-in_err-step_back-clause-steps
returns-in_err-step_back-clause-steps g c =
    let p = err_from_is_err_and c.from_residual.result c.from_residual.ensures.1 in
    rw p.1 (λ t lists place placed.
    let h = rw c.in-Some.is at placed in
    stays_put g.K.KeyOrder.cmp (seen (g.S.Store.facts c.args.source.now.store) c.args.source.now.tables c.args.source.now.blocks) (seen (g.S.Store.facts c.step_back.new.source.store) c.step_back.new.source.tables c.step_back.new.source.blocks) lists c.in-Some.here.index c.in-Some.here.cursor.placed c.step_back.new.self.placed c.in-Some.here.cursor.table.value.frame c.step_back.new.self.table.value.frame c.in-Some.here.cursor.here c.step_back.new.self.here place c.step_back.ensures.placed (λ i. (c.step_back.ensures.table i).value.frame) h (c.in_err-step_back.ensures.steps t (listed h.list (Some h.inside)) h.stands))

pub returns-in_err-step_back-clause-refused : goal.returns-in_err-step_back-clause-refused
returns-in_err-step_back-clause-refused g c =
    let p = err_from_is_err_and c.from_residual.result c.from_residual.ensures.1 in
    rw (p.1, p.2, c.in-Some.is) (refused_so c.in_err-step_back.field-0.0 _ _ _ _ _ (λ none lists place h. subst (λ cut. TornTable g.K.KeyOrder.cmp (seen (g.S.Store.facts c.args.source.now.store) c.args.source.now.tables c.args.source.now.blocks) c.in-Some.here.cursor.placed c.in-Some.here.cursor.table.value.frame cut) (prev_same g.K.KeyOrder.cmp (seen (g.S.Store.facts c.args.source.now.store) c.args.source.now.tables c.args.source.now.blocks) lists c.in-Some.here place h) (none (listed h.list (Some h.inside)) h.stands)) c.in_err-step_back.ensures.refused)

pub returns-then-branch-clause-steps : goal.returns-then-branch-clause-steps
returns-then-branch-clause-steps g c = λ t lists place placed.
    let h = rw c.in-Some.is at placed in
    went_back g.K.KeyOrder.cmp (seen (g.S.Store.facts c.args.source.now.store) c.args.source.now.tables c.args.source.now.blocks) (seen (g.S.Store.facts c.step_back.new.source.store) c.step_back.new.source.tables c.step_back.new.source.blocks) lists c.in-Some.here.index c.in-Some.here.cursor.placed c.step_back.new.self.placed c.in-Some.here.cursor.table.value.frame c.step_back.new.self.table.value.frame c.in-Some.here.cursor.here c.step_back.new.self.here place c.step_back.ensures.placed (λ i. (c.step_back.ensures.table i).value.frame) h ((rw c.if-branch.true at c.in_ok-step_back.ensures.steps) t (listed h.list (Some h.inside)) h.stands)

pub returns-clause-steps : goal.returns-clause-steps
returns-clause-steps g c = λ t lists place placed.
    let h = rw c.in-Some.is at placed in
    ended_back g.K.KeyOrder.cmp (seen (g.S.Store.facts c.args.source.now.store) c.args.source.now.tables c.args.source.now.blocks) (seen (g.S.Store.facts c.step_back.new.source.store) c.step_back.new.source.tables c.step_back.new.source.blocks) lists c.in-Some.here.index c.in-Some.here.cursor.placed c.step_back.new.self.placed c.in-Some.here.cursor.table.value.frame c.step_back.new.self.table.value.frame c.in-Some.here.cursor.here c.step_back.new.self.here place c.step_back.ensures.placed (λ i. (c.step_back.ensures.table i).value.frame) h ((rw c.if-branch.false at c.in_ok-step_back.ensures.steps) t (listed h.list (Some h.inside)) h.stands)

pub returns-in_err-step_back-clause-carries : goal.returns-in_err-step_back-clause-carries
returns-in_err-step_back-clause-carries g c = rw c.in-Some.is (carries_more g.K.KeyOrder.cmp (seen (g.S.Store.facts c.args.source.now.store) c.args.source.now.tables c.args.source.now.blocks) (seen (g.S.Store.facts c.step_back.new.source.store) c.step_back.new.source.tables c.step_back.new.source.blocks) (λ number same. sym same) c.step_back.ensures.carries)

pub returns-then-branch-clause-carries : goal.returns-then-branch-clause-carries
returns-then-branch-clause-carries g c = rw c.in-Some.is (carries_more g.K.KeyOrder.cmp (seen (g.S.Store.facts c.args.source.now.store) c.args.source.now.tables c.args.source.now.blocks) (seen (g.S.Store.facts c.step_back.new.source.store) c.step_back.new.source.tables c.step_back.new.source.blocks) (λ number same. sym same) c.step_back.ensures.carries)

pub returns-clause-carries : goal.returns-clause-carries
returns-clause-carries g c = rw c.in-Some.is (carries_more g.K.KeyOrder.cmp (seen (g.S.Store.facts c.args.source.now.store) c.args.source.now.tables c.args.source.now.blocks) (seen (g.S.Store.facts c.step_back.new.source.store) c.step_back.new.source.tables c.step_back.new.source.blocks) (λ number same. sym same) c.step_back.ensures.carries)
