use Rattle.std.proofs.Common.{◌++◌, ◌∷◌, [], List, ℕ, ap, subst, ◌∙◌}
use Rattle.std.specs.Io.KnownBytes.{Appends}
use Rattle.ikey.specs.Orders.{order_of}
use Rattle.script.specs.Script.{line_of}
use Rattle.script.proofs.Written.{on_err}
use Rattle.script.proofs.Works.{runs_compaction, stops_unwritten, stops_written}
use Rattle.script.proofs.compaction.compact.Goals as goal

pub returns-then-not-is_end-clause-stopped : goal.returns-then-not-is_end-clause-stopped
returns-then-not-is_end-clause-stopped g c =
    let order = order_of g.K.KeyOrder.name g.K.KeyOrder.cmp in
    let facts = g.S.Store.facts in
    let ended = c.compact_opened-ended in
    stops_unwritten order facts c.args.level c.args.session.now c.shut.new.session (g.W.Write.contents c.args.writer.now) ended.result
    (runs_compaction order facts c.args.level c.args.session.now ended.new.session c.shut.new.session ended.result c.shut.result ended.ensures c.shut.ensures.closed)

pub returns-in_err-push_answer-clause-stopped : goal.returns-in_err-push_answer-clause-stopped
returns-in_err-push_answer-clause-stopped g c =
    let order = order_of g.K.KeyOrder.name g.K.KeyOrder.cmp in
    let facts = g.S.Store.facts in
    let ended = c.compact_opened-ended in
    on_err c.from_residual.result _ (stops_unwritten order facts c.args.level c.args.session.now c.shut.new.session (g.W.Write.contents c.args.writer.now) ended.result
    (runs_compaction order facts c.args.level c.args.session.now ended.new.session c.shut.new.session ended.result c.shut.result ended.ensures c.shut.ensures.closed))

pub returns-in_err-write_all-clause-stopped : goal.returns-in_err-write_all-clause-stopped
returns-in_err-write_all-clause-stopped g c =
    let order = order_of g.K.KeyOrder.name g.K.KeyOrder.cmp in
    let facts = g.S.Store.facts in
    let ended = c.compact_opened-ended in
    let text = c.as_slice.ensures.value ∙ c.in_ok-push_answer.ensures.ok ∙ ap (λ (old : List ℕ). old ++ (line_of ended.result ++ 10 ∷ [])) c.new-text.ensures.items in
    on_err c.from_residual-in_err-write_all.result _ (stops_written order facts c.args.level c.args.session.now c.shut.new.session (g.W.Write.contents c.args.writer.now) (g.W.Write.contents c.write_all.new.writer) ended.result c.as_slice.result.now
    (runs_compaction order facts c.args.level c.args.session.now ended.new.session c.shut.new.session ended.result c.shut.result ended.ensures c.shut.ensures.closed) text c.in_err-write_all.ensures.err)

pub returns-clause-done : goal.returns-clause-done
returns-clause-done g c =
    let order = order_of g.K.KeyOrder.name g.K.KeyOrder.cmp in
    let facts = g.S.Store.facts in
    let ended = c.compact_opened-ended in
    let text = c.as_slice.ensures.value ∙ c.in_ok-push_answer.ensures.ok ∙ ap (λ (old : List ℕ). old ++ (line_of ended.result ++ 10 ∷ [])) c.new-text.ensures.items in
    record {
      ended = ended.result;
      end = c.if-not-is_end.ensures;
      compaction = runs_compaction order facts c.args.level c.args.session.now ended.new.session c.shut.new.session ended.result c.shut.result ended.ensures c.shut.ensures.closed;
      written = subst (Appends (g.W.Write.contents c.args.writer.now) (g.W.Write.contents c.write_all.new.writer)) text c.in_ok-write_all.ensures.ok;
      says = c.status_of.ensures;
    }
