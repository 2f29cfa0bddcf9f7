use Rattle.std.proofs.Common.{◌++◌, List, ℕ, ap, subst, ◌∙◌}
use Rattle.std.specs.Io.KnownBytes.{Appends}
use Rattle.ikey.specs.Orders.{order_of}
use Rattle.script.specs.Importing.{report_of}
use Rattle.script.proofs.Written.{on_err, no_more}
use Rattle.script.proofs.Imported.{import_stops, report_stops}
use Rattle.script.proofs.importing.import.Goals as goal

pub returns-in_err-ended-clause-stopped : goal.returns-in_err-ended-clause-stopped
returns-in_err-ended-clause-stopped g c =
    on_err c.from_residual.result _ (import_stops (order_of g.K.KeyOrder.name g.K.KeyOrder.cmp) g.S.Store.facts c.args.how.now c.args.session.now c.import_closed.new.session (g.R.Read.remaining c.args.reader)
    (g.W.Write.contents c.args.writer.now) c.in_err-ended.ensures.stopped)

pub returns-in_err-push_report-clause-stopped : goal.returns-in_err-push_report-clause-stopped
returns-in_err-push_report-clause-stopped g c =
    let ended = c.in_ok-ended.ended in
    let count = c.import_closed.new.taken in
    let written = g.W.Write.contents c.args.writer.now in
    on_err c.from_residual-in_err-push_report.result _ (report_stops (order_of g.K.KeyOrder.name g.K.KeyOrder.cmp) g.S.Store.facts c.args.how.now c.args.session.now c.import_closed.new.session (g.R.Read.remaining c.args.reader)
    written written ended count (report_of ended count) c.in_ok-ended.ensures.ended (λ i. report_of ended count) (no_more written (report_of ended count)))

pub returns-in_err-write_all-clause-stopped : goal.returns-in_err-write_all-clause-stopped
returns-in_err-write_all-clause-stopped g c =
    let ended = c.in_ok-ended.ended in
    let count = c.import_closed.new.taken in
    let text = c.as_slice.ensures.value ∙ c.in_ok-push_report.ensures ∙ ap (λ (old : List ℕ). old ++ report_of ended count) c.new-text.ensures.items in
    on_err c.from_residual-in_err-write_all.result _ (report_stops (order_of g.K.KeyOrder.name g.K.KeyOrder.cmp) g.S.Store.facts c.args.how.now c.args.session.now c.import_closed.new.session (g.R.Read.remaining c.args.reader)
    (g.W.Write.contents c.args.writer.now) (g.W.Write.contents c.write_all.new.writer) ended count c.as_slice.result.now c.in_ok-ended.ensures.ended text c.in_err-write_all.ensures.err)

pub returns-clause-done : goal.returns-clause-done
returns-clause-done g c =
    let ended = c.in_ok-ended.ended in
    let count = c.import_closed.new.taken in
    let text = c.as_slice.ensures.value ∙ c.in_ok-push_report.ensures ∙ ap (λ (old : List ℕ). old ++ report_of ended count) c.new-text.ensures.items in
    let import = c.in_ok-ended.ensures.ended in
    record {
      outcome = ended;
      count = count;
      between = import.0;
      closing = import.1;
      import = import.2;
      closed = import.3;
      written = subst (Appends (g.W.Write.contents c.args.writer.now) (g.W.Write.contents c.write_all.new.writer)) text c.in_ok-write_all.ensures.ok;
      says = c.status_of.ensures;
    }
